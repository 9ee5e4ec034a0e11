-- Where a path leads from a token: as a relation, and as a set that is computed.
use Rattle.std.specs.Prelude.{◌≡◌, ℕ, zero, suc, ◌-◌, ◌≤◌, ◌⊎◌, Bool, true, false, ◌&&◌, ◌||◌, ◌==◌, nat_lt, nat_le, List, length, Option, Some, None, slice_get}
use Rattle.std.specs.List.{list_any}
use Rattle.od_asked.specs.Texts.{fits}
use Rattle.od_asked.specs.Holds.{holds}
use Rattle.od_document.specs.declared.token.Edge.{Edge}
use Rattle.od_document.specs.declared.sentence.Sentence.{Sentence}
use Rattle.od_pattern.specs.declared.pattern.Value.{Value}
use Rattle.od_pattern.specs.declared.pattern.Constraint.{Constraint}
use Rattle.od_pattern.specs.declared.path.Path.{Path, Along, Against, Filter, Seq', Alt', Repeat', Row_of-Path, end_of-Path, more_of-Path}

-- from a token to a token
abbrev pub Link : Type 1
Link = ℕ → ℕ → Type 0

-- any label, or one that fits the value
abbrev pub fits_any : Option Value → List ℕ → Bool
fits_any None label = true
fits_any (Some value) label = fits value label

-- over an edge whose label fits, from its one end to its other
pub record Crosses (from to : Edge → ℕ) (value : Option Value) (edges : List Edge) (a b : ℕ) : Type 0 where
  pub place : ℕ
  pub edge : Edge
  pub is_there : slice_get edges place ≡ Some edge
  pub label : fits_any value edge.label ≡ true
  pub begins : from edge ≡ a
  pub ends : to edge ≡ b

-- to the same token, where the test passes
abbrev pub Here : (ℕ → Bool) → Link
Here test a b = (test a ≡ true) × (b ≡ a)

-- one after the other
abbrev pub Joined : Link → Link → Link
Joined A B a b = (mid : ℕ) × A a mid × B mid b

-- n times
abbrev pub Turned : Link → ℕ → Link
Turned A zero a b = b ≡ a
Turned A (suc n) a b = Joined A (Turned A n) a b

-- at most so many turns, where there is a most
abbrev pub UpTo : Option ℕ → ℕ → Type 0
UpTo None n = Unit {0}
UpTo (Some most) n = n ≤ most

-- some number of times, at least and at most so many
abbrev pub Repeated : Link → ℕ → Option ℕ → Link
Repeated A least most a b = (n : ℕ) × (least ≤ n) × UpTo most n × Turned A n a b

-- the token that an edge comes from
abbrev pub governor : Edge → ℕ
governor edge = edge.governor

-- the token that an edge goes to
abbrev pub dependent : Edge → ℕ
dependent edge = edge.dependent

-- how many nodes a sentence has, which paths lead to: its tokens
abbrev pub nodes : Sentence → ℕ
nodes s = length s.tokens

-- a node of the sentence where the constraint holds
abbrev pub holds_there : Sentence → Constraint → ℕ → Bool
holds_there s c k = nat_lt k (nodes s) && holds s c k

module _ (s : Sentence) where
  unfoldable mutual
    -- the path leads from token a to token b
    pub leads : Path → Link
    leads (Along value) = Crosses governor dependent value s.edges
    leads (Against value) = Crosses dependent governor value s.edges
    leads (Filter c) = Here (holds_there s c)
    leads (Seq' v row) = leads_on row
    leads (Alt' v row) = leads_by row
    leads (Repeat' v (more_of-Path p end_of-Path) least most) = Repeated (leads p) least most

    -- the paths one after another
    pub leads_on : {m : _} → Row_of-Path m → Link
    leads_on end_of-Path a b = b ≡ a
    leads_on (more_of-Path p rest) a b = Joined (leads p) (leads_on rest) a b

    -- one of the paths
    pub leads_by : {m : _} → Row_of-Path m → Link
    leads_by end_of-Path a b = ⊥
    leads_by (more_of-Path p rest) a b = leads p a b ⊎ leads_by rest a b

-- a set of tokens
abbrev pub Set : Type 0
Set = ℕ → Bool

-- the tokens behind an edge whose label fits and that begins at a marked token
abbrev pub cross : (from to : Edge → ℕ) → Option Value → List Edge → Set → Set
cross from to value edges marked b =
    list_any (λ edge. fits_any value edge.label && marked (from edge) && (to edge == b)) edges

-- the tokens of both sets
abbrev pub union : Set → Set → Set
union marked more b = marked b || more b

-- n times
abbrev pub turned : (Set → Set) → ℕ → Set → Set
turned f zero marked = marked
turned f (suc n) marked = turned f n (f marked)

-- up to n times
abbrev pub spread : (Set → Set) → ℕ → Set → Set
spread f zero marked = marked
spread f (suc n) marked = spread f n (union marked (f marked))

-- at least and at most so many times;
-- where there is no most, as many further turns as there are nodes are enough
abbrev pub repeated : ℕ → (Set → Set) → ℕ → Option ℕ → Set → Set
repeated count f least None marked b = spread f count (turned f least marked) b
repeated count f least (Some most) marked b =
    nat_le least most && spread f (most - least) (turned f least marked) b

module _ (s : Sentence) where
  unfoldable mutual
    -- the tokens that the path leads to from a marked one
    pub reached : Path → Set → Set
    reached (Along value) marked b = cross governor dependent value s.edges marked b
    reached (Against value) marked b = cross dependent governor value s.edges marked b
    reached (Filter c) marked b = marked b && holds_there s c b
    reached (Seq' v row) marked b = reached_on row marked b
    reached (Alt' v row) marked b = reached_by row marked b
    reached (Repeat' v (more_of-Path p end_of-Path) least most) marked b =
        repeated (nodes s) (reached p) least most marked b

    -- the paths one after another
    pub reached_on : {m : _} → Row_of-Path m → Set → Set
    reached_on end_of-Path marked b = marked b
    reached_on (more_of-Path p rest) marked b = reached_on rest (reached p marked) b

    -- one of the paths
    pub reached_by : {m : _} → Row_of-Path m → Set → Set
    reached_by end_of-Path marked b = false
    reached_by (more_of-Path p rest) marked b = reached p marked b || reached_by rest marked b
