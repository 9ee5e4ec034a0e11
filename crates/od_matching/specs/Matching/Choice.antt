-- How a piece of a pattern goes from a place to a place: with which captures, and by which choices.
use Rattle.std.specs.Prelude.{◌≡◌, ℕ, zero, suc, ◌+◌, ◌-◌, ◌<◌, ◌≤◌, ◌⊎◌, Bool, true, false, List, [], ◌∷◌, ◌++◌, None}
use Rattle.od_extraction.specs.declared.mention.Part.{Part}

-- a capture: a part of this name, without a label, from a start to an end
abbrev pub capture : List ℕ → ℕ → ℕ → Part
capture name start end = record { name = name; label = None; start = start; end = end }

-- from a place to a place, with these captures and by these choices
abbrev pub Relation : Type 1
Relation = ℕ → ℕ → List Part → List ℕ → Type 0

-- dictionary order: a proper front comes before what it begins
abbrev pub Before : List ℕ → List ℕ → Type 0
Before [] [] = ⊥
Before [] (y ∷ ys) = Unit {0}
Before (x ∷ xs) [] = ⊥
Before (x ∷ xs) (y ∷ ys) = (x < y) ⊎ ((x ≡ y) × Before xs ys)

-- nothing is taken
pub record Stays (i j : ℕ) (c : List Part) (t : List ℕ) : Type 0 where
  pub ends : j ≡ i
  pub captures : c ≡ []
  pub choices : t ≡ []

-- the token at the place is taken, which passes the test
pub record OneToken (test : ℕ → Bool) (i j : ℕ) (c : List Part) (t : List ℕ) : Type 0 where
  pub passes : test i ≡ true
  pub ends : j ≡ i + 1
  pub captures : c ≡ []
  pub choices : t ≡ []

-- nothing is taken, at a place that passes the test
pub record Test (test : ℕ → Bool) (i j : ℕ) (c : List Part) (t : List ℕ) : Type 0 where
  pub passes : test i ≡ true
  pub stays : Stays i j c t

-- a span that begins at the place is taken; the choice is what it leaves of the sentence,
-- so the longest comes first
pub record Jump (length : ℕ) (is_span : ℕ → ℕ → Bool) (i j : ℕ) (c : List Part) (t : List ℕ) : Type 0 where
  pub passes : is_span i j ≡ true
  pub forward : i < j
  pub within : j ≤ length
  pub captures : c ≡ []
  pub choices : t ≡ (length - j) ∷ []

-- no way at all
abbrev pub Never : Relation
Never i j c t = ⊥

-- one after the other
pub record Then (A B : Relation) (i j : ℕ) (c : List Part) (t : List ℕ) : Type 0 where
  pub mid : ℕ
  pub c1 : List Part
  pub c2 : List Part
  pub t1 : List ℕ
  pub t2 : List ℕ
  pub left : A i mid c1 t1
  pub right : B mid j c2 t2
  pub captures : c ≡ c1 ++ c2
  pub choices : t ≡ t1 ++ t2

-- by the choice n
pub record Choose (n : ℕ) (A : Relation) (i j : ℕ) (c : List Part) (t : List ℕ) : Type 0 where
  pub later : List ℕ
  pub choices : t ≡ n ∷ later
  pub goes : A i j c later

-- one or the other
abbrev pub Either : Relation → Relation → Relation
Either A B i j c t = A i j c t ⊎ B i j c t

-- taking at least one token
abbrev pub Took : Relation → Relation
Took A i j c t = (i < j) × A i j c t

-- what is taken is a capture, before the captures inside it
pub record Named (name : List ℕ) (A : Relation) (i j : ℕ) (c : List Part) (t : List ℕ) : Type 0 where
  pub inner : List Part
  pub captures : c ≡ capture name i j ∷ inner
  pub goes : A i j inner t

-- n turns without a choice, and then B
abbrev pub Times : Relation → ℕ → Relation → Relation
Times A zero B = B
Times A (suc n) B = Then A (Times A n B)

-- the number of the choice for another turn: 0 where that is preferred
abbrev pub another : Bool → ℕ
another true = 1
another false = 0

-- the number of the choice to stop
abbrev pub stop : Bool → ℕ
stop true = 0
stop false = 1

-- up to n further turns, each of which takes a token; with none left to choose there is no choice
abbrev pub Further : Bool → Relation → ℕ → Relation
Further lazy A zero = Stays
Further lazy A (suc n) =
    Either (Choose (another lazy) (Then (Took A) (Further lazy A n))) (Choose (stop lazy) Stays)

-- n further turns, and the choice to stop
abbrev pub Exactly : Bool → Relation → ℕ → Relation
Exactly lazy A zero = Choose (stop lazy) Stays
Exactly lazy A (suc n) = Choose (another lazy) (Then (Took A) (Exactly lazy A n))

-- any number of further turns
abbrev pub Endless : Bool → Relation → Relation
Endless lazy A i j c t = (n : ℕ) × Exactly lazy A n i j c t
