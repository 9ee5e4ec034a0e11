-- The preferred way is the one whose choices come first.
use Rattle.std.proofs.Common.{◌≡◌, ℕ, zero, suc, ◌+◌, ◌-◌, ◌<◌, ◌≤◌, ◌⊎◌, Bool, true, false, List, [], ◌∷◌, ◌++◌, refl, sym, ◌∙◌, ap, subst, inl, inr, arith, append_assoc}
use Rattle.std.proofs.lemmas.List.{append-nil}
use Rattle.std.proofs.Math.Nat.{le-suc_iff}
use Rattle.std.proofs.lemmas.Bool.{ltb-true, lt-ltb}
use Rattle.std.specs.Prelude.{Option, Some, None, if◌then◌else◌, nat_lt, option_map}
use Rattle.std.specs.Option.{option_or}
use Rattle.od_matching.specs.Matching.Choice.{capture, Relation, Before, Stays, OneToken, Test, Jump, Never, Then, Choose, Either, Took, Named, Times, another, stop, Further, Exactly, Endless}
use Rattle.od_matching.specs.Matching.First.{Ending, Continuation, Trial, add, close, open_capture, first_one, first_test, first_down, first_jump, first_never, first_then, first_took, first_named, first_times, prefer, first_further, first_endless}
use Rattle.od_matching.proofs.Matching.Unambiguous.{Same, IsUnambiguous, agree-Took}
use Rattle.od_extraction.specs.declared.mention.Part.{Part}

-- a way of A from i, on which the rest goes on, and before which nothing does
pub record Preferred (A : Relation) (k : Continuation) (i : ℕ) (o : Ending) : Type 0 where
  pub end : ℕ
  pub captures : List Part
  pub choices : List ℕ
  pub rest : Ending
  pub goes : A i end captures choices
  pub on : k end ≡ Some rest
  pub whole : o ≡ add captures rest
  pub least : (j : ℕ) (c : List Part) (t : List ℕ) → A i j c t → Before t choices → k j ≡ None

-- what a trial answers: the preferred way, or that no way of A goes on
abbrev pub IsFirst : Relation → Continuation → ℕ → Option Ending → Type 0
IsFirst A k i None = (j : ℕ) (c : List Part) (t : List ℕ) → A i j c t → k j ≡ None
IsFirst A k i (Some o) = Preferred A k i o

-- the trial f answers with the preferred way of A, whatever follows
abbrev pub Firsts : ℕ → Relation → Trial → Type 0
Firsts l A f = (k : Continuation) (i : ℕ) → i ≤ l → IsFirst A k i (f k i)

-- it goes forward, and stays within the sentence
abbrev pub Within : ℕ → Relation → Type 0
Within l A = (i j : ℕ) (c : List Part) (t : List ℕ) → i ≤ l → A i j c t → (i ≤ j) × (j ≤ l)

none_some : {A : Type 0} {o : Ending} {x : Option Ending} → x ≡ Some o → x ≡ None → A
none_some e f = cc

-- nothing comes before the empty list of choices
before_nil : (t : List ℕ) → Before t [] → ⊥
before_nil [] h = h
before_nil (x ∷ xs) h = h

-- where the one comes before the other, a front of it does, or they have the front in common
before_split : (a a' b b' : List ℕ) → Before (a' ++ b') (a ++ b) → Before a' a ⊎ ((u : List ℕ) × (a' ≡ a ++ u) × Before (u ++ b') b)
before_split [] a' b b' h = inr (a', refl, h)
before_split (x ∷ a) [] b b' h = inl tt
before_split (x ∷ a) (y ∷ a') b b' (inl lt) = inl (inl lt)
before_split (x ∷ a) (y ∷ a') b b' (inr (e, h)) =
    elim (before_split a a' b b' h) [
      | inl g ↦ inl (inr (e, g))
      | inr (u, p, g) ↦ inr (u, (let q : y ∷ a' ≡ x ∷ (a ++ u) = cc in q), g)
    ]

-- a way that stays
stays_first : (k : Continuation) (i : ℕ) (x : Option Ending) → k i ≡ x → IsFirst Stays k i x
stays_first k i None e = λ j c t d. ap k d.ends ∙ e
stays_first k i (Some o) e = record {
  end = i;
  captures = [];
  choices = [];
  rest = o;
  goes = record { ends = refl; captures = refl; choices = refl };
  on = e;
  whole = refl;
  least = λ j c t d h. absurd (before_nil t h);
}

-- the single trials, each first with its answer as a variable
pub first-Stays : (l : ℕ) → Firsts l Stays (λ k i. k i)
first-Stays l k i h = stays_first k i (k i) refl

-- a token, by whether it passes and what follows it
one_first : (f : ℕ → Bool) (k : Continuation) (i : ℕ) (b : Bool) (x : Option Ending) → f i ≡ b → k (i + 1) ≡ x → IsFirst (OneToken f) k i (if b then x else None)
one_first f k i false x e h = λ j c t d. absurd (let p : false ≡ true = sym e ∙ d.passes in cc)
one_first f k i true None e h = λ j c t d. ap k d.ends ∙ h
one_first f k i true (Some o) e h = record {
  end = i + 1;
  captures = [];
  choices = [];
  rest = o;
  goes = record { passes = e; ends = refl; captures = refl; choices = refl };
  on = h;
  whole = refl;
  least = λ j c t d g. absurd (before_nil t g);
}

pub first-One : (l : ℕ) (f : ℕ → Bool) → Firsts l (OneToken f) (first_one f)
first-One l f k i h = one_first f k i (f i) (k (i + 1)) refl refl

-- a test of the place, in the same way
test_first : (f : ℕ → Bool) (k : Continuation) (i : ℕ) (b : Bool) (x : Option Ending) → f i ≡ b → k i ≡ x → IsFirst (Test f) k i (if b then x else None)
test_first f k i false x e h = λ j c t d. absurd (let p : false ≡ true = sym e ∙ d.passes in cc)
test_first f k i true None e h = λ j c t d. ap k d.stays.ends ∙ h
test_first f k i true (Some o) e h = record {
  end = i;
  captures = [];
  choices = [];
  rest = o;
  goes = record { passes = e; stays = record { ends = refl; captures = refl; choices = refl } };
  on = h;
  whole = refl;
  least = λ j c t d g. absurd (before_nil t g);
}

pub first-Test : (l : ℕ) (f : ℕ → Bool) → Firsts l (Test f) (first_test f)
first-Test l f k i h = test_first f k i (f i) (k i) refl refl

pub first-Never : (l : ℕ) → Firsts l Never first_never
first-Never l k i h = λ j c t d. absurd d

-- one after the other
module _ (l : ℕ) (A B : Relation) (g : Trial) (la : IsUnambiguous A) (wa : Within l A) (fb : Firsts l B g) where
  -- nothing of A goes on with B where no way of B goes on
  blocked : (k : Continuation) (m : ℕ) → m ≤ l → g k m ≡ None → (j : ℕ) (c : List Part) (t : List ℕ) → B m j c t → k j ≡ None
  blocked k m h e j c t d = let f : IsFirst B k m None = subst (IsFirst B k m) e (fb k m h) in f j c t d

  -- the preferred way of B from where a way of A ends
  after : (k : Continuation) (m : ℕ) (o : Ending) → m ≤ l → g k m ≡ Some o → Preferred B k m o
  after k m o h e = subst (IsFirst B k m) e (fb k m h)

  -- the preferred way of both is the preferred way of A on which B goes on, and then that of B
  then_first : (k : Continuation) (i : ℕ) (x : Option Ending) → i ≤ l → IsFirst A (g k) i x → IsFirst (Then A B) k i x
  then_first k i None h f = λ j c t d. blocked k d.mid (wa i d.mid d.c1 d.t1 h d.left).1 (f d.mid d.c1 d.t1 d.left) j d.c2 d.t2 d.right
  then_first k i (Some o) h a =
      let b : Preferred B k a.end a.rest = after k a.end a.rest (wa i a.end a.captures a.choices h a.goes).1 a.on in
      let w : o ≡ add (a.captures ++ b.captures) b.rest =
      a.whole ∙ ap (add a.captures) b.whole ∙ ap (λ (z : List Part). record { end = b.rest.end; captures = z; ends = b.rest.ends }) (sym (append_assoc a.captures b.captures b.rest.captures)) in
      let at_least : (j : ℕ) (c : List Part) (t : List ℕ) → Then A B i j c t → Before t (a.choices ++ b.choices) → k j ≡ None = λ j c t d q.
      let q' : Before (d.t1 ++ d.t2) (a.choices ++ b.choices) = subst (λ (z : List ℕ). Before z (a.choices ++ b.choices)) d.choices q in
      elim (before_split a.choices d.t1 b.choices d.t2 q') [
        | inl lt ↦ blocked k d.mid (wa i d.mid d.c1 d.t1 h d.left).1 (a.least d.mid d.c1 d.t1 d.left lt) j d.c2 d.t2 d.right
        | inr (u, p, lt) ↦
            let s : Same a.end d.mid a.captures d.c1 a.choices d.t1 u [] =
            la i i a.end d.mid a.captures d.c1 a.choices d.t1 u [] refl a.goes d.left (sym p ∙ sym (append-nil d.t1)) in
            b.least j d.c2 d.t2 (subst (λ (z : ℕ). B z j d.c2 d.t2) (sym s.ends) d.right) (subst (λ (z : List ℕ). Before (z ++ d.t2) b.choices) s.rest lt)
      ] in
      record {
        end = b.end;
        captures = a.captures ++ b.captures;
        choices = a.choices ++ b.choices;
        rest = b.rest;
        goes = record { mid = a.end; c1 = a.captures; c2 = b.captures; t1 = a.choices; t2 = b.choices; left = a.goes; right = b.goes; captures = refl; choices = refl };
        on = b.on;
        whole = w;
        least = at_least;
      }

  pub first-Then : (f : Trial) → Firsts l A f → Firsts l (Then A B) (first_then f g)
  first-Then f fa k i h = then_first k i (f (g k) i) h (fa (g k) i h)

-- a relation that says the same
pub first_along : (A B : Relation) (k : Continuation) (i : ℕ) (x : Option Ending) → ((j : ℕ) (c : List Part) (t : List ℕ) → A i j c t → B i j c t)
    → ((j : ℕ) (c : List Part) (t : List ℕ) → B i j c t → A i j c t) → IsFirst A k i x → IsFirst B k i x
first_along A B k i None to from f = λ j c t d. f j c t (from j c t d)
first_along A B k i (Some o) to from a = record {
  end = a.end;
  captures = a.captures;
  choices = a.choices;
  rest = a.rest;
  goes = to a.end a.captures a.choices a.goes;
  on = a.on;
  whole = a.whole;
  least = λ j c t d. a.least j c t (from j c t d);
}

-- one and the same choice before all ways changes nothing
pub choose_first : (n : ℕ) (A : Relation) (k : Continuation) (i : ℕ) (x : Option Ending) → IsFirst A k i x → IsFirst (Choose n A) k i x
choose_first n A k i None f = λ j c t d. f j c d.later d.goes
choose_first n A k i (Some o) a = record {
  end = a.end;
  captures = a.captures;
  choices = n ∷ a.choices;
  rest = a.rest;
  goes = record { later = a.choices; choices = refl; goes = a.goes };
  on = a.on;
  whole = a.whole;
  least = λ j c t d q.
      let q' : Before (n ∷ d.later) (n ∷ a.choices) = subst (λ (z : List ℕ). Before z (n ∷ a.choices)) d.choices q in
      elim q' [ inl lt ↦ absurd (omega arith) | inr (e, h) ↦ a.least j c d.later d.goes h ];
}

-- no way of B comes before one of A
abbrev pub Order : Relation → Relation → ℕ → Type 0
Order A B i = (j j' : ℕ) (c c' : List Part) (t t' : List ℕ) → A i j c t → B i j' c' t' → Before t' t → ⊥

pub order-Choose : (n m : ℕ) (A B : Relation) (i : ℕ) → n < m → Order (Choose n A) (Choose m B) i
order-Choose n m A B i lt j j' c c' t t' d d' q =
    let q' : Before (m ∷ d'.later) (n ∷ d.later) =
    subst (λ (z : List ℕ). Before z (n ∷ d.later)) d'.choices (subst (λ (z : List ℕ). Before t' z) d.choices q) in
    elim q' [ inl h ↦ absurd (omega arith) | inr (e, h) ↦ absurd (omega arith) ]

-- the preferred way of A, and else that of B, where no choice of B comes before one of A
pub or_first : (A B : Relation) (k : Continuation) (i : ℕ) (x y : Option Ending) → Order A B i → IsFirst A k i x → IsFirst B k i y → IsFirst (Either A B) k i (option_or x y)
or_first A B k i None None order f g = λ j c t d. elim d [ inl a ↦ f j c t a | inr b ↦ g j c t b ]
or_first A B k i None (Some o) order f b = record {
  end = b.end;
  captures = b.captures;
  choices = b.choices;
  rest = b.rest;
  goes = inr b.goes;
  on = b.on;
  whole = b.whole;
  least = λ j c t d q. elim d [ inl a ↦ f j c t a | inr b' ↦ b.least j c t b' q ];
}
or_first A B k i (Some o) y order a g = record {
  end = a.end;
  captures = a.captures;
  choices = a.choices;
  rest = a.rest;
  goes = inl a.goes;
  on = a.on;
  whole = a.whole;
  least = λ j c t d q. elim d [ inl a' ↦ a.least j c t a' q | inr b ↦ absurd (order a.end j a.captures c a.choices t a.goes b q) ];
}

if_none : (b : Bool) (x : Option Ending) → b ≡ true → (if b then x else None) ≡ None → x ≡ None
if_none true x e h = h
if_none false x e h = absurd (let p : false ≡ true = e in cc)

if_some : (b : Bool) (x : Option Ending) (o : Ending) → (if b then x else None) ≡ Some o → (b ≡ true) × (x ≡ Some o)
if_some true x o h = (refl, h)
if_some false x o h = absurd (let p : None ≡ Some o = h in cc)

-- ways that take no token are left out
pub took_first : (A : Relation) (k : Continuation) (i : ℕ) (x : Option Ending) → IsFirst A (λ j. if nat_lt i j then k j else None) i x → IsFirst (Took A) k i x
took_first A k i None f = λ j c t d. if_none (nat_lt i j) (k j) (lt-ltb i j d.0) (f j c t d.1)
took_first A k i (Some o) a =
    let h : (nat_lt i a.end ≡ true) × (k a.end ≡ Some a.rest) = if_some (nat_lt i a.end) (k a.end) a.rest a.on in
    record {
      end = a.end;
      captures = a.captures;
      choices = a.choices;
      rest = a.rest;
      goes = (ltb-true i a.end h.0, a.goes);
      on = h.1;
      whole = a.whole;
      least = λ j c t d q. if_none (nat_lt i j) (k j) (lt-ltb i j d.0) (a.least j c t d.1 q);
    }

map_none : (f : Ending → Ending) (x : Option Ending) → option_map f x ≡ None → x ≡ None
map_none f None e = refl
map_none f (Some o) e = absurd (let p : Some (f o) ≡ None = e in cc)

map_some : (f : Ending → Ending) (x : Option Ending) (o : Ending) → option_map f x ≡ Some o → (o' : Ending) × (x ≡ Some o') × (o ≡ f o')
map_some f None o e = absurd (let p : None ≡ Some o = e in cc)
map_some f (Some o') o e = (o', refl, (let p : Some (f o') ≡ Some o = e in cc))

-- a way and the same way as a capture
pub named_first : (name : List ℕ) (A : Relation) (k : Continuation) (i : ℕ) (x : Option Ending) → IsFirst A (λ j. option_map (close j) (k j)) i x
    → IsFirst (Named name A) k i (option_map (open_capture name i) x)
named_first name A k i None f = λ j c t d. map_none (close j) (k j) (f j d.inner t d.goes)
named_first name A k i (Some o) a =
    let h : (o' : Ending) × (k a.end ≡ Some o') × (a.rest ≡ close a.end o') = map_some (close a.end) (k a.end) a.rest a.on in
    let w : o ≡ add a.captures (close a.end h.0) = a.whole ∙ ap (add a.captures) h.2 in
    record {
      end = a.end;
      captures = capture name i a.end ∷ a.captures;
      choices = a.choices;
      rest = h.0;
      goes = record { inner = a.captures; captures = refl; goes = a.goes };
      on = h.1;
      whole = ap (open_capture name i) w;
      least = λ j c t d q. map_none (close j) (k j) (a.least j d.inner t d.goes q);
    }

-- the ways stay within the sentence
pub within-Stays : (l : ℕ) → Within l Stays
within-Stays l i j c t h d = let e : j ≡ i = d.ends in (omega arith, omega arith)

-- the same of the other relations
pub within-One : (l : ℕ) (f : ℕ → Bool) → ((i : ℕ) → f i ≡ true → i < l) → Within l (OneToken f)
within-One l f inside i j c t h d = let e : j ≡ i + 1 = d.ends in let lt : i < l = inside i d.passes in (omega arith, omega arith)

pub within-Test : (l : ℕ) (f : ℕ → Bool) → Within l (Test f)
within-Test l f i j c t h d = within-Stays l i j c t h d.stays

pub within-Jump : (l : ℕ) (f : ℕ → ℕ → Bool) → Within l (Jump l f)
within-Jump l f i j c t h d = let lt : i < j = d.forward in (omega arith, d.within)

pub within-Never : (l : ℕ) → Within l Never
within-Never l i j c t h d = absurd d

pub within-Then : (l : ℕ) (A B : Relation) → Within l A → Within l B → Within l (Then A B)
within-Then l A B wa wb i j c t h d =
    let x : (i ≤ d.mid) × (d.mid ≤ l) = wa i d.mid d.c1 d.t1 h d.left in
    let y : (d.mid ≤ j) × (j ≤ l) = wb d.mid j d.c2 d.t2 x.1 d.right in
    (omega arith, y.1)

pub within-Choose : (l n : ℕ) (A : Relation) → Within l A → Within l (Choose n A)
within-Choose l n A wa i j c t h d = wa i j c d.later h d.goes

pub within-Or : (l : ℕ) (A B : Relation) → Within l A → Within l B → Within l (Either A B)
within-Or l A B wa wb i j c t h (inl d) = wa i j c t h d
within-Or l A B wa wb i j c t h (inr d) = wb i j c t h d

pub within-Took : (l : ℕ) (A : Relation) → Within l A → Within l (Took A)
within-Took l A wa i j c t h d = wa i j c t h d.1

pub within-Named : (l : ℕ) (name : List ℕ) (A : Relation) → Within l A → Within l (Named name A)
within-Named l name A wa i j c t h d = wa i j d.inner t h d.goes

pub within-Times : (l : ℕ) (A : Relation) (n : ℕ) (B : Relation) → Within l A → Within l B → Within l (Times A n B)
within-Times l A zero B wa wb = wb
within-Times l A (suc n) B wa wb = within-Then l A (Times A n B) wa (within-Times l A n B wa wb)

pub within-Further : (l : ℕ) (lazy : Bool) (A : Relation) (n : ℕ) → Within l A → Within l (Further lazy A n)
within-Further l lazy A zero wa = within-Stays l
within-Further l lazy A (suc n) wa =
    within-Or l _ _ (within-Choose l (another lazy) _ (within-Then l (Took A) (Further lazy A n) (within-Took l A wa) (within-Further l lazy A n wa))) (within-Choose l (stop lazy) Stays (within-Stays l))

pub within-Exactly : (l : ℕ) (lazy : Bool) (A : Relation) (n : ℕ) → Within l A → Within l (Exactly lazy A n)
within-Exactly l lazy A zero wa = within-Choose l (stop lazy) Stays (within-Stays l)
within-Exactly l lazy A (suc n) wa =
    within-Choose l (another lazy) _ (within-Then l (Took A) (Exactly lazy A n) (within-Took l A wa) (within-Exactly l lazy A n wa))

pub within-Endless : (l : ℕ) (lazy : Bool) (A : Relation) → Within l A → Within l (Endless lazy A)
within-Endless l lazy A wa i j c t h d = within-Exactly l lazy A d.0 wa i j c t h d.1

-- turns without a choice
pub first-Times : (l : ℕ) (A : Relation) (f : Trial) (n : ℕ) (B : Relation) (g : Trial) → IsUnambiguous A → Within l A → Firsts l A f → Firsts l B g → Firsts l (Times A n B) (first_times f n g)
first-Times l A f zero B g la wa fa fb = fb
first-Times l A f (suc n) B g la wa fa fb = first-Then l A (Times A n B) (first_times f n g) la wa (first-Times l A f n B g la wa fa fb) f fa

pub first-Took : (l : ℕ) (A : Relation) (f : Trial) → Firsts l A f → Firsts l (Took A) (first_took f)
first-Took l A f fa k i h = took_first A k i _ (fa (λ j. if nat_lt i j then k j else None) i h)

pub first-Named : (l : ℕ) (name : List ℕ) (A : Relation) (f : Trial) → Firsts l A f → Firsts l (Named name A) (first_named name f)
first-Named l name A f fa k i h = named_first name A k i _ (fa (λ j. option_map (close j) (k j)) i h)

-- the order of the two sides does not matter to what is preferred
swapped : (A B : Relation) (k : Continuation) (i : ℕ) (x : Option Ending) → IsFirst (Either B A) k i x → IsFirst (Either A B) k i x
swapped A B k i x f = first_along (Either B A) (Either A B) k i x (λ j c t d. elim d [ inl a ↦ inr a | inr b ↦ inl b ]) (λ j c t d. elim d [ inl a ↦ inr a | inr b ↦ inl b ]) f

-- one more turn, or none
turn_first : (lazy : Bool) (A : Relation) (k : Continuation) (i : ℕ) (x y : Option Ending) → IsFirst A k i x → IsFirst Stays k i y
    → IsFirst (Either (Choose (another lazy) A) (Choose (stop lazy) Stays)) k i (prefer lazy x y)
turn_first true A k i x y f g =
    swapped (Choose 1 A) (Choose 0 Stays) k i _ (or_first (Choose 0 Stays) (Choose 1 A) k i y x (order-Choose 0 1 Stays A i (omega arith)) (choose_first 0 Stays k i y g) (choose_first 1 A k i x f))
turn_first false A k i x y f g =
    or_first (Choose 0 A) (Choose 1 Stays) k i x y (order-Choose 0 1 A Stays i (omega arith)) (choose_first 0 A k i x f) (choose_first 1 Stays k i y g)

module _ (l : ℕ) (lazy : Bool) (A : Relation) (f : Trial) (la : IsUnambiguous A) (wa : Within l A) (fa : Firsts l A f) where
  -- up to n further turns
  pub first-Further : (n : ℕ) → Firsts l (Further lazy A n) (first_further lazy f n)
  first-Further zero k i h = first-Stays l k i h
  first-Further (suc n) k i h =
      turn_first lazy (Then (Took A) (Further lazy A n)) k i _ (k i)
      (first-Then l (Took A) (Further lazy A n) (first_further lazy f n) (agree-Took A la) (within-Took l A wa) (first-Further n) (first_took f) (first-Took l A f fa) k i h)
      (first-Stays l k i h)

  -- as many turns as there are tokens left are all that there can be
  to_endless : (n i j : ℕ) (c : List Part) (t : List ℕ) → i ≤ l → l - i < n → Further lazy A n i j c t → Endless lazy A i j c t
  to_endless zero i j c t h lt d = absurd (omega arith)
  to_endless (suc n) i j c t h lt (inr d) = (0, d)
  to_endless (suc n) i j c t h lt (inl d) =
      let on : i < d.goes.mid = d.goes.left.0 in
      let inside : d.goes.mid ≤ l = (wa i d.goes.mid d.goes.c1 d.goes.t1 h d.goes.left.1).1 in
      let r : Endless lazy A d.goes.mid j d.goes.c2 d.goes.t2 = to_endless n d.goes.mid j d.goes.c2 d.goes.t2 inside (omega arith) d.goes.right in (
        suc r.0,
        record {
          later = d.later;
          choices = d.choices;
          goes = record { mid = d.goes.mid; c1 = d.goes.c1; c2 = d.goes.c2; t1 = d.goes.t1; t2 = d.goes.t2; left = d.goes.left; right = r.1; captures = d.goes.captures; choices = d.goes.choices };
        },
      )

  -- any number of turns that each take a token is within that
  from_exactly : (m n i j : ℕ) (c : List Part) (t : List ℕ) → i ≤ l → l - i < n → Exactly lazy A m i j c t → Further lazy A n i j c t
  from_exactly m zero i j c t h lt d = absurd (omega arith)
  from_exactly zero (suc n) i j c t h lt d = inr d
  from_exactly (suc m) (suc n) i j c t h lt d =
      let on : i < d.goes.mid = d.goes.left.0 in
      let inside : d.goes.mid ≤ l = (wa i d.goes.mid d.goes.c1 d.goes.t1 h d.goes.left.1).1 in
      inl (record {
        later = d.later;
        choices = d.choices;
        goes = record { mid = d.goes.mid; c1 = d.goes.c1; c2 = d.goes.c2; t1 = d.goes.t1; t2 = d.goes.t2; left = d.goes.left; right = from_exactly m n d.goes.mid j d.goes.c2 d.goes.t2 inside (omega arith) d.goes.right; captures = d.goes.captures; choices = d.goes.choices };
      })

  -- any number of further turns
  pub first-Endless : Firsts l (Endless lazy A) (first_endless l lazy f)
  first-Endless k i h =
      first_along (Further lazy A (suc (l - i))) (Endless lazy A) k i _
      (λ j c t d. to_endless (suc (l - i)) i j c t h (omega arith) d)
      (λ j c t d. from_exactly d.0 (suc (l - i)) i j c t h (omega arith) d.1)
      (first-Further (suc (l - i)) k i h)

module _ (l : ℕ) (f : ℕ → ℕ → Bool) where
  -- the span of n + 1 tokens
  abbrev At : ℕ → Relation
  At n i j c t = (j ≡ i + suc n) × Jump l f i j c t

  -- the spans of up to n tokens
  abbrev Upto : ℕ → Relation
  Upto n i j c t = (j ≤ i + n) × Jump l f i j c t

  at_first : (k : Continuation) (i n : ℕ) (b : Bool) (x : Option Ending) → i + suc n ≤ l → f i (i + suc n) ≡ b → k (i + suc n) ≡ x → IsFirst (At n) k i (if b then x else None)
  at_first k i n false x h e p = λ j c t d. absurd (let q : false ≡ true = sym e ∙ ap (f i) (sym d.0) ∙ d.1.passes in cc)
  at_first k i n true None h e p = λ j c t d. ap k d.0 ∙ p
  at_first k i n true (Some o) h e p = record {
    end = i + suc n;
    captures = [];
    choices = (l - (i + suc n)) ∷ [];
    rest = o;
    goes = (refl, record { passes = e; forward = omega arith; within = h; captures = refl; choices = refl });
    on = p;
    whole = refl;
    least = λ j c t d q. absurd (
        let q' : Before ((l - j) ∷ []) ((l - (i + suc n)) ∷ []) = subst (λ (z : List ℕ). Before z ((l - (i + suc n)) ∷ [])) d.1.choices q in
        let same : j ≡ i + suc n = d.0 in
        elim q' [ inl lt ↦ absurd (let r : l - j ≡ l - (i + suc n) = ap (λ z. l - z) same in omega arith) | inr (r, s) ↦ s ]);
  }

  -- a longer span is preferred
  order-At : (n : ℕ) (i : ℕ) → i + suc n ≤ l → Order (At n) (Upto n) i
  order-At n i h j j' c c' t t' d d' q =
      let q' : Before ((l - j') ∷ []) ((l - j) ∷ []) = subst (λ (z : List ℕ). Before z ((l - j) ∷ [])) d'.1.choices (subst (λ (z : List ℕ). Before t' z) d.1.choices q) in
      let a : j ≡ i + suc n = d.0 in
      let b : j' ≤ i + n = d'.0 in
      elim q' [ inl lt ↦ absurd (omega arith) | inr (r, s) ↦ s ]

  -- the spans of up to n tokens, the longest first
  down_first : (k : Continuation) (i n : ℕ) → i + n ≤ l → IsFirst (Upto n) k i (first_down f k i n)
  down_first k i zero h = λ j c t d. absurd (let a : j ≤ i + 0 = d.0 in let b : i < j = d.1.forward in omega arith)
  down_first k i (suc n) h =
      first_along (Either (At n) (Upto n)) (Upto (suc n)) k i _
      (λ j c t d. elim d [ inl a ↦ ((let e : j ≡ i + suc n = a.0 in omega arith), a.1) | inr b ↦ ((let e : j ≤ i + n = b.0 in omega arith), b.1) ])
      (λ j c t d. (let le : j ≤ i + suc n = d.0 in elim (le-suc_iff.0 (let r : j ≤ suc (i + n) = omega arith in r)) [ inl a ↦ inr (a, d.1) | inr b ↦ inl ((omega arith), d.1) ]))
      (or_first (At n) (Upto n) k i _ _ (order-At n i h) (at_first k i n (f i (i + suc n)) (k (i + suc n)) h refl refl) (down_first k i n (omega arith)))

  pub first-Jump : Firsts l (Jump l f) (first_jump l f)
  first-Jump k i h =
      first_along (Upto (l - i)) (Jump l f) k i _
      (λ j c t d. d.1)
      (λ j c t d. ((let a : j ≤ l = d.within in omega arith), d))
      (down_first k i (l - i) (omega arith))
