-- What a text gives is its expansion wherever no variable that it reaches is under way.
use Rattle.std.proofs.Common.{◌≡◌, ℕ, zero, suc, ◌+◌, ◌<◌, ◌≤◌, List, [], ◌∷◌, length, Bool, true, false, refl, ap, ◌∙◌, subst, arith, Option, Some, Result, Ok, Err, cond}
use Rattle.std.specs.Prelude.{◌||◌, not, if◌then◌else◌}
use Rattle.std.specs.List.{find, filter}
use Rattle.std.specs.Str.{bytes_eq}
use Rattle.std.proofs.lemmas.Slice.Eq.{bytes_eq-Decides}
use Rattle.std.proofs.lemmas.List.Filters.{length-filter_both}
use Rattle.od_rule_text.specs.declared.rule_file.KeyText.{KeyText}
use Rattle.od_rule_text.specs.Texts.{is_among}
use Rattle.od_rule_text.specs.Expansion.{Piece, stays, occurs, pieces, Misfit, cycle, in_front, followed, joined, is_named, without, text_of, expansion}
use Rattle.od_rule_text.specs.Meanings.{Gives, nothing, byte, variable, Reaches, here, later, through}
use Rattle.od_rule_text.proofs.Outcomes.{neither}
use Rattle.od_expansion.specs.Places.{TextReaches}

pub same_name : (a b : List ℕ) → bytes_eq a b ≡ true → a ≡ b
same_name a b e = (bytes_eq-Decides a b).0 e

-- ## Variables that are left

kept_at_most : {X : Type 0} (p : X → Bool) (xs : List X) → length (filter (λ y. not (p y)) xs) ≤ length xs
kept_at_most p xs = omega (arith, length-filter_both p (λ y. not (p y)) (λ y. refl) xs)

shorter_by : {X : Type 0} (t : Bool) (y x : X) (found : Option X) (kept ys : List X) → length kept ≤ length ys → (found ≡ Some x → length kept < length ys) →
    cond t (Some y) found ≡ Some x → length (cond (not t) (y ∷ kept) kept) < length (y ∷ ys)
shorter_by true y x found kept ys h k e = omega (arith, h)
shorter_by false y x found kept ys h k e = omega (arith, k e)

-- a variable that is found is not left
pub fewer : (p : KeyText → Bool) (xs : List KeyText) (x : KeyText) → find p xs ≡ Some x → length (filter (λ y. not (p y)) xs) < length xs
fewer p [] x e = absurd (cc)
fewer p (y ∷ ys) x e = shorter_by (p y) y x (find p ys) (filter (λ z. not (p z)) ys) ys (kept_at_most p ys) (fewer p ys x) e

found_without : (name other : List ℕ) (v : KeyText) (left kept : List KeyText) (t : Bool) → bytes_eq name other ≡ false → is_named name v ≡ t →
    find (is_named other) kept ≡ find (is_named other) left → find (is_named other) (cond (not t) (v ∷ kept) kept) ≡ find (is_named other) (v ∷ left)
found_without name other v left kept true apart is same =
    let no : is_named other v ≡ false = ap (λ key. bytes_eq key other) (same_name v.key name is) ∙ apart in
    rw no same
found_without name other v left kept false apart is same = ap (cond (is_named other v) (Some v)) same

-- another name is found as before
pub find_without : (name other : List ℕ) → bytes_eq name other ≡ false → (left : List KeyText) → find (is_named other) (without name left) ≡ find (is_named other) left
find_without name other apart [] = refl
find_without name other apart (v ∷ left) = found_without name other v left (without name left) (is_named name v) apart refl (find_without name other apart left)

some_left : (name : List ℕ) (v : KeyText) (left : List KeyText) → find (is_named name) left ≡ Some v → 0 < length left
some_left name v [] e = absurd (cc)
some_left name v (w ∷ left) e = omega arith

-- ## No text that gives something reaches itself

-- the size of a derivation
height : {vars : List KeyText} {ps : List Piece} {r : List ℕ} → Gives vars ps r → ℕ
height nothing = 0
height (byte c more text g) = height g + 1
height (variable name v more front text found inner g) = height inner + height g + 1

record ByVariable (vars : List KeyText) (name : List ℕ) (more : List Piece) (size : ℕ) : Type 0 where
  v : KeyText
  front : List ℕ
  text : List ℕ
  found : find (is_named name) vars ≡ Some v
  inner : Gives vars (pieces 0 v.value) front
  rest : Gives vars more text
  smaller : height inner + height rest + 1 ≡ size

record ByByte (vars : List KeyText) (more : List Piece) (size : ℕ) : Type 0 where
  text : List ℕ
  rest : Gives vars more text
  smaller : height rest + 1 ≡ size

-- a derivation by its first piece
abbrev ByFirst : List KeyText → List Piece → ℕ → Type 0
ByFirst vars [] size = Unit {0}
ByFirst vars (stays c ∷ more) size = ByByte vars more size
ByFirst vars (occurs name ∷ more) size = ByVariable vars name more size

by_first : (vars : List KeyText) (ps : List Piece) (r : List ℕ) (g : Gives vars ps r) → ByFirst vars ps (height g)
unfolding height
by_first vars _ _ nothing = tt
by_first vars _ _ (byte c more text g) = record { text = text; rest = g; smaller = refl }
by_first vars _ _ (variable name v more front text found inner g) =
    record { v = v; front = front; text = text; found = found; inner = inner; rest = g; smaller = refl }

same_variable : (o : Option KeyText) (v w : KeyText) → o ≡ Some v → o ≡ Some w → v ≡ w
same_variable o v w e f = cc

module _ (vars : List KeyText) where
  -- what a name gives that pieces with a text reach, by a smaller derivation
  record Inside (name : List ℕ) (size : ℕ) : Type 0 where
    v : KeyText
    found : find (is_named name) vars ≡ Some v
    front : List ℕ
    inner : Gives vars (pieces 0 v.value) front
    smaller : height inner < size

  widened : (name : List ℕ) (size larger : ℕ) → size ≤ larger → Inside name size → Inside name larger
  widened name size larger le i = record { v = i.v; found = i.found; front = i.front; inner = i.inner; smaller = omega (arith, le, i.smaller) }

  -- what a variable's text gives by a derivation below this size
  record SmallerGives (size : ℕ) (v : KeyText) : Type 0 where
    front : List ℕ
    inner : Gives vars (pieces 0 v.value) front
    smaller : height inner < size

  inside : (name : List ℕ) (ps : List Piece) (r : List ℕ) (g : Gives vars ps r) → Reaches vars name ps → Inside name (height g)
  inside name _ r g (here more) =
      let f = by_first vars (occurs name ∷ more) r g in
      record { v = f.v; found = f.found; front = f.front; inner = f.inner; smaller = omega (arith, f.smaller) }
  inside name _ r g (later (stays c) more reach) =
      let f = by_first vars (stays c ∷ more) r g in
      widened name (height f.rest) (height g) (omega (arith, f.smaller)) (inside name more f.text f.rest reach)
  inside name _ r g (later (occurs other) more reach) =
      let f = by_first vars (occurs other ∷ more) r g in
      widened name (height f.rest) (height g) (omega (arith, f.smaller)) (inside name more f.text f.rest reach)
  inside name _ r g (through other v more found reach) =
      let f = by_first vars (occurs other ∷ more) r g in
      let same : f.v ≡ v = same_variable _ f.v v f.found found in
      let smaller : height f.inner < height g = omega (arith, f.smaller) in
      let of = subst (SmallerGives (height g)) same (record { front = f.front; inner = f.inner; smaller = smaller }) in
      widened name (height of.inner) (height g) (omega (arith, of.smaller)) (inside name (pieces 0 v.value) of.front of.inner reach)

  no_round : (size : ℕ) (name : List ℕ) → TextReaches vars name name → Inside name size → ⊥
  no_round zero name own i = absurd (omega (arith, i.smaller))
  no_round (suc size) name own i =
      let same : own.variable ≡ i.v = same_variable _ own.variable i.v own.there i.found in
      let again : Reaches vars name (pieces 0 i.v.value) = subst (λ (w : KeyText). Reaches vars name (pieces 0 w.value)) same own.reaches in
      no_round size name own (widened name (height i.inner) size (omega (arith, i.smaller)) (inside name (pieces 0 i.v.value) i.front i.inner again))

  -- what pieces with a text reach does not reach itself
  pub no_cycle : (name : List ℕ) (ps : List Piece) (r : List ℕ) → Gives vars ps r → Reaches vars name ps → TextReaches vars name name → ⊥
  no_cycle name ps r g reach own = no_round (height g) name own (inside name ps r g reach)

  -- ## Its expansion

  -- no name that pieces reach is among these
  abbrev pub Avoids : List (List ℕ) → List Piece → Type 0
  Avoids within ps = (name : List ℕ) → Reaches vars name ps → is_among within name ≡ false

  abbrev pub Agrees : List KeyText → List (List ℕ) → Type 0
  Agrees left within = (name : List ℕ) → is_among within name ≡ false → find (is_named name) left ≡ find (is_named name) vars

  pub agrees_without : (left : List KeyText) (within : List (List ℕ)) (name : List ℕ) → Agrees left within → Agrees (without name left) (name ∷ within)
  agrees_without left within name h other e =
      let n = neither (bytes_eq name other) (is_among within other) e in
      find_without name other n.0 left ∙ h other n.1

  avoids_by : (t : Bool) (name other : List ℕ) (within : List (List ℕ)) → bytes_eq name other ≡ t → (name ≡ other → ⊥) → is_among within other ≡ false → (t || is_among within other) ≡ false
  avoids_by true name other within e apart h = absurd (apart (same_name name other e))
  avoids_by false name other within e apart h = h

  -- the text of a variable avoids its own name too
  avoids_inside : (within : List (List ℕ)) (name : List ℕ) (v : KeyText) (more : List Piece) (front : List ℕ) → find (is_named name) vars ≡ Some v → Gives vars (pieces 0 v.value) front →
      Avoids within (occurs name ∷ more) → Avoids (name ∷ within) (pieces 0 v.value)
  avoids_inside within name v more front found inner h other reach =
      avoids_by (bytes_eq name other) name other within refl
      (λ same. no_cycle other (pieces 0 v.value) front inner reach (record { variable = v; there = subst (λ n. find (is_named n) vars ≡ Some v) same found; reaches = reach }))
      (h other (through name v more found reach))

  -- a name that is not among the others is expanded by its text
  pub name_expands : (d : ℕ) (left : List KeyText) (within : List (List ℕ)) (name : List ℕ) (v : KeyText) (r : Result (List ℕ) Misfit) → Agrees left within → length left ≤ d →
      is_among within name ≡ false → find (is_named name) vars ≡ Some v →
      ((e : ℕ) → length (without name left) ≤ e → joined (λ inner. expansion e (without name left) (name ∷ within) inner) (pieces 0 v.value) ≡ r) → expansion d left within name ≡ r
  name_expands zero left within name v r agrees few out found inner =
      let some : 0 < length left = some_left name v left (agrees name out ∙ found) in absurd (omega (arith, few, some))
  name_expands (suc d) left within name v r agrees few out found inner =
      let there : find (is_named name) left ≡ Some v = agrees name out ∙ found in
      let less : length (without name left) < length left = fewer (is_named name) left v there in
      ap (λ (t : Bool). if t then Err (cycle name) else text_of (λ n. expansion d (without name left) (name ∷ within) n) (find (is_named name) left)) out
      ∙ ap (text_of (λ n. expansion d (without name left) (name ∷ within) n)) there
      ∙ inner d (omega (arith, few, less))

  -- what pieces give is their expansion
  pub given_expands : (ps : List Piece) (r : List ℕ) → Gives vars ps r → (d : ℕ) (left : List KeyText) (within : List (List ℕ)) → Agrees left within → length left ≤ d → Avoids within ps →
      joined (λ name. expansion d left within name) ps ≡ Ok r
  given_expands _ _ nothing d left within agrees few out = refl
  given_expands _ _ (byte c more text g) d left within agrees few out =
      ap (in_front (c ∷ [])) (given_expands more text g d left within agrees few (λ n reach. out n (later (stays c) more reach)))
  given_expands _ _ (variable name v more front text found inner g) d left within agrees few out =
      let first : expansion d left within name ≡ Ok front =
      name_expands d left within name v (Ok front) agrees few (out name (here more)) found
      (λ e enough. given_expands (pieces 0 v.value) front inner e (without name left) (name ∷ within) (agrees_without left within name agrees) enough (avoids_inside within name v more front found inner out)) in
      ap (λ x. followed x (joined (λ n. expansion d left within n) more)) first
      ∙ ap (in_front front) (given_expands more text g d left within agrees few (λ n reach. out n (later (occurs name) more reach)))
