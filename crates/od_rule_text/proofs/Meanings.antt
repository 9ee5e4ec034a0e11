-- An expansion is what the text gives, and its misfits are what the text reaches.
use Rattle.std.proofs.Common.{◌≡◌, ℕ, zero, suc, ◌+◌, ◌++◌, ◌<◌, ◌≤◌, List, [], ◌∷◌, length, Bool, true, false, refl, sym, ap, ap₂, ◌∙◌, subst, arith, Option, Some, None, Result, Ok, Err, inl, inr, cond}
use Rattle.std.specs.Prelude.{◌⊎◌, ◌||◌, not, if◌then◌else◌}
use Rattle.std.specs.List.{find, filter}
use Rattle.std.specs.Str.{bytes_eq}
use Rattle.std.proofs.lemmas.Slice.Eq.{bytes_eq-Decides}
use Rattle.std.proofs.lemmas.List.Filters.{length-filter_both}
use Rattle.od_rule_text.specs.declared.rule_file.KeyText.{KeyText}
use Rattle.od_rule_text.specs.Texts.{is_among}
use Rattle.od_rule_text.specs.Expansion.{Piece, stays, occurs, pieces, Misfit, unknown, cycle, in_front, followed, joined, is_named, without, text_of, expansion, expanded}
use Rattle.od_rule_text.proofs.Outcomes.{neither}
use Rattle.od_rule_text.specs.Meanings.{Gives, nothing, byte, variable, Reaches, here, later, through, IsCycle, IsMeant, ExpandsAsMeant}

same_name : (a b : List ℕ) → bytes_eq a b ≡ true → a ≡ b
same_name a b e = (bytes_eq-Decides a b).0 e

-- ## Variables that are left

kept_at_most : {X : Type 0} (p : X → Bool) (xs : List X) → length (filter (λ y. not (p y)) xs) ≤ length xs
kept_at_most p xs = omega (arith, length-filter_both p (λ y. not (p y)) (λ y. refl) xs)

-- a found element is not kept among the others
shorter_by : {X : Type 0} (t : Bool) (y x : X) (found : Option X) (kept ys : List X) → length kept ≤ length ys → (found ≡ Some x → length kept < length ys) →
    cond t (Some y) found ≡ Some x → length (cond (not t) (y ∷ kept) kept) < length (y ∷ ys)
shorter_by true y x found kept ys h k e = omega (arith, h)
shorter_by false y x found kept ys h k e = omega (arith, k e)

shorter : {X : Type 0} (p : X → Bool) (xs : List X) (x : X) → find p xs ≡ Some x → length (filter (λ y. not (p y)) xs) < length xs
shorter p [] x e = absurd (cc)
shorter p (y ∷ ys) x e = shorter_by (p y) y x (find p ys) (filter (λ z. not (p z)) ys) ys (kept_at_most p ys) (shorter p ys x) e

-- another name is found as before
found_without : (name other : List ℕ) (v : KeyText) (left kept : List KeyText) (t : Bool) → bytes_eq name other ≡ false → is_named name v ≡ t →
    find (is_named other) kept ≡ find (is_named other) left → find (is_named other) (cond (not t) (v ∷ kept) kept) ≡ find (is_named other) (v ∷ left)
found_without name other v left kept true apart is same =
    let no : is_named other v ≡ false = ap (λ key. bytes_eq key other) (same_name v.key name is) ∙ apart in
    rw no same
found_without name other v left kept false apart is same = ap (cond (is_named other v) (Some v)) same

find_without : (name other : List ℕ) → bytes_eq name other ≡ false → (left : List KeyText) → find (is_named other) (without name left) ≡ find (is_named other) left
find_without name other apart [] = refl
find_without name other apart (v ∷ left) = found_without name other v left (without name left) (is_named name v) apart refl (find_without name other apart left)

module _ (vars : List KeyText) where
  -- among those that are left, a name that is not within is found as among all
  Agrees : List KeyText → List (List ℕ) → Type 0
  Agrees left within = (name : List ℕ) → is_among within name ≡ false → find (is_named name) left ≡ find (is_named name) vars

  agrees_without : (left : List KeyText) (within : List (List ℕ)) (name : List ℕ) → Agrees left within → Agrees (without name left) (name ∷ within)
  unfolding Agrees
  agrees_without left within name h other e =
      let n = neither (bytes_eq name other) (is_among within other) e in
      find_without name other n.0 left ∙ h other n.1

  -- ## Meanings within the expansions of others

  -- a cycle is told of one of these, or of a variable that its own text reaches
  abbrev IsTold : List (List ℕ) → List ℕ → Type 0
  IsTold within name = (is_among within name ≡ true) ⊎ IsCycle vars name

  -- of the expansion of pieces
  abbrev MeansPieces : List (List ℕ) → List Piece → Result (List ℕ) Misfit → Type 0
  MeansPieces within ps (Ok text) = Gives vars ps text
  MeansPieces within ps (Err unknown) = (name : List ℕ) × Reaches vars name ps × (find (is_named name) vars ≡ None)
  MeansPieces within ps (Err (cycle name)) = Reaches vars name ps × IsTold within name

  -- of the expansion of a name, wherever it occurs
  abbrev MeansName : List (List ℕ) → List ℕ → Result (List ℕ) Misfit → Type 0
  MeansName within name (Ok text) = (v : KeyText) × (find (is_named name) vars ≡ Some v) × Gives vars (pieces 0 v.value) text
  MeansName within name (Err unknown) = (other : List ℕ) × ((more : List Piece) → Reaches vars other (occurs name ∷ more)) × (find (is_named other) vars ≡ None)
  MeansName within name (Err (cycle other)) = ((more : List Piece) → Reaches vars other (occurs name ∷ more)) × IsTold within other

  byte_in_front : (within : List (List ℕ)) (c : ℕ) (more : List Piece) (r : Result (List ℕ) Misfit) → MeansPieces within more r → MeansPieces within (stays c ∷ more) (in_front (c ∷ []) r)
  byte_in_front within c more (Ok text) h = byte c more text h
  byte_in_front within c more (Err unknown) h = (h.0, later (stays c) more h.1, h.2)
  byte_in_front within c more (Err (cycle name)) h = (later (stays c) more h.0, h.1)

  name_in_front : (within : List (List ℕ)) (name : List ℕ) (more : List Piece) (e r : Result (List ℕ) Misfit) → MeansName within name e → MeansPieces within more r →
      MeansPieces within (occurs name ∷ more) (followed e r)
  name_in_front within name more (Ok front) (Ok text) h k = variable name h.0 more front text h.1 h.2 k
  name_in_front within name more (Ok front) (Err unknown) h k = (k.0, later (occurs name) more k.1, k.2)
  name_in_front within name more (Ok front) (Err (cycle other)) h k = (later (occurs name) more k.0, k.1)
  name_in_front within name more (Err unknown) r h k = (h.0, h.1 more, h.2)
  name_in_front within name more (Err (cycle other)) r h k = (h.0 more, h.1)

  joined_means : (within : List (List ℕ)) (e : List ℕ → Result (List ℕ) Misfit) → ((name : List ℕ) → MeansName within name (e name)) → (ps : List Piece) → MeansPieces within ps (joined e ps)
  joined_means within e h [] = nothing
  joined_means within e h (stays c ∷ more) = byte_in_front within c more (joined e more) (joined_means within e h more)
  joined_means within e h (occurs name ∷ more) = name_in_front within name more (e name) (joined e more) (h name) (joined_means within e h more)

  -- a cycle within the expansion of a name is one of that name, or is told as before
  told_outside : (within : List (List ℕ)) (name other : List ℕ) (v : KeyText) (t : Bool) → find (is_named name) vars ≡ Some v → Reaches vars other (pieces 0 v.value) →
      bytes_eq name other ≡ t → (t || is_among within other) ≡ true → IsTold within other
  told_outside within name other v true found reach is e =
      let same : name ≡ other = same_name name other is in
      inr (record { variable = v; there = subst (λ n. find (is_named n) vars ≡ Some v) same found; again = reach })
  told_outside within name other v false found reach is e = inl e

  name_means : (within : List (List ℕ)) (name : List ℕ) (v : KeyText) (r : Result (List ℕ) Misfit) → find (is_named name) vars ≡ Some v → MeansPieces (name ∷ within) (pieces 0 v.value) r → MeansName within name r
  name_means within name v (Ok text) found h = (v, found, h)
  name_means within name v (Err unknown) found h = (h.0, λ more. through name v more found h.1, h.2)
  name_means within name v (Err (cycle other)) found (reach, inl e) = (λ more. through name v more found reach, told_outside within name other v (bytes_eq name other) found reach refl e)
  name_means within name v (Err (cycle other)) found (reach, inr own) = (λ more. through name v more found reach, inr own)

  -- ## The expansion of a name

  none_left : (left : List KeyText) (name : List ℕ) → length left ≤ 0 → find (is_named name) left ≡ None
  none_left [] name h = refl
  none_left (v ∷ left) name h = absurd (omega (arith, h))

  not_found : (within : List (List ℕ)) (name : List ℕ) → find (is_named name) vars ≡ None → MeansName within name (Err unknown)
  not_found within name none = (name, here, none)

  is_within : (within : List (List ℕ)) (name : List ℕ) → is_among within name ≡ true → MeansName within name (Err (cycle name))
  is_within within name is = (here, inl is)

  within_or : (within : List (List ℕ)) (name : List ℕ) (t : Bool) (r : Result (List ℕ) Misfit) → is_among within name ≡ t → (is_among within name ≡ false → MeansName within name r) →
      MeansName within name (if t then Err (cycle name) else r)
  within_or within name true r is h = is_within within name is
  within_or within name false r is h = h is

  text_means : (within : List (List ℕ)) (name : List ℕ) (e : List ℕ → Result (List ℕ) Misfit) (o : Option KeyText) → find (is_named name) vars ≡ o →
      ((v : KeyText) → o ≡ Some v → (inner : List ℕ) → MeansName (name ∷ within) inner (e inner)) → MeansName within name (text_of e o)
  text_means within name e None found h = not_found within name found
  text_means within name e (Some v) found h = name_means within name v (joined e (pieces 0 v.value)) found (joined_means (name ∷ within) e (h v refl) (pieces 0 v.value))

  expansion_means : (d : ℕ) (left : List KeyText) (within : List (List ℕ)) → Agrees left within → length left ≤ d → (name : List ℕ) → MeansName within name (expansion d left within name)
  unfolding Agrees
  expansion_means zero left within agrees few name =
      within_or within name (is_among within name) (Err unknown) refl (λ out. not_found within name (sym (agrees name out) ∙ none_left left name few))
  expansion_means (suc d) left within agrees few name =
      within_or within name (is_among within name) _ refl (λ out.
      text_means within name (λ inner. expansion d (without name left) (name ∷ within) inner) (find (is_named name) left) (sym (agrees name out))
      (λ v found. expansion_means d (without name left) (name ∷ within) (agrees_without left within name agrees) (omega (arith, few, shorter (is_named name) left v found))))

  -- of the whole text, within no expansion
  text_meant : (text : List ℕ) (r : Result (List ℕ) Misfit) → MeansPieces [] (pieces 0 text) r → IsMeant vars text r
  text_meant text (Ok expansion) h = h
  text_meant text (Err unknown) h = h
  text_meant text (Err (cycle name)) (reach, inl e) = absurd (cc)
  text_meant text (Err (cycle name)) (reach, inr own) = (reach, own)

meant : (vars : List KeyText) (text : List ℕ) → IsMeant vars text (expanded vars text)
unfolding expanded Agrees
meant vars text =
    text_meant vars text (joined (λ name. expansion (length vars) vars [] name) (pieces 0 text))
    (joined_means vars [] (λ name. expansion (length vars) vars [] name) (expansion_means vars (length vars) vars [] (λ name out. refl) (omega arith)) (pieces 0 text))

-- ## What a text gives is its expansion

-- the size of a derivation
height : {vars : List KeyText} {ps : List Piece} {r : List ℕ} → Gives vars ps r → ℕ
height nothing = 0
height (byte c more text g) = height g + 1
height (variable name v more front text found inner g) = height inner + height g + 1

-- how an occurrence gives a text, by a derivation of this size
record ByVariable (vars : List KeyText) (name : List ℕ) (more : List Piece) (r : List ℕ) (size : ℕ) : Type 0 where
  v : KeyText
  front : List ℕ
  text : List ℕ
  found : find (is_named name) vars ≡ Some v
  inner : Gives vars (pieces 0 v.value) front
  rest : Gives vars more text
  parts : r ≡ front ++ text
  smaller : height inner + height rest + 1 ≡ size

record ByByte (vars : List KeyText) (c : ℕ) (more : List Piece) (r : List ℕ) (size : ℕ) : Type 0 where
  text : List ℕ
  rest : Gives vars more text
  parts : r ≡ c ∷ text
  smaller : height rest + 1 ≡ size

-- a derivation by its first piece
abbrev ByFirst : List KeyText → List Piece → List ℕ → ℕ → Type 0
ByFirst vars [] r size = r ≡ []
ByFirst vars (stays c ∷ more) r size = ByByte vars c more r size
ByFirst vars (occurs name ∷ more) r size = ByVariable vars name more r size

by_first : (vars : List KeyText) (ps : List Piece) (r : List ℕ) (g : Gives vars ps r) → ByFirst vars ps r (height g)
unfolding height
by_first vars _ _ nothing = refl
by_first vars _ _ (byte c more text g) = record { text = text; rest = g; parts = refl; smaller = refl }
by_first vars _ _ (variable name v more front text found inner g) =
    record { v = v; front = front; text = text; found = found; inner = inner; rest = g; parts = refl; smaller = refl }

same_variable : (o : Option KeyText) (v w : KeyText) → o ≡ Some v → o ≡ Some w → v ≡ w
same_variable o v w e f = cc

module _ (vars : List KeyText) where
  -- pieces give one text at most
  one_text : (ps : List Piece) (r s : List ℕ) → Gives vars ps r → Gives vars ps s → r ≡ s
  one_text _ _ s nothing h = sym (by_first vars [] s h)
  one_text _ _ s (byte c more text g) h =
      let f = by_first vars (stays c ∷ more) s h in
      ap (λ xs. c ∷ xs) (one_text more text f.text g f.rest) ∙ sym f.parts
  one_text _ _ s (variable name v more front text found inner g) h =
      let f = by_first vars (occurs name ∷ more) s h in
      let same : f.v ≡ v = same_variable _ f.v v f.found found in
      let fronts : front ≡ f.front = one_text (pieces 0 v.value) front f.front inner (subst (λ (w : KeyText). Gives vars (pieces 0 w.value) f.front) same f.inner) in
      ap₂ (λ (a b : List ℕ). a ++ b) fronts (one_text more text f.text g f.rest) ∙ sym f.parts

  -- what a name gives that pieces with a text reach, by a smaller derivation
  record Inside (name : List ℕ) (size : ℕ) : Type 0 where
    v : KeyText
    found : find (is_named name) vars ≡ Some v
    front : List ℕ
    inner : Gives vars (pieces 0 v.value) front
    smaller : height inner < size

  widened : (name : List ℕ) (size larger : ℕ) → size ≤ larger → Inside name size → Inside name larger
  widened name size larger le i = record { v = i.v; found = i.found; front = i.front; inner = i.inner; smaller = omega (arith, le, i.smaller) }

  -- what a variable's text gives by a derivation below this size
  record SmallerGives (size : ℕ) (v : KeyText) : Type 0 where
    front : List ℕ
    inner : Gives vars (pieces 0 v.value) front
    smaller : height inner < size

  inside : (name : List ℕ) (ps : List Piece) (r : List ℕ) (g : Gives vars ps r) → Reaches vars name ps → Inside name (height g)
  inside name _ r g (here more) =
      let f = by_first vars (occurs name ∷ more) r g in
      record { v = f.v; found = f.found; front = f.front; inner = f.inner; smaller = omega (arith, f.smaller) }
  inside name _ r g (later (stays c) more reach) =
      let f = by_first vars (stays c ∷ more) r g in
      widened name (height f.rest) (height g) (omega (arith, f.smaller)) (inside name more f.text f.rest reach)
  inside name _ r g (later (occurs other) more reach) =
      let f = by_first vars (occurs other ∷ more) r g in
      widened name (height f.rest) (height g) (omega (arith, f.smaller)) (inside name more f.text f.rest reach)
  inside name _ r g (through other v more found reach) =
      let f = by_first vars (occurs other ∷ more) r g in
      let same : f.v ≡ v = same_variable _ f.v v f.found found in
      let smaller : height f.inner < height g = omega (arith, f.smaller) in
      let of = subst (SmallerGives (height g)) same (record { front = f.front; inner = f.inner; smaller = smaller }) in
      widened name (height of.inner) (height g) (omega (arith, of.smaller)) (inside name (pieces 0 v.value) of.front of.inner reach)

  -- so none is a cycle: its derivation would have a smaller one within, for ever
  no_cycle : (size : ℕ) (name : List ℕ) → IsCycle vars name → Inside name size → ⊥
  no_cycle zero name own i = absurd (omega (arith, i.smaller))
  no_cycle (suc size) name own i =
      let same : own.variable ≡ i.v = same_variable _ own.variable i.v own.there i.found in
      let again : Reaches vars name (pieces 0 i.v.value) = subst (λ (w : KeyText). Reaches vars name (pieces 0 w.value)) same own.again in
      no_cycle size name own (widened name (height i.inner) size (omega (arith, i.smaller)) (inside name (pieces 0 i.v.value) i.front i.inner again))

  given_by : (text result : List ℕ) (r : Result (List ℕ) Misfit) → IsMeant vars text r → Gives vars (pieces 0 text) result → r ≡ Ok result
  given_by text result (Ok expansion) h g = ap (λ x. Ok x) (one_text (pieces 0 text) expansion result h g)
  given_by text result (Err unknown) h g =
      let i = inside h.0 (pieces 0 text) result g h.1 in
      absurd (none_some (find (is_named h.0) vars) i.v h.2 i.found)
    where
      none_some : (o : Option KeyText) (v : KeyText) → o ≡ None → o ≡ Some v → ⊥
      none_some o v e f = absurd (cc)
  given_by text result (Err (cycle name)) h g = absurd (no_cycle (height g) name h.1 (inside name (pieces 0 text) result g h.0))

pub expands_as_meant : ExpandsAsMeant
expands_as_meant = record { meant = meant; given = λ vars text result g. given_by vars text result (expanded vars text) (meant vars text) g }
