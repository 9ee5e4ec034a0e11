-- The first capture whose name stands before it already, told by its place.
use Rattle.std.proofs.Common.{◌≡◌, ℕ, ◌+◌, ◌<◌, ◌≤◌, Bool, true, false, ◌||◌, List, [], ◌∷◌, ◌++◌, Option, Some, None, refl, sym, ◌∙◌, ap, subst, arith, eq-eqb, String, cond, bytes_eq, Result, MatchResult}
use Rattle.std.specs.Char.{len_utf8}
use Rattle.std.specs.HashSet.{HashSet, contains_text}
use Rattle.std.proofs.lemmas.Bool.{ne_eqb}
use Rattle.std.proofs.lemmas.Str.{len_utf8_bounds}
use Rattle.od_language.specs.declared.lexeme.Miss.{Miss}
use Rattle.od_language.specs.declared.lexeme.Lexeme.{Lexeme}
use Rattle.od_language.specs.declared.lexeme.LexKind.{LexKind}
use Rattle.od_language.specs.declared.lexeme.LexKind.TheVariants.{NameOpen}
use Rattle.od_language.specs.declared.pattern_fault.PatternFault.{PatternFault}
use Rattle.od_language.specs.declared.pattern_fault.PatternFault.TheVariants as fault
use Rattle.od_language.specs.Fields.{is_text}
use Rattle.od_language.specs.Lexing.{Lexes, end, stuck, white, next}
use Rattle.od_lex.specs.Machine.{place_of}
use Rattle.od_syntax.specs.Rules.{is_one_of}
use Rattle.od_surface.specs.Again.{opens_again, named_behind, IsMarked, Marks, Ascends, Knows}
use Rattle.od_surface.specs.Reading.{is_at}

-- ## Places ascend

-- there is a first lexeme
abbrev IsSome : List Lexeme → Type 0
IsSome [] = ⊥
IsSome (x ∷ l) = Unit {0}

ascends_more : (at : ℕ) (k : LexKind) (xs : List Lexeme) → IsSome xs → at < place_of xs → Ascends xs → Ascends ((record { at = at; kind = k }) ∷ xs)
ascends_more at k [] o less h = absurd o
ascends_more at k (y ∷ xs) o less h = (less, h)

white_first : (at n p : ℕ) → at + n ≤ p → at ≤ p
white_first at n p h = omega (arith, h)

some_lexeme : (at : ℕ) (cs : List ℕ) (xs : List Lexeme) (f : Option (ℕ × Miss)) → Lexes at cs xs f → IsSome xs
some_lexeme _ _ _ _ (end at) = tt
some_lexeme _ _ _ _ (stuck at c cs w n) = tt
some_lexeme _ _ _ _ (white at c cs xs f w h) = some_lexeme _ _ _ _ h
some_lexeme _ _ _ _ (next at c front rest k xs f w s l h) = tt

ascend_from : (at : ℕ) (cs : List ℕ) (xs : List Lexeme) (f : Option (ℕ × Miss)) → Lexes at cs xs f → (at ≤ place_of xs) × Ascends xs
ascend_from _ _ _ _ (end at) = (omega arith, tt)
ascend_from _ _ _ _ (stuck at c cs w n) = (omega arith, tt)
ascend_from _ _ _ _ (white at c cs xs f w h) = let r = ascend_from _ _ _ _ h in (white_first at (len_utf8 c) (place_of xs) r.0, r.1)
ascend_from _ _ _ _ (next at c front rest k xs f w s l h) =
    let r = ascend_from _ _ _ _ h in
    let b = len_utf8_bounds c in
    let less : at < place_of xs = omega (arith, r.0, b.0) in
    (omega arith, ascends_more at k xs (some_lexeme _ _ _ _ h) less r.1)

-- the places of the lexemes of a text ascend
pub ascend : (at : ℕ) (cs : List ℕ) (l items : List Lexeme) (f : Option (ℕ × Miss)) → l ≡ items → Lexes at cs items f → Ascends l
ascend at cs l items f same h = subst Ascends (sym same) (ascend_from at cs items f h).1

-- ## What is left

-- a place that is at or behind the first lexeme
abbrev IsLater : Option ℕ → List Lexeme → Type 0
IsLater None l = Unit {0}
IsLater (Some place) [] = ⊥
IsLater (Some place) (x ∷ l) = x.at ≤ place

-- what is left of lexemes, behind these names
abbrev Left : List (List ℕ) → List Lexeme → List Lexeme → Type 0
Left names l whole = Ascends l × ((again : Option ℕ) → IsLater again l → Marks again names l → Marks again [] whole)

-- the same, with a set that has the names
abbrev pub Known : {Y S : Type 0} → HashSet (String Y) S → List Lexeme → List Lexeme → Type 0
Known set l whole = (names : List (List ℕ)) × Knows set names × Left names l whole

ascends_left : (x : Lexeme) (l : List Lexeme) → Ascends (x ∷ l) → Ascends l
ascends_left x [] h = tt
ascends_left x (y ∷ l) h = h.1

later_more : (again : Option ℕ) (x : Lexeme) (l : List Lexeme) → Ascends (x ∷ l) → IsLater again l → IsLater again (x ∷ l)
later_more None x l a h = tt
later_more (Some p) x [] a h = absurd h
later_more (Some p) x (y ∷ l) a h = omega (arith, a.0, h)

apart : (again : Option ℕ) (x : Lexeme) (l : List Lexeme) → Ascends (x ∷ l) → IsLater again l → is_at again x.at ≡ false
apart None x l a h = refl
apart (Some p) x [] a h = absurd h
apart (Some p) x (y ∷ l) a h = let less : x.at < p = omega (arith, a.0, h) in ne_eqb x.at p (λ e. omega (arith, less, e))

marked_apart : (again : Option ℕ) (names : List (List ℕ)) (at : ℕ) (x : LexKind) → is_at again at ≡ false → opens_again names x ≡ false → IsMarked again names at x
marked_apart again names at (NameOpen n) h e = h ∙ sym e
marked_apart again names at x h e = tt

-- one more lexeme, which does not open a capture again
left_more : (names : List (List ℕ)) (x : Lexeme) (l whole : List Lexeme) → Left names (x ∷ l) whole → opens_again names x.kind ≡ false → Left (named_behind names x.kind) l whole
left_more names x l whole (a, m) e =
    (ascends_left x l a, λ again later marks. m again (later_more again x l a later) (marked_apart again names x.at x.kind (apart again x l a later) e, λ z. marks))

marked_here : (names : List (List ℕ)) (at : ℕ) (x : LexKind) → opens_again names x ≡ true → IsMarked (Some at) names at x
marked_here names at (NameOpen n) e = eq-eqb at at refl ∙ sym e
marked_here names at x e = tt

-- a lexeme that opens one again
left_again : (names : List (List ℕ)) (x : Lexeme) (l whole : List Lexeme) → Left names (x ∷ l) whole → opens_again names x.kind ≡ true → Marks (Some x.at) [] whole
left_again names x l whole (a, m) e = m (Some x.at) (omega arith) (marked_here names x.at x.kind e, λ z. absurd (cc))

module _ {Y S : Type 0} (set : HashSet (String Y) S) where
  -- a lexeme that opens no capture again
  pub known_more : (new : HashSet (String Y) S) (again : Bool) (x : Lexeme) (here l whole : List Lexeme) → here ≡ x ∷ l → again ≡ false →
      ((names : List (List ℕ)) → Knows set names → (again ≡ opens_again names x.kind) × Knows new (named_behind names x.kind)) → Known set here whole → Known new l whole
  known_more new again x here l whole e i h (names, k, left) =
      let n = h names k in
      (named_behind names x.kind, n.1, left_more names x l whole (subst (λ (z : List Lexeme). Left names z whole) e left) (sym n.0 ∙ i))

  -- a lexeme that does
  pub known_again : (new : HashSet (String Y) S) (again : Bool) (x : Lexeme) (here l whole : List Lexeme) → here ≡ x ∷ l → again ≡ true →
      ((names : List (List ℕ)) → Knows set names → (again ≡ opens_again names x.kind) × Knows new (named_behind names x.kind)) → Known set here whole → Marks (Some x.at) [] whole
  known_again new again x here l whole e i h (names, k, left) =
      left_again names x l whole (subst (λ (z : List Lexeme). Left names z whole) e left) (sym (h names k).0 ∙ i)

  -- no lexeme is left
  pub known_none : (here whole : List Lexeme) → here ≡ [] → Known set here whole → Marks None [] whole
  known_none here whole e (names, k, left) = left.1 None tt (subst (λ (z : List Lexeme). Marks None names z) (sym e) tt)

  -- no name is known before the first lexeme
  pub known_first : (whole : List Lexeme) → ((q : List ℕ) → contains_text set q ≡ false) → Ascends whole → Known set whole whole
  known_first whole h a = ([], h, (a, λ again later marks. marks))

-- ## A set with one more name

or_false : (b : Bool) → (b || false) ≡ (false || b)
or_false true = refl
or_false false = refl

or_assoc : (a b c : Bool) → (a || (b || c)) ≡ ((a || b) || c)
or_assoc true b c = refl
or_assoc false b c = refl

one_of_more : (names : List (List ℕ)) (name q : List ℕ) → is_one_of (names ++ name ∷ []) q ≡ (is_one_of names q || is_text name q)
one_of_more [] name q = or_false (is_text name q)
one_of_more (n ∷ names) name q = ap (λ z. is_text n q || z) (one_of_more names name q) ∙ or_assoc (is_text n q) (is_one_of names q) (is_text name q)

either_or : (a b : Bool) → cond a true b ≡ (b || a)
either_or true true = refl
either_or true false = refl
either_or false true = refl
either_or false false = refl

pub knows_more : {Y S : Type 0} → (old new : HashSet (String Y) S) (name : List ℕ) → ((q : List ℕ) → contains_text new q ≡ cond (bytes_eq name q) true (contains_text old q)) →
    (names : List (List ℕ)) → Knows old names → Knows new (names ++ name ∷ [])
knows_more old new name h names k q = h q ∙ ap (λ z. cond (is_text name q) true z) (k q) ∙ either_or (is_text name q) (is_one_of names q) ∙ sym (one_of_more names name q)

-- a lexeme that opens a capture
pub opens_by : {Y S : Type 0} → (old new : HashSet (String Y) S) (q : Result Bool PatternFault) (name : List ℕ) (k : LexKind) → k ≡ NameOpen name →
    MatchResult q (λ seen. (before : List (List ℕ)) → Knows old before → (seen ≡ is_one_of before name) × Knows new (before ++ name ∷ [])) (λ e. e ≡ fault.NoMemory) →
    MatchResult q (λ seen. (before : List (List ℕ)) → Knows old before → (seen ≡ opens_again before k) × Knows new (named_behind before k)) (λ e. e ≡ fault.NoMemory)
opens_by old new q name k e h =
    subst (λ (z : LexKind). MatchResult q (λ seen. (before : List (List ℕ)) → Knows old before → (seen ≡ opens_again before z) × Knows new (named_behind before z)) (λ e. e ≡ fault.NoMemory)) (sym e) h
