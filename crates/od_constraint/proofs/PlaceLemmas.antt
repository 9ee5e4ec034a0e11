-- The places of texts in a list that grows.
use Rattle.std.proofs.Common.{◌≡◌, ℕ, zero, suc, ◌<◌, List, [], ◌∷◌, ◌++◌, length, get_or, refl, sym, ◌∙◌, ap, subst, Option, Some, None, Bool, true, false, cond, slice_get, position, bytes_eq, arith, ◌+◌}
use Rattle.std.specs.Prelude.{Contains, MatchOption, OnErr, Result, Ok, Err}
use Rattle.std.specs.List.{position_from}
use Rattle.std.proofs.lemmas.Iterator.Adapters.{position_from-zero}
use Rattle.std.proofs.lemmas.Option.{slice_get-get_or}
use Rattle.std.proofs.lemmas.List.Elements.{Contains-append_left, Contains-append_right}
use Rattle.std.proofs.lemmas.List.Quantifiers.{position-Some}
use Rattle.std.proofs.lemmas.Slice.Eq.{bytes_eq-Decides}
use Rattle.od_text.specs.Lists.{Each}
use Rattle.od_text.proofs.Lists.{Each-append, Each-weaker, slice_get-append}
use Rattle.od_index.proofs.Members.{Contains-head, Each-in, slice_get-contained}
use Rattle.od_constraint.specs.Places.{StandAt}
use Rattle.od_constraint.proofs.Lists.{got_before}

-- behind a list more may come
pub StandAt-later : (texts more names : List (List ℕ)) (places : List ℕ) → StandAt texts names places → StandAt (texts ++ more) names places
StandAt-later texts more [] [] h = tt
StandAt-later texts more [] (p ∷ ps) h = absurd h
StandAt-later texts more (n ∷ ns) [] h = absurd h
StandAt-later texts more (n ∷ ns) (p ∷ ps) h = (got_before texts more p n h.0, StandAt-later texts more ns ps h.1)

-- one more name with its place
pub StandAt-more : (texts names : List (List ℕ)) (places : List ℕ) (name : List ℕ) (place : ℕ) → StandAt texts names places
    → slice_get texts place ≡ Some name → StandAt texts (names ++ name ∷ []) (places ++ place ∷ [])
StandAt-more texts [] [] name place h e = (e, tt)
StandAt-more texts [] (p ∷ ps) name place h e = absurd h
StandAt-more texts (n ∷ ns) [] name place h e = absurd h
StandAt-more texts (n ∷ ns) (p ∷ ps) name place h e = (h.0, StandAt-more texts ns ps name place h.1 e)

-- the place beside a name
pub StandAt-at : (texts names : List (List ℕ)) (places : List ℕ) (k : ℕ) (name : List ℕ) → StandAt texts names places → slice_get names k ≡ Some name
    → (place : ℕ) × (slice_get places k ≡ Some place) × (slice_get texts place ≡ Some name)
StandAt-at texts [] places k name h e = absurd (cc)
StandAt-at texts (n ∷ ns) [] k name h e = absurd h
StandAt-at texts (n ∷ ns) (p ∷ ps) zero name h e = (p, refl, h.0 ∙ e)
StandAt-at texts (n ∷ ns) (p ∷ ps) (suc k) name h e = StandAt-at texts ns ps k name h.1 e

first_is : (b : Bool) (n : ℕ) (r : Option ℕ) → b ≡ true → cond b (Some n) r ≡ None → ⊥
first_is true n r e none = absurd (cc)
first_is false n r e none = absurd (cc)

rest_none : (b : Bool) (n : ℕ) (r : Option ℕ) → cond b (Some n) r ≡ None → r ≡ None
rest_none true n r none = absurd (cc)
rest_none false n r none = none

none_there : (names : List (List ℕ)) (n k : ℕ) (text : List ℕ) → position_from (λ other. bytes_eq other text) n names ≡ None → slice_get names k ≡ Some text → ⊥
none_there [] n k text none e = absurd (cc)
none_there (x ∷ xs) n zero text none e =
    let same : x ≡ text = cc in
    first_is (bytes_eq x text) n (position_from (λ other. bytes_eq other text) (n + 1) xs) ((bytes_eq-Decides x text).1 same) none
none_there (x ∷ xs) n (suc k) text none e = none_there xs (n + 1) k text (rest_none (bytes_eq x text) n (position_from (λ other. bytes_eq other text) (n + 1) xs) none) e

-- a text that has no place among the names is not among the texts
pub no_place : (texts names : List (List ℕ)) (text : List ℕ) → Each (Contains names) texts → position (λ other. bytes_eq other text) names ≡ None → Contains texts text → ⊥
no_place texts names text all none has =
    let there = slice_get-contained names text (Each-in (Contains names) texts text all has) in
    none_there names 0 there.0 text (sym (position_from-zero (λ other. bytes_eq other text) names) ∙ none) there.1

-- the name at a place that was found
pub name_at : (names : List (List ℕ)) (text : List ℕ) (k : ℕ) → position (λ other. bytes_eq other text) names ≡ Some k → slice_get names k ≡ Some text
name_at names text k e =
    let found = position-Some (λ other. bytes_eq other text) names k text e in
    slice_get-get_or names k text found.0 ∙ ap Some ((bytes_eq-Decides (get_or names k text) text).0 found.1)

-- the place of a name that was found
pub one_place : (texts names : List (List ℕ)) (places : List ℕ) (text : List ℕ) (k : ℕ) → StandAt texts names places → position (λ other. bytes_eq other text) names ≡ Some k
    → MatchOption (slice_get places k) (Contains texts text → ⊥) (λ place. slice_get texts place ≡ Some text)
one_place texts names places text k h e =
    let at = StandAt-at texts names places k text h (name_at names text k e) in
    subst (λ (o : Option ℕ). MatchOption o (Contains texts text → ⊥) (λ place. slice_get texts place ≡ Some text)) (sym at.1) at.2

-- one more text, whose name is there
pub same_names : (texts names : List (List ℕ)) (text : List ℕ) → Each (Contains names) texts → Contains names text → Each (Contains names) (texts ++ text ∷ [])
same_names texts names text all has = Each-append (Contains names) texts (text ∷ []) all (has, tt)

-- one more text and its name
pub more_names : (texts names : List (List ℕ)) (text : List ℕ) → Each (Contains names) texts → Each (Contains (names ++ text ∷ [])) (texts ++ text ∷ [])
more_names texts names text all =
    Each-append (Contains (names ++ text ∷ [])) texts (text ∷ [])
    (Each-weaker (Contains names) (Contains (names ++ text ∷ [])) (λ t c. Contains-append_left names (text ∷ []) t c) texts all)
    (Contains-append_right names (text ∷ []) text (Contains-head text []), tt)

-- the place of the last text
pub last_place : (texts : List (List ℕ)) (text : List ℕ) (len : ℕ) → length texts ≡ len → slice_get (texts ++ text ∷ []) len ≡ Some text
last_place texts text len e = ap (slice_get (texts ++ text ∷ [])) (sym e) ∙ slice_get-append texts text []

-- no text has no names
pub no_names : (names : List (List ℕ)) (places : List ℕ) → names ≡ [] → places ≡ [] → StandAt [] names places
no_names names places e f = subst (λ (ns : List (List ℕ)). StandAt [] ns places) (sym e) (subst (StandAt [] []) (sym f) tt)

-- names and places that are equal to those of the texts
pub equal_places : (texts names same : List (List ℕ)) (places same_places : List ℕ) → same ≡ names → same_places ≡ places → StandAt texts names places → StandAt texts same same_places
equal_places texts names same places same_places e f h =
    subst (λ (ns : List (List ℕ)). StandAt texts ns same_places) (sym e) (subst (StandAt texts names) (sym f) h)

pub equal_names : (texts names same : List (List ℕ)) → same ≡ names → Each (Contains names) texts → Each (Contains same) texts
equal_names texts names same e h = subst (λ (ns : List (List ℕ)). Each (Contains ns) texts) (sym e) h

-- what holds, holds after an error
pub on_err : {A E : Type 0} (r : Result A E) (P : Type 0) → P → OnErr r P
on_err (Ok x) P p = tt
on_err (Err e) P p = p
