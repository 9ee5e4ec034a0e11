-- Carriage returns before line feeds belong to the ends of lines.
use Rattle.std.proofs.Common.{◌≡◌, ℕ, zero, suc, ◌<◌, ap₂, get_or, ◌-◌, List, [], ◌∷◌, ◌++◌, length, Bool, true, false, refl, sym, ap, ◌∙◌, arith, cond, length-append}
use Rattle.std.specs.Prelude.{◌==◌, if◌then◌else◌}
use Rattle.std.specs.List.{list_any, slice_split, onto_first}
use Rattle.std.specs.Str.Lines.{lines, lines_of_parts, strip_carriage_return}
use Rattle.od_text.specs.Lists.{Each}
use Rattle.od_rule_text.specs.RuleFiles.{nothing_said, file_after, rule_file_of}
use Rattle.od_rule_text.specs.Statements.{statements}
use Rattle.od_rule_text.specs.Returns.{with_returns, ReadsReturns}
use Rattle.od_text.proofs.Cuts.{some_pieces}
use Rattle.od_rule_text.proofs.Outcomes.{neither}
use Rattle.od_rule_text.proofs.Cutting.{last_byte, take_front}

-- parts of which all but the last end with a carriage return
returned : List (List ℕ) → List (List ℕ)
returned [] = []
returned (x ∷ []) = x ∷ []
returned (x ∷ y ∷ more) = (x ++ 13 ∷ []) ∷ returned (y ∷ more)

returned-onto : (c : ℕ) (parts : List (List ℕ)) → returned (onto_first c parts) ≡ onto_first c (returned parts)
unfolding returned
returned-onto c [] = refl
returned-onto c (x ∷ []) = refl
returned-onto c (x ∷ y ∷ more) = refl

returned-feed : (parts : List (List ℕ)) → 0 < length parts → returned ([] ∷ parts) ≡ (13 ∷ []) ∷ returned parts
unfolding returned
returned-feed [] some = absurd (omega (arith, some))
returned-feed (y ∷ more) some = refl

parts_by : (c : ℕ) (text : List ℕ) (t : Bool) → slice_split (λ b. b == 10) (with_returns text) ≡ returned (slice_split (λ b. b == 10) text) → (c == 10) ≡ t →
    slice_split (λ b. b == 10) (if t then 13 ∷ 10 ∷ with_returns text else c ∷ with_returns text)
    ≡ returned (cond t ([] ∷ slice_split (λ b. b == 10) text) (onto_first c (slice_split (λ b. b == 10) text)))
parts_by c text true same is = ap (λ parts. (13 ∷ []) ∷ parts) same ∙ sym (returned-feed (slice_split (λ b. b == 10) text) (some_pieces 10 text))
parts_by c text false same is = rw is (ap (onto_first c) same ∙ sym (returned-onto c (slice_split (λ b. b == 10) text)))

parts_returned : (text : List ℕ) → slice_split (λ b. b == 10) (with_returns text) ≡ returned (slice_split (λ b. b == 10) text)
unfolding returned
parts_returned [] = refl
parts_returned (c ∷ text) = parts_by c text (c == 10) (parts_returned text) refl

-- ## Lines

-- no carriage return
abbrev HasNone : List ℕ → Type 0
HasNone text = list_any (λ c. c == 13) text ≡ false

none_at : (text : List ℕ) (i : ℕ) → HasNone text → (get_or text i 0 == 13) ≡ false
none_at [] i h = refl
none_at (c ∷ text) zero h = (neither (c == 13) (list_any (λ d. d == 13) text) h).0
none_at (c ∷ text) (suc i) h = none_at text i (neither (c == 13) (list_any (λ d. d == 13) text) h).1

stripped : (x : List ℕ) → HasNone x → strip_carriage_return x ≡ x
stripped x h = rw (none_at x (length x - 1) h) refl

stripped_return : (x : List ℕ) → strip_carriage_return (x ++ 13 ∷ []) ≡ x
stripped_return x =
    let at : length (x ++ 13 ∷ []) - 1 ≡ length x = omega (arith, length-append x (13 ∷ [])) in
    rw (last_byte x 13, at) (take_front x (13 ∷ []))

same_lines : (parts : List (List ℕ)) → Each HasNone parts → lines_of_parts (returned parts) ≡ lines_of_parts parts
unfolding returned
same_lines [] h = refl
same_lines (x ∷ []) h = refl
same_lines (x ∷ y ∷ []) h = ap₂ (λ a rest. a ∷ rest) (stripped_return x ∙ sym (stripped x h.0)) (same_lines (y ∷ []) h.1)
same_lines (x ∷ y ∷ z ∷ more) h = ap₂ (λ a rest. a ∷ rest) (stripped_return x ∙ sym (stripped x h.0)) (same_lines (y ∷ z ∷ more) h.1)

none_onto : (c : ℕ) (parts : List (List ℕ)) → (c == 13) ≡ false → Each HasNone parts → Each HasNone (onto_first c parts)
none_onto c [] is h = (rw is refl, tt)
none_onto c (x ∷ more) is h = (rw is h.0, h.1)

none_by : (c : ℕ) (t : Bool) (parts : List (List ℕ)) → (c == 13) ≡ false → Each HasNone parts → Each HasNone (cond t ([] ∷ parts) (onto_first c parts))
none_by c true parts is h = (refl, h)
none_by c false parts is h = none_onto c parts is h

none_in_parts : (text : List ℕ) → HasNone text → Each HasNone (slice_split (λ b. b == 10) text)
none_in_parts [] h = (refl, tt)
none_in_parts (c ∷ text) h =
    let n = neither (c == 13) (list_any (λ d. d == 13) text) h in
    none_by c (c == 10) (slice_split (λ b. b == 10) text) n.0 (none_in_parts text n.1)

lines_returned : (text : List ℕ) → HasNone text → lines (with_returns text) ≡ lines text
lines_returned text h = ap lines_of_parts (parts_returned text) ∙ same_lines (slice_split (λ b. b == 10) text) (none_in_parts text h)

pub reads_returns : ReadsReturns
unfolding rule_file_of
reads_returns text h = ap (λ ls. file_after nothing_said (statements 1 0 ls)) (lines_returned text h)
