-- The lines of a text, one at a time.
use Rattle.std.proofs.Math.Seq.{take-suc, take-length, drop-length}
use Rattle.std.proofs.Common.{◌≡◌, ◌≢◌, ℕ, suc, ◌+◌, ◌-◌, ◌<◌, ◌≤◌, List, [], ◌∷◌, ◌++◌, length, take, drop, Bool, true, false, refl, sym, ap, ◌∙◌, arith, get_or, eqb-true, length-append}
use Rattle.std.specs.Prelude.{◌==◌, if◌then◌else◌}
use Rattle.std.specs.List.{slice_split}
use Rattle.std.specs.Str.Lines.{lines, lines_of_parts, strip_carriage_return}
use Rattle.std.proofs.lemmas.Bool.{ne_eqb}
use Rattle.std.proofs.lemmas.List.{length-take}
use Rattle.od_text.proofs.Cuts.{some_pieces}
use Rattle.od_yaml.specs.Lines.{BeginsWithLine}

-- a line that ends with the byte c
last_is : (c : ℕ) (line : List ℕ) → 0 < c → get_or line (length line - 1) 0 ≡ c → line ≡ take (length line - 1) line ++ c ∷ []
last_is c line some e =
    let full : 0 < length line = last_some c line some e in
    let n : length line ≡ suc (length line - 1) = omega arith in
    sym (take-length line) ∙ ap (λ k. take k line) n ∙ take-suc line (length line - 1) 0 (omega arith) ∙ ap (λ y. take (length line - 1) line ++ (y ∷ [])) e
  where
    last_some : (c : ℕ) (line : List ℕ) → 0 < c → get_or line (length line - 1) 0 ≡ c → 0 < length line
    last_some c [] some e = absurd (omega (arith, e))
    last_some c (b ∷ line) some e = omega arith

-- a line without a carriage return at its end
pub strip_none : (line : List ℕ) → ((front : List ℕ) → line ≢ front ++ 13 ∷ []) → strip_carriage_return line ≡ line
strip_none line none = by_last (get_or line (length line - 1) 0 == 13) refl
  where
    by_last : (t : Bool) → (get_or line (length line - 1) 0 == 13) ≡ t → strip_carriage_return line ≡ line
    by_last true e = absurd (none (take (length line - 1) line) (last_is 13 line (omega arith) (eqb-true _ _ e)))
    by_last false e = rw e refl

parts-cons : (x : List ℕ) (parts : List (List ℕ)) → 0 < length parts → lines_of_parts (x ∷ parts) ≡ strip_carriage_return x ∷ lines_of_parts parts
parts-cons x [] h = absurd (omega arith)
parts-cons x (y ∷ more) h = refl

stripped_within : (line : List ℕ) → length (strip_carriage_return line) ≤ length line
stripped_within line = by_last (get_or line (length line - 1) 0 == 13)
  where
    by_last : (t : Bool) → length (if t then take (length line - 1) line else line) ≤ length line
    by_last true = omega (arith, length-take (length line - 1) line)
    by_last false = omega arith

-- the first line of a text that is cut at a line feed
pub ended_line : (text line front rest : List ℕ) → slice_split (λ b. b == 10) text ≡ front ∷ slice_split (λ b. b == 10) rest → text ≡ front ++ 10 ∷ rest → line ≡ strip_carriage_return front
    → BeginsWithLine text line rest
ended_line text line front rest pieces is stripped =
    let long : length text ≡ length front + length (10 ∷ rest) = ap length is ∙ length-append front (10 ∷ rest) in
    record {
      lines_are = ap lines_of_parts pieces ∙ parts-cons front (slice_split (λ b. b == 10) rest) (some_pieces 10 rest) ∙ ap (λ l. l ∷ lines rest) (sym stripped);
      shorter = omega (arith, long);
      within = omega (arith, long, ap length stripped, stripped_within front);
    }

-- the only line of a text without a line feed
pub only_line : (text rest : List ℕ) → slice_split (λ b. b == 10) text ≡ text ∷ [] → (length text ≡ 0 → ⊥) → rest ≡ drop (length text) text → BeginsWithLine text text rest
only_line text rest pieces some is =
    let none : rest ≡ [] = is ∙ drop-length text in
    rw none (record {
      lines_are = ap lines_of_parts pieces ∙ ap (λ (t : Bool). if t then [] else text ∷ []) (ne_eqb _ 0 some);
      shorter = omega arith;
      within = omega arith;
    })
