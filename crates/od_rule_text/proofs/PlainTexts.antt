-- Texts without occurrences are their own expansions.
use Rattle.std.proofs.Common.{◌≡◌, ℕ, List, [], ◌∷◌, false, refl, ap, Option, Some, None, Result, Ok}
use Rattle.od_rule_text.specs.Expansion.{Misfit, begins_with_opening, has_opening, occurrence, pieces, piece_at, bytes_behind, in_front, joined, expanded}
use Rattle.od_rule_text.specs.Laws.{KeepsPlainTexts}
use Rattle.od_rule_text.proofs.Outcomes.{neither}

-- where a text does not begin with `${`, no variable occurs at its front
no_occurrence : (text : List ℕ) → begins_with_opening text ≡ false → occurrence text ≡ None
no_occurrence text h = rw h refl

-- a byte that stays in front of a plain text
stays_in_front : (e : List ℕ → Result (List ℕ) Misfit) (c : ℕ) (text : List ℕ) (o : Option (List ℕ)) → o ≡ None →
    joined e (pieces 0 text) ≡ Ok text → joined e (piece_at c o ∷ pieces (bytes_behind o) text) ≡ Ok (c ∷ text)
stays_in_front e c text None none h = ap (in_front (c ∷ [])) h
stays_in_front e c text (Some name) none h = absurd (cc)

plain : (e : List ℕ → Result (List ℕ) Misfit) (text : List ℕ) → has_opening text ≡ false → joined e (pieces 0 text) ≡ Ok text
plain e [] h = refl
plain e (c ∷ text) h =
    let n = neither (begins_with_opening (c ∷ text)) (has_opening text) h in
    stays_in_front e c text (occurrence (c ∷ text)) (no_occurrence (c ∷ text) n.0) (plain e text n.1)

pub keeps_plain_texts : KeepsPlainTexts
unfolding expanded
keeps_plain_texts vars text h = plain _ text h
