-- What a state keeps when a mention comes or goes.
use Rattle.std.proofs.Common.{◌≡◌, ℕ, ◌+◌, ◌-◌, ◌≤◌, List, [], ◌∷◌, ◌++◌, length, take, fold, Bool, true, false, cond, sym, ap, ◌∙◌, arith, length-append}
use Rattle.std.proofs.lemmas.List.Sums.{fold-append}
use Rattle.std.proofs.Math.Seq.{take-append_seam}
use Rattle.od_extraction.specs.declared.mention.Mention.{Mention}
use Rattle.od_extraction.specs.Mentions.{is_among, with_new, distinct}
use Rattle.od_extraction.specs.Weight.{weight}
use Rattle.od_matching.proofs.Rounds.Weights.{weight-append}
use Rattle.od_mentions.specs.declared.index.Index.{Index}
use Rattle.od_mentions.specs.Indexes.{UnindexesOne}
use Rattle.od_mentions.specs.States.{IsKept}
use Rattle.od_mentions.proofs.Noted.{index-less}

-- ## Without repeats

with_new-le : (seen : List Mention) (m : Mention) (b : Bool) → length (cond b seen (seen ++ m ∷ [])) ≤ length seen + 1
with_new-le seen m true = omega arith
with_new-le seen m false = omega (arith, length-append seen (m ∷ []))

distinct-le : (seen xs : List Mention) → length (fold with_new seen xs) ≤ length seen + length xs
distinct-le seen [] = omega arith
distinct-le seen (x ∷ xs) = omega (arith, distinct-le (with_new seen x) xs, with_new-le seen x (is_among seen x))

-- lists with the same last element have the same front
same-front : (a b : List Mention) (m : Mention) → a ++ m ∷ [] ≡ b ++ m ∷ [] → a ≡ b
same-front a b m e =
    let long : length a ≡ length b = omega (arith, ap length e, length-append a (m ∷ []), length-append b (m ∷ [])) in
    sym (take-append_seam a (m ∷ [])) ∙ ap (take (length a)) e ∙ ap (λ n. take n (b ++ m ∷ [])) long ∙ take-append_seam b (m ∷ [])

front : (d ms : List Mention) (m : Mention) (b : Bool) → length d ≤ length ms → cond b d (d ++ m ∷ []) ≡ ms ++ m ∷ [] → d ≡ ms
front d ms m true h e = absurd (omega (arith, h, ap length e, length-append ms (m ∷ [])))
front d ms m false h e = same-front d ms m e

distinct-less : (ms : List Mention) (m : Mention) → distinct (ms ++ m ∷ []) ≡ ms ++ m ∷ [] → distinct ms ≡ ms
distinct-less ms m d =
    let short : length (distinct ms) ≤ length ms = omega (arith, distinct-le [] ms) in
    front (distinct ms) ms m (is_among (distinct ms) m) short (sym (fold-append with_new [] ms (m ∷ [])) ∙ d)

-- ## States

weight-one : (ms : List Mention) (m : Mention) → weight (ms ++ m ∷ []) ≡ weight ms + (1 + length m.parts)
weight-one ms m = weight-append ms (m ∷ []) ∙ (omega arith)

-- the last one goes
pub kept-less : (ms : List Mention) (m : Mention) (index after : Index) (total : ℕ) → IsKept (ms ++ m ∷ []) index total → UnindexesOne index after m
    → IsKept ms after (total - (1 + length m.parts))
kept-less ms m index after total k gone = record {
  indexed = index-less index after ms m gone k.indexed;
  unlike = distinct-less ms m k.unlike;
  weighs = omega (arith, k.weighs, weight-one ms m);
  light = omega (arith, k.light);
}
