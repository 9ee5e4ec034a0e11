-- The mentions of one round more.
use Rattle.std.proofs.Common.{◌≡◌, ◌+◌, List, [], ◌∷◌, ◌++◌, ap, ◌∙◌, append-nil}
use Rattle.std.proofs.lemmas.List.Concat.{flat_map-append}
use Rattle.od_extraction.specs.declared.mention.Mention.{Mention}
use Rattle.od_extraction.specs.Joined.{joined}
use Rattle.od_extraction.specs.Weight.{weight}
use Rattle.od_matching.proofs.Rounds.Weights.{weight-append}

-- the mentions of one list more
pub joined-snoc : (lists : List (List Mention)) (new : List Mention) → joined (lists ++ new ∷ []) ≡ joined lists ++ new
joined-snoc lists new = flat_map-append (λ l. l) lists (new ∷ []) ∙ ap (λ l. joined lists ++ l) (append-nil new)

-- they weigh as much more as the list does
pub weight-after : (lists : List (List Mention)) (new : List Mention) → weight (joined (lists ++ new ∷ [])) ≡ weight (joined lists) + weight new
weight-after lists new = ap weight (joined-snoc lists new) ∙ weight-append (joined lists) new
