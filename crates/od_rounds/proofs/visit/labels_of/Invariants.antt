-- The mentions so far as labels.
use Rattle.std.proofs.Common.{◌≡◌, map, take}
use Rattle.od_matching.specs.Matching.Rules.{labelled}
use Rattle.od_rounds.proofs.visit.labels_of.Given as goal

abbrev pub invariant-loop-mention : goal.invariant-loop-mention
invariant-loop-mention l = l.labels ≡ map labelled (map (λ m. m.now) (take l.mention-index l.mentions))
