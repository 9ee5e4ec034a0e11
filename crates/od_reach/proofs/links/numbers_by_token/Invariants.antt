use Rattle.od_reach.specs.Links.{AreNumbersAt, end_of}
use Rattle.od_reach.proofs.links.numbers_by_token.Given as goal

abbrev pub invariant-loop-place : goal.invariant-loop-place
invariant-loop-place l = AreNumbersAt (end_of l.governor) l.sentence.sentence l.place l.lists.items
