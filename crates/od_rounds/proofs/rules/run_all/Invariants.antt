-- The rules that are left lead to where all of them do, and open what is left to open.
use Rattle.std.proofs.Common.{◌≡◌, ◌+◌, ◌≤◌, drop, fold, flat_map}
use Rattle.std.specs.List.{enumerate_from, sum_by}
use Rattle.od_extraction.specs.declared.mention.RoundResult.TheVariants.{Found}
use Rattle.od_extraction.specs.Weight.{weight}
use Rattle.od_matching.specs.Rounds.Round.{walked}
use Rattle.od_rounds.specs.Looked.{walk_from}
use Rattle.od_rounds.specs.Ready.{items_of_rule, opened_by_rule}
use Rattle.od_rounds.specs.Weighed.{heaviest}
use Rattle.od_rounds.proofs.Steps.{numbered}
use Rattle.od_rounds.proofs.rules.run_all.Given as goal

abbrev pub invariant-loop-place : goal.invariant-loop-place
invariant-loop-place g l =
    (weight l.round.known.now + weight l.found ≤ heaviest l.round.known.now)
    × (l.steps + sum_by (opened_by_rule l.round) (enumerate_from (l.place + 1) (drop l.place l.round.file.rules.now))
    ≤ l.initial.steps + sum_by (opened_by_rule l.round) (enumerate_from 1 l.round.file.rules.now))
    × (fold (walked l.round.known.now) (Found l.found)
    (numbered (items_of_rule l.round) l.round.known.now l.place l.round.file.rules.now)
    ≡ walk_from l.round.known.now l.initial.found (flat_map (items_of_rule l.round) (enumerate_from 1 l.round.file.rules.now)))
