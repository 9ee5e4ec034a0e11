-- The sentences that are left lead to where all of them do.
use Rattle.std.proofs.Common.{◌≡◌, ◌+◌, ◌≤◌, fold}
use Rattle.od_extraction.specs.declared.mention.RoundResult.TheVariants.{Found}
use Rattle.od_extraction.specs.Weight.{weight}
use Rattle.od_matching.specs.Rounds.Round.{walked, items_over}
use Rattle.od_rounds.specs.Looked.{sites_named, walk_from}
use Rattle.od_rounds.specs.Weighed.{heaviest}
use Rattle.od_rounds.proofs.Steps.{gives_at, left}
use Rattle.od_rounds.proofs.visit.visit_all.Given as goal

abbrev pub invariant-loop-place : goal.invariant-loop-place
invariant-loop-place g l =
    (weight l.numbered.known.now + weight l.found ≤ heaviest l.numbered.known.now)
    × (l.steps ≡ l.initial.steps + l.place)
    × (fold (walked l.numbered.known.now) (Found l.found)
    (left (gives_at l.numbered.view.now.segments l.numbered.known.now (l.numbered.number, l.numbered.rule.now)) l.numbered.known.now l.place l.refs)
    ≡ walk_from l.numbered.known.now l.initial.found
    (items_over (sites_named l.numbered.view.now.segments l.refs) l.numbered.known.now (l.numbered.number, l.numbered.rule.now)))
