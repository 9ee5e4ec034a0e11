-- The matches that are left lead to where all of them do.
use Rattle.std.proofs.Common.{◌≡◌, ◌+◌, ◌≤◌, length}
use Rattle.od_extraction.specs.Weight.{weight}
use Rattle.od_rule.specs.Left.{left_in}
use Rattle.od_rounds.specs.Left.{items_left}
use Rattle.od_rounds.specs.Looked.{walk_from}
use Rattle.od_rounds.specs.Weighed.{heaviest}
use Rattle.od_rounds.proofs.meet.meet_all.Given as goal

abbrev pub invariant-matches : goal.invariant-matches
invariant-matches l =
    (weight l.meeting.known.now + weight l.found ≤ heaviest l.meeting.known.now)
    × (walk_from l.meeting.known.now l.found (items_left l.meeting (left_in l.left))
    ≡ walk_from l.meeting.known.now l.initial.found (items_left l.meeting (left_in l.initial.left)))

abbrev pub decreases-matches : goal.decreases-matches
decreases-matches l = length (left_in l.left)
