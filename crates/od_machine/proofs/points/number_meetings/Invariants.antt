use Rattle.std.proofs.Common.{◌≡◌, ◌+◌, ◌≤◌, ◌++◌, drop, length}
use Rattle.od_machine.specs.Points.{numbered_from, runs}
use Rattle.od_machine.proofs.points.number_meetings.Given as goal

abbrev pub invariant-loop-meeting : goal.invariant-loop-meeting
invariant-loop-meeting l =
    (l.slots ++ numbered_from l.count (drop l.meeting-index l.meets) ≡ numbered_from 0 l.meets)
    × (l.count + length (runs (numbered_from l.count (drop l.meeting-index l.meets))) ≡ length (runs (numbered_from 0 l.meets)))
    × (l.count ≤ l.meeting-index)
