use Rattle.std.proofs.Common.{◌+◌, ◌-◌, ◌*◌, ◌≤◌, [], length}
use Rattle.od_machine.specs.Dues.{owed}
use Rattle.od_machine.specs.Found.{GoesOn}
use Rattle.od_machine.specs.Inputs.{given}
use Rattle.od_machine.specs.Search.{FailFrom}
use Rattle.od_machine.proofs.scan.scan_rows.Given as goal

abbrev pub invariant-places : goal.invariant-places
invariant-places l =
    FailFrom (given l.tokens l.rows l.labels) l.code l.points l.at l.seen.marks
    × ((l.tokens + 1) * (2 * l.points.count) ≤ length l.seen.marks)
    × (l.seen.steps + owed l.points l.tokens l.seen.marks ≤ (l.tokens + 1) * length l.code * 2 + l.at * length l.code * 2)
    × (l.at ≤ l.tokens)
    × GoesOn (given l.tokens l.rows l.labels) l.code l.matches.items l.at [] 0

abbrev pub decreases-places : goal.decreases-places
decreases-places l = l.tokens - l.at
