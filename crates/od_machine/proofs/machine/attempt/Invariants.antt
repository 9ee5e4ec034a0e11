use Rattle.std.proofs.Common.{◌≡◌, ◌+◌, ◌≤◌, length, false}
use Rattle.std.specs.Prelude.{reverse, option_to_list, ◌++◌}
use Rattle.od_machine.specs.Dues.{owed, due, work_left}
use Rattle.od_machine.specs.Machine.{state, run}
use Rattle.od_machine.specs.Points.{stretch}
use Rattle.od_machine.specs.Search.{Searching}
use Rattle.od_machine.specs.Inputs.{given}
use Rattle.od_machine.proofs.machine.attempt.Given as goal

abbrev pub invariant-search : goal.invariant-search
invariant-search l =
    Searching (given l.tokens l.rows l.labels) l.code l.points l.start (run (given l.tokens l.rows l.labels) l.code (state 0 false l.start)) l.seen.marks l.trail.items (option_to_list l.next ++ reverse l.threads.items)
    × (length l.seen.marks ≡ length l.fn.seen.marks)
    × (l.seen.steps + due l.points l.tokens l.seen.marks (option_to_list l.next ++ reverse l.threads.items) ≤ l.fn.seen.steps + owed l.points l.tokens l.fn.seen.marks + stretch l.points.slots 0)

abbrev pub decreases-search : goal.decreases-search
decreases-search l = work_left l.points l.tokens l.seen.marks (option_to_list l.next ++ reverse l.threads.items)
