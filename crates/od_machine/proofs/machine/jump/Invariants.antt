use Rattle.std.proofs.Common.{◌+◌, ◌-◌, ◌≤◌, vec_len}
use Rattle.od_machine.specs.Spans.{Passed, Stacked}
use Rattle.od_machine.proofs.machine.jump.Given as goal

abbrev pub invariant-loop-entry : goal.invariant-loop-entry
invariant-loop-entry l =
    Passed l.labels l.name l.at l.tokens l.near l.entry-index l.reach
    × Stacked l.labels l.name (l.pc + 1) l.events l.at l.reach l.fn.threads.items l.threads.items
    × (l.at ≤ l.reach) × (l.reach ≤ l.tokens)
    × (vec_len l.threads ≤ vec_len l.fn.threads + (l.reach - l.at))
