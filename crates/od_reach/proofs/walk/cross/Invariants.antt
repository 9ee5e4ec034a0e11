use Rattle.std.proofs.Common.{◌≡◌, ◌+◌, ◌≤◌, ◌++◌, vec_len, take}
use Rattle.od_reach.specs.Links.{end_of, over_all}
use Rattle.od_reach.specs.Moves.{input_of}
use Rattle.od_reach.proofs.walk.cross.Given as goal

abbrev pub invariant-loop-i : goal.invariant-loop-i
invariant-loop-i l = record {
  spots : l.todo.items ≡ l.fn.todo.items ++ over_all (end_of l.governor) (input_of l.sentence.sentence l.columns.rows) l.row l.pc (take l.i l.numbers);
  few : vec_len l.todo ≤ vec_len l.fn.todo + l.i;
}
