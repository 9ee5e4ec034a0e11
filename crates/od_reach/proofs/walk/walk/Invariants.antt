use Rattle.std.proofs.Common.{◌≡◌, ◌+◌, ◌*◌, vec_len, not, count_by, length}
use Rattle.od_reach.specs.Moves.{input_of}
use Rattle.od_reach.specs.Walking.{GoesOn}
use Rattle.od_reach.proofs.walk.walk.Given as goal

abbrev pub invariant-spots : goal.invariant-spots
invariant-spots l = record {
  walking : GoesOn (input_of l.sentence.sentence l.columns.rows) l.code l.fn.marks.items l.fn.todo.items l.marks.items l.todo.items;
  room : vec_len l.marks ≡ vec_len l.fn.marks;
}

abbrev pub decreases-spots : goal.decreases-spots
decreases-spots l = count_by not l.marks.items * (length l.sentence.sentence.edges + 3) + vec_len l.todo
