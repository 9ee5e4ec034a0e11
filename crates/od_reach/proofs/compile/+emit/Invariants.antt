use Rattle.std.proofs.Common.{◌≡◌, ◌-◌, ◌++◌, List, drop}
use Rattle.od_reach.specs.Code.{code_list, code_any, any_size_list, times_code, turns_code, code_of}
use Rattle.od_reach.specs.declared.moves.Move.{Move}
use Rattle.od_reach.proofs.compile.+emit.Given as goal

abbrev pub invariant-emit_all-loop-part : goal.invariant-emit_all-loop-part
invariant-emit_all-loop-part l =
    l.code.items ++ code_list l.next (drop l.part-index l.parts) ≡ l.fn.code.items ++ code_list l.row l.parts

abbrev pub invariant-emit_any-loop-part : goal.invariant-emit_any-loop-part
invariant-emit_any-loop-part l =
    (l.rest ≡ any_size_list (drop l.part-index l.parts))
    × (l.code.items ++ code_any l.next (drop l.part-index l.parts) ≡ l.fn.code.items ++ code_any l.row l.parts)

abbrev pub invariant-emit_times-loop-k : goal.invariant-emit_times-loop-k
invariant-emit_times-loop-k l =
    (rest : List Move) → l.code.items ++ times_code (code_of l.row l.body) (l.n - l._k) rest ≡ l.fn.code.items ++ times_code (code_of l.row l.body) l.n rest

abbrev pub invariant-emit_turns-loop-k : goal.invariant-emit_turns-loop-k
invariant-emit_turns-loop-k l =
    l.code.items ++ turns_code (code_of l.row l.body) (l.n - l.k) ≡ l.fn.code.items ++ turns_code (code_of l.row l.body) l.n
