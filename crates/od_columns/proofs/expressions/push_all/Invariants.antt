use Rattle.std.proofs.Common.{◌≡◌, ◌++◌, take}
use Rattle.od_asked.specs.Expressions.{expressions_of}
use Rattle.od_columns.specs.Lent.{all_lent}
use Rattle.od_columns.specs.Waiting.{texts}
use Rattle.od_columns.proofs.expressions.push_all.Given as goal

abbrev pub invariant-loop-asking : goal.invariant-loop-asking
invariant-loop-asking l =
    texts l.found.items ≡ texts l.fn.found.items ++ expressions_of (all_lent (take l.asking-index l.asked))
