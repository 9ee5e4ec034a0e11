use Rattle.std.proofs.Common.{◌≡◌, map, take}
use Rattle.od_text.specs.Lists.{Each}
use Rattle.od_constraint.specs.Runners.{patterns_of, AreOwn}
use Rattle.od_columns.specs.Lent.{all_lent}
use Rattle.od_columns.specs.Resolved.{asked_in, table_of}
use Rattle.od_columns.proofs.resolved.resolve_all.Given as goal

abbrev pub invariant-loop-asking : goal.invariant-loop-asking
invariant-loop-asking g l =
    (map asked_in l.things.items ≡ all_lent (take l.asking-index l.asked))
    × Each (λ thing. table_of thing ≡ l.table) l.things.items
    × AreOwn g.R.Runner.pattern l.runners
    × (patterns_of l.runners ≡ patterns_of l.fn.runners)
