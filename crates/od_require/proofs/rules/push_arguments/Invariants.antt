use Rattle.std.proofs.Common.{◌≡◌, ◌++◌, map, take}
use Rattle.od_need.specs.Needs.{need_argument}
use Rattle.od_require.proofs.rules.push_arguments.Given as goal

abbrev pub invariant-loop-argument : goal.invariant-loop-argument
invariant-loop-argument l = l.needs ≡ l.fn.needs ++ map need_argument (take l.argument-index l.arguments)
