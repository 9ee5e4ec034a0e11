use Rattle.std.proofs.Common.{◌≡◌, ◌≤◌}
use Rattle.od_language.specs.Depth.{depth_before}
use Rattle.od_lex.proofs.constraint.depth_at.Given as goal

abbrev pub invariant-loop-x : goal.invariant-loop-x
invariant-loop-x l = record { few : l.depth ≤ l.x-index; is : l.depth ≡ depth_before l.before l.x-index }
