use Rattle.std.proofs.Common.{◌≡◌, ◌+◌, drop}
use Rattle.od_yaml.specs.Comments.{comment_place}
use Rattle.od_yaml.proofs.plain.comment_at.Given as goal

abbrev pub invariant-loop-i : goal.invariant-loop-i
invariant-loop-i l = comment_place l.text ≡ l.i + comment_place (drop l.i l.text)
