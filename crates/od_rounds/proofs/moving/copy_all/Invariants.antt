use Rattle.std.proofs.Common.{◌≡◌, take, fold}
use Rattle.od_extraction.specs.Mentions.{with_new}
use Rattle.od_rounds.proofs.moving.copy_all.Given as goal

abbrev pub invariant-loop-place : goal.invariant-loop-place
invariant-loop-place l = l.known ≡ fold with_new l.fn.known (take l.place l.mentions)
