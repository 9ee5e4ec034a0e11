-- The mentions so far.
use Rattle.std.proofs.Common.{◌≡◌, take}
use Rattle.od_workspace.proofs.workspace.copied.Given as goal

abbrev pub invariant-loop-mention : goal.invariant-loop-mention
invariant-loop-mention l = l.twin ≡ take l.mention-index l.mentions
