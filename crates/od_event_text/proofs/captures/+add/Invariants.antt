use Rattle.std.proofs.Common.{take}
use Rattle.od_event_text.specs.Names.{captures_in, Adds}
use Rattle.od_event_text.proofs.captures.+add.Given as goal

abbrev pub invariant-add_all-loop-part : goal.invariant-add_all-loop-part
invariant-add_all-loop-part l = Adds l.fn.names l.names (captures_in (take l.part-index l.parts))
