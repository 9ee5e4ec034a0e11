use Rattle.std.proofs.Common.{◌≡◌, ◌++◌, take, flat_map}
use Rattle.od_text.specs.Lists.{Each}
use Rattle.od_stored.specs.Mentions.{IsPart, part_bytes}
use Rattle.od_codec.proofs.writing.put_parts.Given as goal

abbrev pub invariant-loop-part : goal.invariant-loop-part
invariant-loop-part l = record {
  written : l.out.items ≡ l.fn.out.items ++ flat_map part_bytes (take l.part-index l.parts);
  are : Each IsPart (take l.part-index l.parts);
}
