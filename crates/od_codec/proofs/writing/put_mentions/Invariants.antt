use Rattle.std.proofs.Common.{◌≡◌, ◌++◌, take, flat_map}
use Rattle.od_text.specs.Lists.{Each}
use Rattle.od_stored.specs.Mentions.{IsMention, mention_bytes}
use Rattle.od_codec.proofs.writing.put_mentions.Given as goal

abbrev pub invariant-loop-mention : goal.invariant-loop-mention
invariant-loop-mention l = record {
  written : l.out.items ≡ l.fn.out.items ++ flat_map mention_bytes (take l.mention-index l.mentions);
  are : Each IsMention (take l.mention-index l.mentions);
}
