use Rattle.std.proofs.Common.{append_assoc, rules}
use Rattle.od_stored.specs.Mentions.{mention_bytes}
use Rattle.od_codec.proofs.writing.put_mention.Goals as goal

pub returns-clause-ok : goal.returns-clause-ok
unfolding mention_bytes
returns-clause-ok c = search (rules, append_assoc) depth 12
