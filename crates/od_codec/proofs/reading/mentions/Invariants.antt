use Rattle.std.proofs.Common.{◌≡◌, ◌-◌}
use Rattle.od_stored.specs.Steps.{in_a_row}
use Rattle.od_stored.specs.ReadMentions.{mention_at}
use Rattle.od_stored.proofs.Answering.{with_front}
use Rattle.od_codec.proofs.reading.mentions.Given as goal

abbrev pub invariant-loop : goal.invariant-loop
invariant-loop l = with_front l.mentions (in_a_row (mention_at l.total) (l.count - l.counter) l.rest) ≡ in_a_row (mention_at l.total) l.count l.bytes
