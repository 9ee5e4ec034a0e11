use Rattle.std.specs.Str.{chars}
use Rattle.od_syntax.proofs.Hops.Verdicts.{hop_texts_have_one_answer}
use Rattle.od_written.proofs.Hops.{hop_text}
use Rattle.od_hop.proofs.Verdicts.{hop_value, hop_fault, hop_only_value, hop_only_fault}
use Rattle.od_hop.proofs.text.parse_hop.Goals as goal

pub returns-clause-value : goal.returns-clause-value
returns-clause-value c = hop_value (chars c.args.text.now) _ c.hop_of.ensures

pub returns-clause-fault : goal.returns-clause-fault
returns-clause-fault c = hop_fault (chars c.args.text.now) _ c.hop_of.ensures

pub returns-clause-only_value : goal.returns-clause-only_value
returns-clause-only_value c = hop_only_value (chars c.args.text.now) _ c.hop_of.ensures

pub returns-clause-only_fault : goal.returns-clause-only_fault
returns-clause-only_fault c = hop_only_fault (chars c.args.text.now) _ c.hop_of.ensures

pub returns-clause-one_answer : goal.returns-clause-one_answer
returns-clause-one_answer c = hop_texts_have_one_answer (chars c.args.text.now)

pub returns-clause-reads_back : goal.returns-clause-reads_back
returns-clause-reads_back c = λ p w h keeps small. returns-clause-only_value c p (record { is = hop_text 0 (chars c.args.text.now) p w h keeps; small = small })
