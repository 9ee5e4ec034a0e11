use Rattle.od_syntax.proofs.Hops.Verdicts.{hops_are_computed, hop_texts_are_computed, hop_texts_have_one_answer}
use Rattle.od_syntax.proofs.syntax_laws.hops_are_computed.Goals as goal

pub returns-clause-anywhere : goal.returns-clause-anywhere
returns-clause-anywhere c = hops_are_computed

pub returns-clause-texts : goal.returns-clause-texts
returns-clause-texts c = hop_texts_are_computed

pub returns-clause-one_answer : goal.returns-clause-one_answer
returns-clause-one_answer c = hop_texts_have_one_answer
