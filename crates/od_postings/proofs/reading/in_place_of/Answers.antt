-- The same tokens and the same edges are the same sentence.
use Rattle.od_postings.proofs.Sentences.{same_sentence}
use Rattle.od_postings.proofs.reading.in_place_of.Goals as goal

pub returns-clause-sentence : goal.returns-clause-sentence
returns-clause-sentence c = same_sentence _ c.args._sentence.now.sentence c.requires.tokens c.requires.edges
