use Rattle.std.proofs.Common.{◌≡◌, take, map}
use Rattle.od_document.specs.Words.{edges_from}
use Rattle.od_conllu.specs.Lines.{word_seen}
use Rattle.od_conllu.proofs.sentence.edges.Given as goal

-- the edges are those of the words before the next one
abbrev pub invariant-loop-word : goal.invariant-loop-word
invariant-loop-word l = (l.edges.items ≡ edges_from 0 (map word_seen (take l.word-index l.words))) × (l.place ≡ l.word-index)
