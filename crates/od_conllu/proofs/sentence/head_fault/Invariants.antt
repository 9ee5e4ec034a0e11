use Rattle.std.proofs.Common.{◌≡◌, drop, map}
use Rattle.od_document.specs.Faults.{heads_fault}
use Rattle.od_conllu.specs.Lines.{word_seen}
use Rattle.od_conllu.proofs.sentence.head_fault.Given as goal

-- the words so far have no head that is too great
abbrev pub invariant-loop-word : goal.invariant-loop-word
invariant-loop-word l = heads_fault l.count (map word_seen l.words) ≡ heads_fault l.count (map word_seen (drop l.word-index l.words))
