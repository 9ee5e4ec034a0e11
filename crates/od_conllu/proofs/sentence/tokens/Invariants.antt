use Rattle.std.proofs.Common.{◌≡◌, take, map}
use Rattle.od_document.specs.Words.{token_of}
use Rattle.od_conllu.specs.Lines.{word_seen}
use Rattle.od_conllu.proofs.sentence.tokens.Given as goal

-- the tokens are those of the words before the next one
abbrev pub invariant-loop-word : goal.invariant-loop-word
invariant-loop-word l = l.tokens.items ≡ map token_of (map word_seen (take l.word-index l.words))
