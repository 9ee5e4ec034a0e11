-- The tokens of a sentence that is kept as numbers.
use Rattle.std.specs.Prelude.{List, [], Option, Some, None}
use Rattle.std.specs.Borrow.{Bor}
use Rattle.od_document.specs.declared.token.Token.{Token}
use Rattle.od_index.specs.Sentences.{Indexed}

-- the tokens of a sentence, where it is there
abbrev pub tokens_of : Option (Bor Indexed) → List Token
tokens_of None = []
tokens_of (Some words) = words.now.sentence.tokens
