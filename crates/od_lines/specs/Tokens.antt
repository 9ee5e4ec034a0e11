-- What a writer of JSON is given.
use Rattle.std.specs.Prelude.{ℕ, List, ◌∷◌}
use Rattle.json.specs.Token.{Token, key}
use Rattle.json.specs.Tree.{json_tokens}
use Rattle.serde_json.specs.Data.{Data}
use Rattle.serde_json.specs.Written.{outline}

-- the tokens of a value
abbrev pub value_tokens : Data → List Token
value_tokens value = json_tokens (outline value)

-- the tokens of a key and its value
abbrev pub member_tokens : List ℕ → Data → List Token
member_tokens name value = key name ∷ value_tokens value
