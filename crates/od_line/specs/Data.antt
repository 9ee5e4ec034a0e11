-- The JSON values of output lines.
use Rattle.std.specs.Prelude.{ℕ, List, [], ◌∷◌, ◌++◌, Option, Some, None}
use Rattle.serde_json.specs.Data.{Data, null, number, string, object, unsigned, Members, no_members, put}
use Rattle.serde_json.specs.Written.{compact_text}

-- a number that is not negative
abbrev pub count : ℕ → Data
count n = number (unsigned n)

-- a text
abbrev pub word : List ℕ → Data
word text = string text

-- a text, or null where there is none
abbrev pub word_or_null : Option (List ℕ) → Data
word_or_null None = null
word_or_null (Some text) = word text

-- the members with more, each put at its key
abbrev pub with_members : List (List ℕ × Data) → Members → Members
with_members [] members = members
with_members (m ∷ more) members = with_members more (put m.0 m.1 members)

-- the object of some members: its keys stand in the order of their bytes
abbrev pub object_of : List (List ℕ × Data) → Data
object_of members = object (with_members members no_members)

-- the value as compact JSON, and the end of the line
abbrev pub line_of : Data → List ℕ
line_of value = compact_text value ++ 10 ∷ []
