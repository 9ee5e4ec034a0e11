-- Hashes of mentions, of where their sentences stand, and of labels.
use Rattle.std.specs.Prelude.{ℕ, ◌*◌, ◌^◌, ◌%◌, bit_xor, List, length, fold, Option, Some, None}
use Rattle.od_extraction.specs.declared.mention.Part.{Part}
use Rattle.od_extraction.specs.declared.mention.Mention.{Mention}

-- a hash with one number more: a step of FNV-1a with 64 bits
unfoldable pub mixed : ℕ → ℕ → ℕ
mixed hash number = (bit_xor hash number * 0x100000001b3) % 2 ^ 64

-- with a text more: its length, then its bytes
abbrev pub text_mixed : ℕ → List ℕ → ℕ
text_mixed hash text = fold mixed (mixed hash (length text)) text

-- with a text more that may be absent
abbrev pub optional_mixed : ℕ → Option (List ℕ) → ℕ
optional_mixed hash None = mixed hash 0
optional_mixed hash (Some text) = text_mixed (mixed hash 1) text

-- with a part more
abbrev pub part_mixed : ℕ → Part → ℕ
part_mixed hash part =
    mixed (mixed (optional_mixed (text_mixed hash part.name) part.label) part.start) part.end

-- the start of every hash
abbrev pub first_hash : ℕ
first_hash = 0xcbf29ce484222325

-- the hash of where a sentence stands
unfoldable pub sentence_hash : ℕ → ℕ → ℕ
sentence_hash document sentence = mixed (mixed first_hash document) sentence

-- the hash of a label
unfoldable pub label_hash : List ℕ → ℕ
label_hash label = text_mixed first_hash label

-- the hash of all that a mention has
unfoldable pub mention_hash : Mention → ℕ
mention_hash m =
    let span = mixed (mixed (sentence_hash m.document m.sentence) m.start) m.end in
    fold part_mixed (text_mixed (text_mixed span m.label) m.rule) m.parts
