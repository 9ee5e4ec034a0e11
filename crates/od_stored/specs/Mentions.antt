-- The bytes of a list of mentions, and which lists have some.
use Rattle.std.specs.Prelude.{ℕ, ◌<◌, ◌≤◌, List, [], ◌∷◌, ◌++◌, length, flat_map, Option, Some, None, IfSome}
use Rattle.od_text.specs.Lists.{Each}
use Rattle.od_extraction.specs.declared.mention.Mention.{Mention}
use Rattle.od_extraction.specs.declared.mention.Part.{Part}
use Rattle.od_stored.specs.declared.limits.TheConstants.{NUMBER_END}
use Rattle.od_stored.specs.Numbers.{number_bytes}
use Rattle.od_stored.specs.Texts.{IsText, text_bytes}

-- no label is the byte 0, a label the byte 1 and its text
abbrev pub label_bytes : Option (List ℕ) → List ℕ
label_bytes None = 0 ∷ []
label_bytes (Some label) = 1 ∷ text_bytes label

-- a part is its name, its label, its start and its end
unfoldable pub part_bytes : Part → List ℕ
part_bytes p =
    text_bytes p.name ++ (label_bytes p.label ++ (number_bytes p.start ++ number_bytes p.end))

-- so many items, and their number before them
abbrev pub counted : {X : Type 0} → (X → List ℕ) → List X → List ℕ
counted bytes_of xs = number_bytes (length xs) ++ flat_map bytes_of xs

-- a mention is its document, sentence, start and end, its label and its rule, and its parts
unfoldable pub mention_bytes : Mention → List ℕ
mention_bytes m =
    number_bytes m.document ++ (number_bytes m.sentence ++ (number_bytes m.start ++ (number_bytes m.end
    ++ (text_bytes m.label ++ (text_bytes m.rule ++ counted part_bytes m.parts)))))

-- a list is the version, which is 1, and its mentions
unfoldable pub list_bytes : List Mention → List ℕ
list_bytes ms = 1 ∷ counted mention_bytes ms

-- a part that can be stored: its span may have no token
pub record IsPart (p : Part) : Type 0 where
  pub name : IsText p.name
  pub label : IfSome p.label IsText
  pub span : p.start ≤ p.end
  pub small : p.end < NUMBER_END

-- a mention that can be stored: its span has a token
pub record IsMention (m : Mention) : Type 0 where
  pub document : m.document < NUMBER_END
  pub sentence : m.sentence < NUMBER_END
  pub span : m.start < m.end
  pub small : m.end < NUMBER_END
  pub label : IsText m.label
  pub rule : IsText m.rule
  pub count : length m.parts < NUMBER_END
  pub parts : Each IsPart m.parts

-- a list that can be stored
pub record IsList (ms : List Mention) : Type 0 where
  pub count : length ms < NUMBER_END
  pub mentions : Each IsMention ms

-- A part, as a program has it, can be written: its texts are UTF-8 and its numbers are below 2^32 anyhow.
pub record IsWritablePart (p : Part) : Type 0 where
  pub name : length p.name < NUMBER_END
  pub label : IfSome p.label (λ label. length label < NUMBER_END)
  pub span : p.start ≤ p.end

-- a mention, as a program has it, can be written
pub record IsWritable (m : Mention) : Type 0 where
  pub span : m.start < m.end
  pub label : length m.label < NUMBER_END
  pub rule : length m.rule < NUMBER_END
  pub count : length m.parts < NUMBER_END
  pub parts : Each IsWritablePart m.parts
