-- Where a match and a mention lie.
use Rattle.std.specs.Prelude.{◌≡◌, ℕ, ◌<◌, ◌≤◌, List, length, slice_get, Some}
use Rattle.od_text.specs.Lists.{Each}
use Rattle.od_document.specs.declared.sentence.Sentence.{Sentence}
use Rattle.od_document.specs.declared.doc.Doc.{Doc}
use Rattle.od_extraction.specs.declared.mention.Match.{Match}
use Rattle.od_extraction.specs.declared.mention.Mention.{Mention}
use Rattle.od_extraction.specs.declared.mention.Part.{Part}

-- a part lies within so many tokens; it may have none
abbrev pub PartLiesWithin : ℕ → Part → Type 0
PartLiesWithin count part = (part.start ≤ part.end) × (part.end ≤ count)

-- a match takes at least one of so many tokens, and its captures lie within them
pub record MatchLiesWithin (count : ℕ) (m : Match) : Type 0 where
  pub takes : m.span.start < m.span.end
  pub ends : m.span.end ≤ count
  pub captures : Each (PartLiesWithin count) m.captures

-- a mention takes at least one of so many tokens, and its parts lie within them
pub record LiesWithin (count : ℕ) (m : Mention) : Type 0 where
  pub takes : m.start < m.end
  pub ends : m.end ≤ count
  pub parts : Each (PartLiesWithin count) m.parts

-- a mention lies in a sentence of one of the documents
pub record LiesIn (docs : List Doc) (m : Mention) : Type 0 where
  pub doc : Doc
  pub doc_is : slice_get docs m.document ≡ Some doc
  pub sentence : Sentence
  pub sentence_is : slice_get doc.sentences m.sentence ≡ Some sentence
  pub lies : LiesWithin (length sentence.tokens) m
