-- Notes of where mentions stand, by three hashes.
use Rattle.std.specs.Prelude.{ℕ, List}
use Rattle.od_extraction.specs.declared.mention.Mention.{Mention}
use Rattle.od_mentions.specs.declared.index.Index.{Index}
use Rattle.od_mentions.specs.Hashes.{mention_hash, sentence_hash, label_hash}
use Rattle.od_mentions.specs.Notes.{NotesOne, NotesSame, LosesOne, AreNotes}

-- the hash of where a mention's sentence stands
abbrev pub hash_by_sentence : Mention → ℕ
hash_by_sentence m = sentence_hash m.document m.sentence

-- the hash of a mention's label
abbrev pub hash_by_label : Mention → ℕ
hash_by_label m = label_hash m.label

-- the place of one mention more is noted
pub record IndexesOne (before after : Index) (m : Mention) (place : ℕ) : Type 0 where
  pub by_mention : NotesOne before.by_mention after.by_mention (mention_hash m) place
  pub by_sentence : NotesOne before.by_sentence after.by_sentence (hash_by_sentence m) place
  pub by_label : NotesOne before.by_label after.by_label (hash_by_label m) place

-- the last note of a mention is gone
pub record UnindexesOne (before after : Index) (m : Mention) : Type 0 where
  pub by_mention : LosesOne before.by_mention after.by_mention (mention_hash m)
  pub by_sentence : LosesOne before.by_sentence after.by_sentence (hash_by_sentence m)
  pub by_label : LosesOne before.by_label after.by_label (hash_by_label m)

-- the same notes
pub record IndexesSame (before after : Index) : Type 0 where
  pub by_mention : NotesSame before.by_mention after.by_mention
  pub by_sentence : NotesSame before.by_sentence after.by_sentence
  pub by_label : NotesSame before.by_label after.by_label

-- the notes of these mentions
pub record IsIndexOf (index : Index) (ms : List Mention) : Type 0 where
  pub by_mention : AreNotes mention_hash index.by_mention ms
  pub by_sentence : AreNotes hash_by_sentence index.by_sentence ms
  pub by_label : AreNotes hash_by_label index.by_label ms
