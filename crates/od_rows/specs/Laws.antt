-- Laws of rows.
use Rattle.std.specs.Prelude.{◌≡◌, ◌⊎◌, ℕ, ◌<◌, ◌≤◌, List, [], length, Some, IsUtf8}
use Rattle.od_text.specs.Lists.{Each}
use Rattle.od_document.specs.declared.doc.Doc.{Doc}
use Rattle.od_extraction.specs.Weight.{weight, most_weight}
use Rattle.od_session.specs.declared.object.SessionState.{SessionState}
use Rattle.od_session.specs.declared.object.TheConstants.{SESSION_ROUNDS}
use Rattle.od_pattern.specs.declared.grammar.Head.{Head}
use Rattle.od_command.specs.declared.history.Command.TheVariants.{AddDoc, OpenSession, Step}
use Rattle.od_command.specs.declared.history.Entry.{Entry}
use Rattle.od_command.specs.declared.history.Reply.TheVariants.{Added, Opened, Stepped}
use Rattle.od_row.specs.declared.rows.Rows.{Rows}
use Rattle.od_row.specs.More.{with_doc, with_session, with_round}
use Rattle.od_order.specs.Names.{IsProper}
use Rattle.od_session.specs.declared.object.OneThread.{OneThread}
use Rattle.od_session.specs.Parts.{IsAccepted, head_of, session_of, round_at}
use Rattle.od_extraction.specs.declared.mention.Mention.{Mention}
use Rattle.od_extraction.specs.declared.mention.RoundResult.TheVariants.{Found}
use Rattle.od_extraction.specs.declared.phase.Phase.{Phase}
use Rattle.od_stored.specs.declared.limits.TheConstants.{NUMBER_END}
use Rattle.od_stored.specs.Mentions.{list_bytes, IsWritable}
use Rattle.od_model.specs.Object.Effects.{found_of}
use Rattle.od_model.specs.History.Legal.{state_after, Legal}
use Rattle.od_row.specs.declared.table.TableName.{TableName}
use Rattle.od_rows.specs.After.{After, keep_reply, RoundsReadBack}
use Rattle.od_rows.specs.Formed.{WellFormed, IsBadRow}
use Rattle.od_rows.specs.Loaded.{load, released}
use Rattle.od_rows.specs.Sound.{AreSound}

-- rows are well formed, or have a first row that is not
abbrev pub RowsDecide : Type 0
RowsDecide = (rows : Rows) → WellFormed rows ⊎ ((table : TableName) × (place : ℕ) × IsBadRow rows table place)

-- never both
abbrev pub NeverBoth : Type 0
NeverBoth = (rows : Rows) (table : TableName) (place : ℕ) → WellFormed rows → IsBadRow rows table place → ⊥

-- one row alone is the first that is not well formed
abbrev pub OneBadRow : Type 0
OneBadRow =
    (rows : Rows) (table other : TableName) (place elsewhere : ℕ)
    → IsBadRow rows table place → IsBadRow rows other elsewhere → (table ≡ other) × (place ≡ elsewhere)

-- a legal history of proper commands from rows, with accepted grammars in UTF-8
pub record GoesOnFrom (base : Rows) (heads : List Head) (es : List Entry) : Type 0 where
  pub accepted : Each IsAccepted heads
  pub utf8 : Each (λ h. IsUtf8 h.text) heads
  pub legal : Legal (load base) heads es
  pub proper : Each (λ e. IsProper e.command) es

-- what its rounds found is read back
abbrev pub LegalRoundsReadBack : Type 0
LegalRoundsReadBack =
    (base : Rows) (heads : List Head) (es : List Entry)
    → WellFormed base → GoesOnFrom base heads es → RoundsReadBack (load base) heads es

-- it leaves well-formed rows
abbrev pub FormedStaysFormed : Type 0
FormedStaysFormed =
    (base : Rows) (heads : List Head) (es : List Entry)
    → WellFormed base → GoesOnFrom base heads es → WellFormed (After base heads es)

-- they are the object that it leads to, with nobody holding a session
abbrev pub LoadsWhatWasReached : Type 0
LoadsWhatWasReached =
    (base : Rows) (heads : List Head) (es : List Entry)
    → WellFormed base → GoesOnFrom base heads es
    → load (After base heads es) ≡ released (state_after (load base) heads es)

-- sound rows stay sound
abbrev pub SoundStaysSound : Type 0
SoundStaysSound =
    (base : Rows) (heads : List Head) (es : List Entry)
    → AreSound base → GoesOnFrom base heads es → AreSound (After base heads es)

-- no row is sound
abbrev pub no_rows : Rows
no_rows = record { docs = []; sessions = []; rounds = [] }

abbrev pub NoRowsAreSound : Type 0
NoRowsAreSound = AreSound no_rows

-- what a session must have to be put together again
pub record CanResume (docs : List Doc) (s : SessionState) : Type 0 where
  pub documents : s.documents ≤ length docs
  pub few : length s.rounds ≤ s.limit
  pub limit : s.limit ≤ SESSION_ROUNDS
  pub light : Each (λ list. weight list ≤ most_weight) s.rounds

-- each session that a legal history leads to has it, whether its rows are sound or not
abbrev pub SessionsCanResume : Type 0
SessionsCanResume =
    (base : Rows) (heads : List Head) (es : List Entry)
    → WellFormed base → GoesOnFrom base heads es
    → Each (CanResume (state_after (load base) heads es).docs) (state_after (load base) heads es).sessions

-- what the next round of a session that somebody holds finds can be written
abbrev pub FoundIsWritable : Type 0
FoundIsWritable =
    (base : Rows) (heads : List Head) (es : List Entry) (name : List ℕ) (s : SessionState) (owner : ℕ) (new : List Mention)
    → WellFormed base → GoesOnFrom base heads es
    → session_of name (state_after (load base) heads es).sessions ≡ Some s → s.holder ≡ Some owner
    → round_at (state_after (load base) heads es).docs s ≡ Found new
    → (length new < NUMBER_END) × Each IsWritable new

-- the reply to a document, an opening and a step keeps one row, which code makes of what it has
pub record RowsOfReplies : Type 0 where
  pub doc : (heads : List Head) (o : OneThread) (rows : Rows) (name body : List ℕ) (documents : ℕ)
      → keep_reply heads o rows (AddDoc name body) (Added documents) ≡ with_doc rows (record { name = name; body = body })
  pub session : (heads : List Head) (o : OneThread) (rows : Rows) (name grammar : List ℕ) (limit documents shown : ℕ) (head : Head)
      → head_of grammar heads ≡ Some head
      → keep_reply heads o rows (OpenSession name grammar limit) (Opened documents shown)
      ≡ with_session rows (record { name = name; kind = head.kind; text = head.text; documents = documents; limit = limit })
  pub round : (heads : List Head) (o : OneThread) (rows : Rows) (name : List ℕ) (number added : ℕ) (phase : Phase) (s : SessionState)
      → session_of name o.sessions ≡ Some s
      → keep_reply heads o rows (Step name) (Stepped number added phase)
      ≡ with_round rows (record { session = name; round = number; body = list_bytes (found_of (round_at o.docs s)) })
