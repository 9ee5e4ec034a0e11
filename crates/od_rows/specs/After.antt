-- The rows that a history leaves: those from which it began, and one for each reply `Added`, `Opened` and `Stepped`.
use Rattle.std.specs.Prelude.{◌≡◌, ℕ, ◌+◌, List, [], ◌∷◌, ◌++◌, flat_map, Option, Some, None, Ok}
use Rattle.od_text.specs.Lists.{points, EachPoint}
use Rattle.od_document.specs.declared.doc.Doc.{Doc}
use Rattle.od_pattern.specs.declared.grammar.Head.{Head}
use Rattle.od_extraction.specs.declared.mention.RoundResult.{RoundResult}
use Rattle.od_extraction.specs.declared.mention.RoundResult.TheVariants.{Found, Crowded, TooMany}
use Rattle.od_stored.specs.Mentions.{list_bytes}
use Rattle.od_stored.specs.ReadMentions.{list_read}
use Rattle.od_command.specs.declared.history.Command.{Command}
use Rattle.od_command.specs.declared.history.Command.TheVariants.{AddDoc, OpenSession, Step}
use Rattle.od_command.specs.declared.history.Reply.{Reply}
use Rattle.od_command.specs.declared.history.Reply.TheVariants.{Added, Opened, Stepped}
use Rattle.od_command.specs.declared.history.Entry.{Entry}
use Rattle.od_row.specs.declared.rows.DocRow.{DocRow}
use Rattle.od_row.specs.declared.rows.SessionRow.{SessionRow}
use Rattle.od_row.specs.declared.rows.RoundRow.{RoundRow}
use Rattle.od_row.specs.declared.rows.Rows.{Rows}
use Rattle.od_session.specs.declared.object.SessionState.{SessionState}
use Rattle.od_session.specs.declared.object.OneThread.{OneThread}
use Rattle.od_session.specs.Parts.{head_of, session_of, round_at}
use Rattle.od_model.specs.Object.Effects.{found_of}
use Rattle.od_model.specs.History.Legal.{state_after}
use Rattle.od_rows.specs.Loaded.{load}

-- ## The row of a reply

abbrev pub doc_rows : Command → Reply → List DocRow
doc_rows (AddDoc name body) (Added documents) = record { name = name; body = body } ∷ []
doc_rows command reply = []

abbrev pub row_of_head : List ℕ → ℕ → ℕ → Option Head → List SessionRow
row_of_head name documents limit None = []
row_of_head name documents limit (Some head) = record { name = name; kind = head.kind; text = head.text; documents = documents; limit = limit } ∷ []

abbrev pub session_rows : List Head → Command → Reply → List SessionRow
session_rows heads (OpenSession name grammar limit) (Opened documents shown) = row_of_head name documents limit (head_of grammar heads)
session_rows heads command reply = []

abbrev pub row_of_round : List Doc → List ℕ → ℕ → Option SessionState → List RoundRow
row_of_round docs name number None = []
row_of_round docs name number (Some s) = record { session = name; round = number; body = list_bytes (found_of (round_at docs s)) } ∷ []

abbrev pub round_rows : OneThread → Command → Reply → List RoundRow
round_rows o (Step name) (Stepped number added phase) = row_of_round o.docs name number (session_of name o.sessions)
round_rows o command reply = []

-- rows with the row of one reply more, which this object gave
abbrev pub keep_reply : List Head → OneThread → Rows → Command → Reply → Rows
keep_reply heads o rows command reply = record {
  docs = rows.docs ++ doc_rows command reply;
  sessions = rows.sessions ++ session_rows heads command reply;
  rounds = rows.rounds ++ round_rows o command reply;
}

abbrev pub keep : List Head → OneThread → Rows → Entry → Rows
keep heads o rows e = keep_reply heads o rows e.command e.reply

-- ## The rows of a history

abbrev pub round_rows_at : OneThread → List Head → List Entry × Entry → List RoundRow
round_rows_at start heads p = round_rows (state_after start heads p.0) p.1.command p.1.reply

-- the rows after a history that began with these
abbrev pub After : Rows → List Head → List Entry → Rows
After base heads es = record {
  docs = base.docs ++ flat_map (λ e. doc_rows e.command e.reply) es;
  sessions = base.sessions ++ flat_map (λ e. session_rows heads e.command e.reply) es;
  rounds = base.rounds ++ flat_map (round_rows_at (load base) heads) (points es);
}

-- ## Lists that are read back

-- what a round found is read back from its bytes
abbrev pub IsReadBack : RoundResult → Type 0
IsReadBack (Found new) = list_read (list_bytes new) ≡ Ok new
IsReadBack (Crowded rule document sentence count) = Unit {0}
IsReadBack (TooMany total) = Unit {0}

abbrev pub ReadsBackIn : List Doc → Option SessionState → Type 0
ReadsBackIn docs None = Unit {0}
ReadsBackIn docs (Some s) = IsReadBack (round_at docs s)

abbrev pub ReadsBack : OneThread → Command → Reply → Type 0
ReadsBack o (Step name) (Stepped number added phase) = ReadsBackIn o.docs (session_of name o.sessions)
ReadsBack o command reply = Unit {0}

-- what each round of a history found is read back from its bytes
abbrev pub RoundsReadBack : OneThread → List Head → List Entry → Type 0
RoundsReadBack start heads es = EachPoint (λ seen e. ReadsBack (state_after start heads seen) e.command e.reply) es
