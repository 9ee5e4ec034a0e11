-- The object that rows are, which nobody holds. It is asked of well-formed rows: of these each document row is a document,
-- and each round row a list of mentions.
use Rattle.std.specs.Prelude.{ℕ, List, [], map, filter, flat_map, Result, Ok, Err, None, Bool, bytes_eq}
use Rattle.od_document.specs.declared.doc.Doc.{Doc}
use Rattle.od_extraction.specs.declared.mention.Mention.{Mention}
use Rattle.od_stored.specs.declared.fault.CodecFault.{CodecFault}
use Rattle.od_row.specs.declared.rows.DocRow.{DocRow}
use Rattle.od_row.specs.declared.rows.SessionRow.{SessionRow}
use Rattle.od_row.specs.declared.rows.RoundRow.{RoundRow}
use Rattle.od_row.specs.declared.rows.Rows.{Rows}
use Rattle.od_session.specs.declared.object.SessionState.{SessionState}
use Rattle.od_session.specs.declared.object.OneThread.{OneThread}
use Rattle.od_document.specs.Building.{document_of}
use Rattle.od_stored.specs.ReadMentions.{list_read}
use Rattle.od_model.specs.Object.Effects.{doc_made, let_go}

-- the document of a row
abbrev pub doc_of : DocRow → List Doc
doc_of row = doc_made (document_of row.name row.body)

abbrev pub docs_of : List DocRow → List Doc
docs_of rows = flat_map doc_of rows

-- the mentions that were read
abbrev pub read_mentions : Result (List Mention) CodecFault → List Mention
read_mentions (Ok mentions) = mentions
read_mentions (Err fault) = []

-- the list of a round's row
abbrev pub list_of : RoundRow → List Mention
list_of row = read_mentions (list_read row.body)

-- the round is the session's
abbrev pub is_round_of : List ℕ → RoundRow → Bool
is_round_of name row = bytes_eq name row.session

-- the lists of the session of a name, from the rows of all sessions
abbrev pub lists_of : List ℕ → List RoundRow → List (List Mention)
lists_of name rows = map list_of (filter (is_round_of name) rows)

-- the session of a row
abbrev pub session_in : List RoundRow → SessionRow → SessionState
session_in rounds row = record { name = row.name; kind = row.kind; text = row.text; documents = row.documents; limit = row.limit; rounds = lists_of row.name rounds; holder = None }

-- the object
abbrev pub load : Rows → OneThread
load rows = record { docs = docs_of rows.docs; sessions = map (session_in rows.rounds) rows.sessions }

-- the object with all sessions let go
abbrev pub released : OneThread → OneThread
released o = record o { sessions = map let_go o.sessions }
