-- What the one-thread object is after a reply. An effect reads the reply and makes no test; a refusal changes nothing.
use Rattle.std.specs.Prelude.{ℕ, List, [], ◌∷◌, ◌++◌, map, Option, Some, None, if◌then◌else◌, bytes_eq}
use Rattle.od_document.specs.declared.doc.Doc.{Doc}
use Rattle.od_pattern.specs.declared.grammar.Head.{Head}
use Rattle.od_extraction.specs.declared.mention.Mention.{Mention}
use Rattle.od_extraction.specs.declared.mention.RoundResult.{RoundResult}
use Rattle.od_extraction.specs.declared.mention.RoundResult.TheVariants.{Found, Crowded, TooMany}
use Rattle.od_command.specs.declared.history.Command.{Command}
use Rattle.od_command.specs.declared.history.Command.TheVariants.{AddDoc, OpenSession, Step, Resume, Release}
use Rattle.od_command.specs.declared.history.Reply.{Reply}
use Rattle.od_command.specs.declared.history.Reply.TheVariants.{Added, Opened, Stepped, Resumed, Released}
use Rattle.od_command.specs.declared.history.Entry.{Entry}
use Rattle.od_session.specs.declared.object.SessionState.{SessionState}
use Rattle.od_session.specs.declared.object.OneThread.{OneThread}
use Rattle.od_document.specs.Building.{document_of}
use Rattle.od_session.specs.Parts.{head_of, round_at}

-- the document, where the bytes are one
abbrev pub doc_made : Option Doc → List Doc
doc_made (Some doc) = doc ∷ []
doc_made None = []

-- each session of that name, changed
abbrev pub change_one : List ℕ → (SessionState → SessionState) → SessionState → SessionState
change_one name f s = if bytes_eq s.name name then f s else s

abbrev pub change : List ℕ → (SessionState → SessionState) → List SessionState → List SessionState
change name f sessions = map (λ s. change_one name f s) sessions

-- the mentions of a round that was not refused
abbrev pub found_of : RoundResult → List Mention
found_of (Found new) = new
found_of (Crowded rule document sentence count) = []
found_of (TooMany total) = []

-- the session with one round more
abbrev pub stepped : List Doc → SessionState → SessionState
stepped docs s = record s { rounds = s.rounds ++ found_of (round_at docs s) ∷ [] }

abbrev pub taken_by : ℕ → SessionState → SessionState
taken_by caller s = record s { holder = Some caller }

abbrev pub let_go : SessionState → SessionState
let_go s = record s { holder = None }

-- the session that an opening makes
abbrev pub opened : List ℕ → ℕ → ℕ → ℕ → Option Head → List SessionState
opened name documents limit caller None = []
opened name documents limit caller (Some head) = record { name = name; kind = head.kind; text = head.text; documents = documents; limit = limit; rounds = []; holder = Some caller } ∷ []

abbrev pub effect_of : List Head → OneThread → ℕ → Command → Reply → OneThread
effect_of heads o caller (AddDoc name body) (Added documents) = record o { docs = o.docs ++ doc_made (document_of name body) }
effect_of heads o caller (OpenSession name grammar limit) (Opened documents shown) = record o { sessions = o.sessions ++ opened name documents limit caller (head_of grammar heads) }
effect_of heads o caller (Step name) (Stepped round added phase) = record o { sessions = change name (stepped o.docs) o.sessions }
effect_of heads o caller (Resume name) (Resumed documents limit round mentions phase) = record o { sessions = change name (taken_by caller) o.sessions }
effect_of heads o caller (Release name) Released = record o { sessions = change name let_go o.sessions }
effect_of heads o caller command reply = o

abbrev pub effect : List Head → OneThread → Entry → OneThread
effect heads o e = effect_of heads o e.caller e.command e.reply
