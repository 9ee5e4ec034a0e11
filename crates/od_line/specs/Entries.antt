-- The line of an entry: one object.
use Rattle.std.specs.Prelude.{ℕ, List, [], ◌∷◌, ◌++◌, map, codes, Option, Some, None}
use Rattle.serde_json.specs.Data.{Data, array}
use Rattle.serde_json.specs.View.{items_of}
use Rattle.od_command.specs.declared.history.Command.{Command}
use Rattle.od_command.specs.declared.history.Command.TheVariants.{AddDoc, OpenSession, Step, Resume, Print, Release, Settle}
use Rattle.od_command.specs.declared.history.Reply.{Reply}
use Rattle.od_command.specs.declared.history.Reply.TheVariants.{Added, Opened, Stepped, Resumed, Printed, Released, Settled, Refused}
use Rattle.od_command.specs.declared.history.Refusal.{Refusal}
use Rattle.od_command.specs.declared.history.Refusal.TheVariants.{BadDoc, Duplicate, Full, NoGrammar, BadLimit, Taken, NoRoom, NoSession, Busy, NotHeld, Finished, AtLimit, Crowded, TooMany}
use Rattle.od_command.specs.declared.history.Entry.{Entry}
use Rattle.od_line.specs.Data.{count, word, object_of, line_of}
use Rattle.od_line.specs.Names.{command_text, state_text, kind_text, reply_text}

-- the document or session that a command names
abbrev pub name_of : Command → Option (List ℕ)
name_of (AddDoc name body) = Some name
name_of (OpenSession name grammar limit) = Some name
name_of (Step name) = Some name
name_of (Resume name) = Some name
name_of (Print name) = Some name
name_of (Release name) = Some name
name_of Settle = None

-- the member of a name, where there is one
abbrev pub name_members : Option (List ℕ) → List (List ℕ × Data)
name_members None = []
name_members (Some name) = (codes "name", word name) ∷ []

-- the members that every entry has
abbrev pub entry_members : Entry → List (List ℕ × Data)
entry_members e =
    (codes "caller", count e.caller) ∷ (codes "call", count e.call) ∷ (codes "command", word (command_text e.command)) ∷
    (codes "reply", word (reply_text e.reply)) ∷ name_members (name_of e.command)

-- the members of a refusal: its fields
abbrev pub refusal_members : Refusal → List (List ℕ × Data)
refusal_members (BadDoc line kind) = (codes "line", count line) ∷ (codes "kind", word (kind_text kind)) ∷ []
refusal_members Duplicate = []
refusal_members (Full documents bytes) = (codes "documents", count documents) ∷ (codes "bytes", count bytes) ∷ []
refusal_members NoGrammar = []
refusal_members (BadLimit limit) = (codes "limit", count limit) ∷ []
refusal_members Taken = []
refusal_members (NoRoom sessions) = (codes "count", count sessions) ∷ []
refusal_members NoSession = []
refusal_members (Busy owner) = (codes "owner", count owner) ∷ []
refusal_members NotHeld = []
refusal_members (Finished round) = (codes "round", count round) ∷ []
refusal_members (AtLimit round) = (codes "round", count round) ∷ []
refusal_members (Crowded rule document sentence found) =
    (codes "rule", count rule) ∷ (codes "document", count document) ∷ (codes "sentence", count sentence) ∷ (codes "count", count found) ∷ []
refusal_members (TooMany weight) = (codes "weight", count weight) ∷ []

-- the members that a reply adds: its fields
abbrev pub reply_members : Reply → List (List ℕ × Data)
reply_members (Added documents) = (codes "documents", count documents) ∷ []
reply_members (Opened documents limit) = (codes "documents", count documents) ∷ (codes "limit", count limit) ∷ []
reply_members (Stepped round added phase) =
    (codes "round", count round) ∷ (codes "added", count added) ∷ (codes "state", word (state_text phase)) ∷ []
reply_members (Resumed documents limit round mentions phase) =
    (codes "documents", count documents) ∷ (codes "limit", count limit) ∷ (codes "round", count round) ∷
    (codes "mentions", count mentions) ∷ (codes "state", word (state_text phase)) ∷ []
reply_members (Printed round mentions phase) =
    (codes "round", count round) ∷ (codes "mentions", count mentions) ∷ (codes "state", word (state_text phase)) ∷ []
reply_members Released = []
reply_members (Settled sizes) = (codes "sizes", array (items_of (map count sizes))) ∷ []
reply_members (Refused refusal) = refusal_members refusal

-- an entry's own line
unfoldable pub own_line : Entry → List ℕ
own_line e = line_of (object_of (entry_members e ++ reply_members e.reply))
