-- The names of commands, replies, states and faults in output lines.
use Rattle.std.specs.Prelude.{ℕ, List, codes}
use Rattle.od_document.specs.declared.conllu.ConlluKind.{ConlluKind}
use Rattle.od_document.specs.declared.conllu.ConlluKind.TheVariants.{TooLong, NotUtf8, Columns, BadId, IdOrder, TooManyTokens, EmptyForm, BadHead, HeadRange, Empty}
use Rattle.od_extraction.specs.declared.phase.Phase.{Phase}
use Rattle.od_extraction.specs.declared.phase.Phase.TheVariants as stage
use Rattle.od_command.specs.declared.history.Command.{Command}
use Rattle.od_command.specs.declared.history.Command.TheVariants.{AddDoc, OpenSession, Step, Resume, Print, Release, Settle}
use Rattle.od_command.specs.declared.history.Reply.{Reply}
use Rattle.od_command.specs.declared.history.Reply.TheVariants.{Refused}
use Rattle.od_command.specs.declared.history.Refusal.{Refusal}
use Rattle.od_command.specs.declared.history.Refusal.TheVariants.{BadDoc, Duplicate, Full, NoGrammar, BadLimit, Taken, NoRoom, NoSession, Busy, NotHeld, Finished, AtLimit, Crowded, TooMany}

-- the name of a command
abbrev pub command_text : Command → List ℕ
command_text (AddDoc name body) = codes "doc"
command_text (OpenSession name grammar limit) = codes "open"
command_text (Step name) = codes "step"
command_text (Resume name) = codes "resume"
command_text (Print name) = codes "print"
command_text (Release name) = codes "release"
command_text Settle = codes "settle"

-- the state of a session
abbrev pub state_text : Phase → List ℕ
state_text stage.Going = codes "going"
state_text stage.Finished = codes "finished"
state_text stage.AtLimit = codes "limit"

-- the name of a document's fault
abbrev pub kind_text : ConlluKind → List ℕ
kind_text TooLong = codes "TooLong"
kind_text NotUtf8 = codes "NotUtf8"
kind_text Columns = codes "Columns"
kind_text BadId = codes "BadId"
kind_text IdOrder = codes "IdOrder"
kind_text TooManyTokens = codes "TooManyTokens"
kind_text EmptyForm = codes "EmptyForm"
kind_text BadHead = codes "BadHead"
kind_text HeadRange = codes "HeadRange"
kind_text Empty = codes "Empty"

-- the name of a refusal
abbrev pub refusal_text : Refusal → List ℕ
refusal_text (BadDoc line kind) = codes "BadDoc"
refusal_text Duplicate = codes "Duplicate"
refusal_text (Full documents bytes) = codes "Full"
refusal_text NoGrammar = codes "NoGrammar"
refusal_text (BadLimit limit) = codes "BadLimit"
refusal_text Taken = codes "Taken"
refusal_text (NoRoom count) = codes "NoRoom"
refusal_text NoSession = codes "NoSession"
refusal_text (Busy owner) = codes "Busy"
refusal_text NotHeld = codes "NotHeld"
refusal_text (Finished round) = codes "Finished"
refusal_text (AtLimit round) = codes "AtLimit"
refusal_text (Crowded rule document sentence count) = codes "Crowded"
refusal_text (TooMany weight) = codes "TooMany"

-- the name of a reply: ok, or the refusal's
abbrev pub reply_text : Reply → List ℕ
reply_text (Refused refusal) = refusal_text refusal
reply_text reply = codes "ok"
