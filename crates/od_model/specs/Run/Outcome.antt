-- What a run leaves: one legal history, its lines and its mentions. The start is the object that the history goes on from.
use Rattle.std.specs.Prelude.{◌≡◌, ◌⊎◌, ℕ, ◌<◌, List, [], ◌∷◌, ◌++◌, length, Option, Some, Ok, Err, Bool, true, false}
use Rattle.std.specs.Option.{IfSome}
use Rattle.std.specs.Io.KnownBytes.{Appends}
use Rattle.od_pattern.specs.declared.grammar.Head.{Head}
use Rattle.od_rule_text.specs.declared.grammar_fault.GrammarFault.{GrammarFault}
use Rattle.od_command.specs.declared.history.Entry.{Entry}
use Rattle.od_order.specs.declared.script.Script.{Script}
use Rattle.od_order.specs.declared.script_kind.ScriptKind.{ScriptKind}
use Rattle.od_session.specs.declared.object.OneThread.{OneThread}
use Rattle.od_model.specs.declared.status.Status.{Status}
use Rattle.od_model.specs.declared.status.Status.TheVariants.{Done, Refused, Usage, NoScript, BadGrammar, ReadFault, WriteFault, NoMemory}
use Rattle.od_session.specs.Grammars.{IsFirstRefused}
use Rattle.od_model.specs.History.Legal.{state_after}
use Rattle.od_model.specs.History.Lines.{entry_lines, Lines}
use Rattle.od_model.specs.History.Orders.{Follows}
use Rattle.od_order.specs.Scripts.{script_of}
use Rattle.od_model.specs.Run.Clients.{EachClient, IsHistoryOf, has_refusal}

-- what is outside a run: bytes, where they are told, and what was refused
pub record Outside : Type 0 where
  -- those that the source had left before the run
  pub left : Option (List ℕ)
  -- those that the sink had taken before the run
  pub before : Option (List ℕ)
  -- those that the sink has taken after it
  pub now : Option (List ℕ)
  -- the regular expressions that the maker refused in it
  pub refused : List (List ℕ)

-- ## The script

-- the bytes that a source had are this script, where it tells them
pub record IsScriptOf (left : Option (List ℕ)) (script : Script) : Type 0 where
  pub bytes : List ℕ
  pub reads : script_of bytes ≡ Ok script
  pub told : IfSome left (λ known. bytes ≡ known)

-- the bytes that a source had are no script, and this is their first fault, where it tells them
abbrev pub IsNoScript : Option (List ℕ) → ℕ → ScriptKind → Type 0
IsNoScript left line kind = IfSome left (λ known. script_of known ≡ Err (line, kind))

-- the bytes that a source had are a script, and the first of its heads whose grammar cannot be made, where a maker refused
-- these expressions, has this name and this fault
pub record HasBadGrammar (name : List ℕ) (fault : GrammarFault) (left : Option (List ℕ)) (refused : List (List ℕ)) : Type 0 where
  pub script : Script
  pub is : IsScriptOf left script
  pub head : Head
  pub first : IsFirstRefused refused script.heads head fault
  pub name_is : name ≡ head.name

-- ## The lines

-- the lines of the history were written
abbrev pub IsWritten : OneThread → List Head → List Entry → Option (List ℕ) → Option (List ℕ) → Type 0
IsWritten start heads history before now = Appends before now (Lines start heads history)

-- the lines of all entries but the last were written, and a proper prefix of the last one's
pub record IsCutShort (start : OneThread) (heads : List Head) (history : List Entry) (before now : Option (List ℕ)) : Type 0 where
  pub front : List Entry
  pub last : Entry
  pub history_is : history ≡ front ++ last ∷ []
  pub part : List ℕ
  pub rest : List ℕ
  pub lines_are : entry_lines (state_after start heads front) last ≡ part ++ rest
  pub proper : 0 < length rest
  pub written : Appends before now (Lines start heads front ++ part)

-- ## What each status says

-- the bytes of the source are a script; every client's commands were answered, and the lines written
pub record IsAnswered (refused : Bool) (start : OneThread) (history : List Entry) (outside : Outside) : Type 0 where
  pub script : Script
  pub is : IsScriptOf outside.left script
  pub history_of : IsHistoryOf start script history
  pub follows : EachClient Follows script.clients history
  pub written : IsWritten start script.heads history outside.before outside.now
  pub refusal : has_refusal history ≡ refused

-- they are a script; some commands were answered, and the lines of the last one are cut short
pub record IsCutOff (start : OneThread) (history : List Entry) (outside : Outside) : Type 0 where
  pub script : Script
  pub is : IsScriptOf outside.left script
  pub history_of : IsHistoryOf start script history
  pub cut : IsCutShort start script.heads history outside.before outside.now

-- they are a script; some commands were answered, and their lines written
pub record IsLeftOff (start : OneThread) (history : List Entry) (outside : Outside) : Type 0 where
  pub script : Script
  pub is : IsScriptOf outside.left script
  pub history_of : IsHistoryOf start script history
  pub written : IsWritten start script.heads history outside.before outside.now

-- nothing was answered and nothing written
pub record DidNothing (history : List Entry) (outside : Outside) : Type 0 where
  pub none : history ≡ []
  pub same : outside.now ≡ outside.before

-- what each status says of the history and of the bytes outside
abbrev pub Outcome : OneThread → Status → List Entry → Outside → Type 0
Outcome start Done history outside = IsAnswered false start history outside
Outcome start Refused history outside = IsAnswered true start history outside
Outcome start Usage history outside = DidNothing history outside
Outcome start (NoScript line kind) history outside = DidNothing history outside × IsNoScript outside.left line kind
Outcome start (BadGrammar name fault) history outside = DidNothing history outside × HasBadGrammar name fault outside.left outside.refused
Outcome start ReadFault history outside = DidNothing history outside
Outcome start WriteFault history outside = IsCutOff start history outside
Outcome start NoMemory history outside = DidNothing history outside ⊎ IsLeftOff start history outside
