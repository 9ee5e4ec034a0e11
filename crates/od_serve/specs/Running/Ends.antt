-- What is said of a call of the program when it ends.
use Rattle.std.specs.Prelude.{◌≡◌, ℕ, List, [], Option, Bool, true, false, Result, Ok, Err, if◌then◌else◌}
use Rattle.od_command.specs.declared.history.Entry.{Entry}
use Rattle.od_model.specs.declared.status.Status.{Status}
use Rattle.od_model.specs.declared.status.Status.TheVariants.{Done, Refused, Usage, NoScript, BadGrammar, ReadFault, WriteFault, NoMemory}
use Rattle.od_io.specs.declared.streams.Failed.{Failed}
use Rattle.od_io.specs.Streams.Count.{Rose}
use Rattle.od_io.specs.Streams.Writing.{AppendsUpToFault}
use Rattle.od_session.specs.Parts.{nothing}
use Rattle.od_model.specs.Run.Ends.{CanEndSo, RefusedBy}
use Rattle.od_model.specs.Run.Outcome.{Outcome, Outside, IsNoScript, HasBadGrammar}
use Rattle.od_model.specs.Run.Words.{diagnostic}

-- what the status of a run says, which begins with no document and no session
abbrev pub RunOutcome : Status → List Entry → Outside → Type 0
RunOutcome status history outside = Outcome nothing status history outside

-- why a run never began, for the bytes that the source had and the expressions that the maker refused
abbrev pub NeverBegan : Option (List ℕ) → List (List ℕ) → Status → Type 0
NeverBegan left refused Done = ⊥
NeverBegan left refused Refused = ⊥
NeverBegan left refused Usage = ⊥
NeverBegan left refused (NoScript line kind) = IsNoScript left line kind
NeverBegan left refused (BadGrammar name fault) = HasBadGrammar name fault left refused
NeverBegan left refused ReadFault = Unit {0}
NeverBegan left refused WriteFault = ⊥
NeverBegan left refused NoMemory = Unit {0}

-- the status of a run whose clients were followed to their end, or not, or whose sink failed
abbrev pub run_status : Result Bool Failed → Bool → Status
run_status (Ok true) refused = if refused then Refused else Done
run_status (Ok false) refused = NoMemory
run_status (Err failed) refused = WriteFault

-- a status of a run that began
abbrev pub Ran : Status → Type 0
Ran status = (followed : Result Bool Failed) × (refused : Bool) × (status ≡ run_status followed refused)

-- what is outside a call, before and after it. Bytes are known where they are told
pub record Around : Type 0 where
  -- the program's words are those of `serve`
  pub served : Bool
  -- the source: the bytes that it had left, and its counts of faults
  pub left : Option (List ℕ)
  pub read_faults : ℕ
  pub read_faults_now : ℕ
  -- the sink: the bytes that it had taken and has taken, and its counts of faults
  pub before : Option (List ℕ)
  pub now : Option (List ℕ)
  pub write_faults : ℕ
  pub write_faults_now : ℕ
  -- the diagnostic sink likewise
  pub line_before : Option (List ℕ)
  pub line_now : Option (List ℕ)
  pub line_faults : ℕ
  pub line_faults_now : ℕ
  -- the regular expressions that the maker refused
  pub refused : List (List ℕ)

abbrev pub outside_of : Around → Outside
outside_of around = record { left = around.left; before = around.before; now = around.now; refused = around.refused }

-- all that is said of the status of a call
pub record Ends (status : Status) (history : List Entry) (around : Around) : Type 0 where
  -- what the history and the sink are then
  pub outcome : RunOutcome status history (outside_of around)
  -- its line was written, or a proper prefix of it where a write failed
  pub line : AppendsUpToFault around.line_faults around.line_faults_now around.line_before around.line_now (diagnostic status)
  -- with the word `serve`, and where no read and no write failed, it may end so
  pub complete : around.served ≡ true → (Rose around.read_faults around.read_faults_now → ⊥)
      → (Rose around.write_faults around.write_faults_now → ⊥) → CanEndSo around.left around.refused status
  -- the maker refused nothing, but for an expression that the status tells
  pub made : RefusedBy status around.refused
