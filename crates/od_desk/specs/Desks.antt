-- What a desk has, and what always holds of it.
use Rattle.std.specs.Prelude.{◌≡◌, ℕ, ◌≤◌, List, [], Option, Bool, true, false}
use Rattle.od_pattern.specs.declared.grammar.Head.{Head}
use Rattle.od_command.specs.declared.history.Entry.{Entry}
use Rattle.od_session.specs.declared.object.OneThread.{OneThread}
use Rattle.od_io.specs.Streams.Count.{Rose}
use Rattle.od_text.specs.Lists.{Each}
use Rattle.od_session.specs.Parts.{IsAccepted}
use Rattle.od_model.specs.Object.Sound.{IsSound}
use Rattle.od_model.specs.History.Legal.{state_after, Legal}
use Rattle.od_model.specs.Run.Outcome.{IsCutShort, IsWritten}

-- what a sink has taken, where it tells the bytes, and its count of faults
pub record Taken : Type 0 where
  pub bytes : Option (List ℕ)
  pub faults : ℕ

abbrev pub taken : Option (List ℕ) → ℕ → Taken
taken bytes faults = record { bytes = bytes; faults = faults }

-- how a desk began: the script's grammars, the object, and what the sink had taken
pub record Origin : Type 0 where
  pub heads : List Head
  pub start : OneThread
  pub sink : Taken

-- a desk: the object, the history that led to it, and what the sink has taken
pub record DeskState : Type 0 where
  pub origin : Origin
  pub object : OneThread
  pub history : List Entry
  pub sink : Taken
  -- a write failed, by which the lines of the last entry are cut short
  pub cut : Bool

-- a desk that begins
abbrev pub opened_desk : Origin → DeskState
opened_desk origin = record { origin = origin; object = origin.start; history = []; sink = origin.sink; cut = false }

-- the lines of the history were written, those of the last entry up to a cut where there is one
abbrev pub AreLines : Bool → Origin → List Entry → Option (List ℕ) → Type 0
AreLines false origin history now = IsWritten origin.start origin.heads history origin.sink.bytes now
AreLines true origin history now = IsCutShort origin.start origin.heads history origin.sink.bytes now

-- the history is legal, the object is the one that it leads to, and its lines were written
pub record IsDesk (d : DeskState) : Type 0 where
  pub accepted : Each IsAccepted d.origin.heads
  pub sound : IsSound d.origin.start
  pub legal : Legal d.origin.start d.origin.heads d.history
  pub object_is : d.object ≡ state_after d.origin.start d.origin.heads d.history
  pub lines : AreLines d.cut d.origin d.history d.sink.bytes
  pub later : d.origin.sink.faults ≤ d.sink.faults
  pub failed : d.cut ≡ true → Rose d.origin.sink.faults d.sink.faults
