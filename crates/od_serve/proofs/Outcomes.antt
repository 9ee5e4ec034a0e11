-- How a run ends.
use Rattle.std.proofs.Common.{◌≡◌, ◌⊎◌, ℕ, ◌<◌, List, [], length, Option, Some, None, Result, Ok, Err, Bool, true, false, if◌then◌else◌, refl, sym, ap, subst, inl, inr, lt-ltb}
use Rattle.std.specs.Prelude.{is_err, IfOk, IsTrue}
use Rattle.std.specs.Option.{IfSome}
use Rattle.od_command.specs.declared.history.Entry.{Entry}
use Rattle.od_order.specs.declared.script.Script.{Script}
use Rattle.od_order.specs.declared.script.TheConstants.{SCRIPT_BYTES}
use Rattle.od_order.specs.declared.script_kind.ScriptKind.{ScriptKind}
use Rattle.od_order.specs.declared.script_kind.ScriptKind.TheVariants.{TooLong}
use Rattle.od_io.specs.declared.streams.Failed.{Failed}
use Rattle.od_model.specs.declared.status.Status.{Status}
use Rattle.od_model.specs.declared.status.Status.TheVariants.{NoScript, BadGrammar, ReadFault, NoMemory}
use Rattle.od_session.specs.Grammars.{AreRead}
use Rattle.od_session.specs.Parts.{nothing}
use Rattle.od_model.specs.History.Orders.{Follows, Begins}
use Rattle.od_model.specs.Run.Clients.{EachClient, OfClients, IsHistoryOf, has_refusal}
use Rattle.od_model.specs.Run.Ends.{CanEndSo, RefusedBy}
use Rattle.od_model.specs.Run.Outcome.{Outcome, Outside, DidNothing, IsNoScript, IsScriptOf, IsWritten, IsCutShort}
use Rattle.od_model.proofs.Histories.Prints.{prints-rounds}
use Rattle.od_order.specs.Scripts.{nothing_said, script_lines, script_after, script_of}
use Rattle.od_order.specs.Lines.{whole_lines}
use Rattle.od_desk.specs.Desks.{Taken, Origin, DeskState, AreLines, IsDesk}
use Rattle.od_serve.specs.Running.Ends.{RunOutcome, NeverBegan, Ran, run_status}

-- the history of a desk that began with a script's grammars, and its clients' entries
pub history-of : (script : Script) (d : DeskState) → d.origin.heads ≡ script.heads → AreRead script.heads → IsDesk d → OfClients script.clients d.history → EachClient Begins script.clients d.history → IsHistoryOf d.origin.start script d.history
history-of script d heads read desk callers begins = rw (← heads) (record {
  read = subst AreRead (sym heads) read;
  legal = desk.legal;
  callers = callers;
  begins = begins;
  prints = λ sound. prints-rounds d.origin.start d.origin.heads d.history sound desk.accepted desk.legal;
})

module _ (script : Script) (d : DeskState) (left : Option (List ℕ)) (is : IsScriptOf left script) (heads : d.origin.heads ≡ script.heads) (read : AreRead script.heads) (refused : List (List ℕ))
    (desk : IsDesk d) (callers : OfClients script.clients d.history) (begins : EachClient Begins script.clients d.history) where
  abbrev Ended : Status → Type 0
  Ended status = Outcome d.origin.start status d.history (record { left = left; before = d.origin.sink.bytes; now = d.sink.bytes; refused = refused })

  lines-at : (cut : Bool) → d.cut ≡ cut → AreLines cut d.origin d.history d.sink.bytes
  lines-at cut e = subst (λ b. AreLines b d.origin d.history d.sink.bytes) e desk.lines

  written : d.cut ≡ false → IsWritten d.origin.start script.heads d.history d.origin.sink.bytes d.sink.bytes
  written e = subst (λ hs. IsWritten d.origin.start hs d.history d.origin.sink.bytes d.sink.bytes) heads (lines-at false e)

  -- every command was answered
  answered : EachClient Follows script.clients d.history → d.cut ≡ false → (some : Bool) → has_refusal d.history ≡ some → Ended (run_status (Ok true) some)
  answered follows whole true some = record { script = script; is = is; history_of = history-of script d heads read desk callers begins; follows = follows; written = written whole; refusal = some }
  answered follows whole false some = record { script = script; is = is; history_of = history-of script d heads read desk callers begins; follows = follows; written = written whole; refusal = some }

  -- how a run ended, by its clients
  pub ended : (followed : Result Bool Failed) → IfOk followed (λ whole. IsTrue whole → EachClient Follows script.clients d.history) → d.cut ≡ is_err followed → Ended (run_status followed (has_refusal d.history))
  ended (Ok true) follows cut = answered (follows refl) cut (has_refusal d.history) refl
  ended (Ok false) follows cut = inr (record { script = script; is = is; history_of = history-of script d heads read desk callers begins; written = written cut })
  ended (Err failed) follows cut = record {
    script = script;
    is = is;
    history_of = history-of script d heads read desk callers begins;
    cut = subst (λ hs. IsCutShort d.origin.start hs d.history d.origin.sink.bytes d.sink.bytes) heads (lines-at true cut);
  }

-- a run that never began says nothing but why
pub unrun : (status : Status) (left now : Option (List ℕ)) (refused : List (List ℕ)) → NeverBegan left refused status → RunOutcome status [] (record { left = left; before = now; now = now; refused = refused })
unrun (NoScript line kind) left now refused h = (record { none = refl; same = refl }, h)
unrun (BadGrammar name fault) left now refused h = (record { none = refl; same = refl }, h)
unrun ReadFault left now refused h = record { none = refl; same = refl }
unrun NoMemory left now refused h = inl (record { none = refl; same = refl })
unrun status left now refused h = absurd h

-- a run that began tells no refused expression
run-refused : (followed : Result Bool Failed) (some : Bool) (refused : List (List ℕ)) → refused ≡ [] → RefusedBy (run_status followed some) refused
run-refused (Ok true) true refused none = none
run-refused (Ok true) false refused none = none
run-refused (Ok false) some refused none = none
run-refused (Err failed) some refused none = none

pub ran-refused : (status : Status) (refused : List (List ℕ)) → Ran status → refused ≡ [] → RefusedBy status refused
ran-refused status refused (followed, some, is) none = subst (λ s. RefusedBy s refused) (sym is) (run-refused followed some refused none)

-- too many bytes are no script
long-no-script : (bytes : List ℕ) → SCRIPT_BYTES < length bytes → script_of bytes ≡ Err (0, TooLong)
unfolding script_of
long-no-script bytes h = ap (λ b. if b then Err (0, TooLong) else script_after nothing_said (script_lines 1 0 (whole_lines bytes))) (lt-ltb SCRIPT_BYTES (length bytes) h)

pub long-is-no-script : (left : Option (List ℕ)) → IfSome left (λ known. SCRIPT_BYTES < length known) → IsNoScript left 0 TooLong
long-is-no-script None h = tt
long-is-no-script (Some known) h = long-no-script known h

-- the first fault of the bytes that were read
pub first-fault : (left : Option (List ℕ)) (bytes : List ℕ) (line : ℕ) (kind : ScriptKind) → script_of bytes ≡ Err (line, kind) → IfSome left (λ known. bytes ≡ known) → IsNoScript left line kind
first-fault None bytes line kind is told = tt
first-fault (Some known) bytes line kind is told = subst (λ b. script_of b ≡ Err (line, kind)) told is

-- what follows for each value follows for the one of a result
pub ok-weaker : {X E : Type 0} (result : Result X E) (P Q : X → Type 0) → ((x : X) → P x → Q x) → IfOk result P → IfOk result Q
ok-weaker (Ok x) P Q f h = f x h
ok-weaker (Err e) P Q f h = tt
