-- How far a caller has come, said of its own entries: those of other callers may stand between them.
use Rattle.std.specs.Prelude.{◌≡◌, ℕ, ◌+◌, ◌≤◌, List, [], ◌∷◌, ◌++◌}
use Rattle.od_command.specs.declared.history.Command.{Command}
use Rattle.od_command.specs.declared.history.Entry.{Entry}
use Rattle.od_order.specs.declared.script.Order.{Order}
use Rattle.od_session.specs.declared.object.OneThread.{OneThread}
use Rattle.od_session.specs.declared.object.TheConstants.{SESSION_ROUNDS}
use Rattle.od_text.specs.Lists.{Each}
use Rattle.od_session.specs.Parts.{round_count}
use Rattle.od_model.specs.History.Legal.{mine}
use Rattle.od_model.specs.History.Orders.{IsGoing}

-- the history with one entry more, of this caller and command
pub record OneMore (caller : ℕ) (command : Command) (old new : List Entry) (e : Entry) : Type 0 where
  pub new_is : new ≡ old ++ e ∷ []
  pub caller_is : e.caller ≡ caller
  pub command_is : e.command ≡ command

-- no entry more, or one of this caller and command
pub data AtMostOne (caller : ℕ) (command : Command) (old new : List Entry) : Type 0 where
  none : new ≡ old → AtMostOne caller command old new
  one : (e : Entry) → OneMore caller command old new e → AtMostOne caller command old new

-- one round more of the session, of at most as many as a session may have
pub record Climbs (name : List ℕ) (old new : OneThread) : Type 0 where
  pub more : round_count name new ≡ round_count name old + 1
  pub few : round_count name new ≤ SESSION_ROUNDS

-- the caller has further entries, of which P holds
pub record Further (P : List Entry → Type 0) (caller : ℕ) (old new : List Entry) : Type 0 where
  pub own : List Entry
  pub own_are : mine caller new ≡ mine caller old ++ own
  pub holds : P own

-- the caller's further entries unfold the orders so
abbrev pub Unfolded : (List Order → List Entry → Type 0) → ℕ → List Order → List Entry → List Entry → Type 0
Unfolded Unfolds caller orders old new = Further (Unfolds orders) caller old new

-- the caller's further entries are steps of the session, after each of which a run goes on
abbrev pub StepsOn : List ℕ → ℕ → List Entry → List Entry → Type 0
StepsOn name caller old new = Further (IsGoing name) caller old new

-- no other caller's entry came
pub record Alone (caller : ℕ) (old new : List Entry) : Type 0 where
  pub more : List Entry
  pub new_is : new ≡ old ++ more
  pub callers : Each (λ e. e.caller ≡ caller) more
