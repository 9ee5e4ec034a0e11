-- The clients of a script and their entries.
use Rattle.std.specs.Prelude.{◌≡◌, ℕ, ◌+◌, ◌≤◌, List, length, slice_get, Some, Bool, true, false}
use Rattle.std.specs.List.{list_any}
use Rattle.od_command.specs.declared.history.Reply.{Reply}
use Rattle.od_command.specs.declared.history.Reply.TheVariants.{Refused}
use Rattle.od_command.specs.declared.history.Entry.{Entry}
use Rattle.od_order.specs.declared.script.Order.{Order}
use Rattle.od_order.specs.declared.script.Script.{Script}
use Rattle.od_session.specs.declared.object.OneThread.{OneThread}
use Rattle.od_text.specs.Lists.{Each}
use Rattle.od_session.specs.Grammars.{AreRead}
use Rattle.od_model.specs.Object.Sound.{IsSound}
use Rattle.od_model.specs.History.Legal.{Legal, mine}
use Rattle.od_model.specs.History.Orders.{Begins}
use Rattle.od_model.specs.History.Prints.{PrintsRounds}

-- each client's entries unfold its orders so; the first client is caller 1
abbrev pub EachClient : (List Order → List Entry → Type 0) → List (List Order) → List Entry → Type 0
EachClient Unfolds clients history =
    (k : ℕ) (orders : List Order) → slice_get clients k ≡ Some orders → Unfolds orders (mine (k + 1) history)

-- every entry is a client's
abbrev pub OfClients : List (List Order) → List Entry → Type 0
OfClients clients history = Each (λ e. (1 ≤ e.caller) × (e.caller ≤ length clients)) history

-- one legal history of the script, whose texts are grammars with room for their expressions: a beginning of each client's orders, once and in order,
-- whose prints show the rounds where the start is sound
pub record IsHistoryOf (start : OneThread) (script : Script) (history : List Entry) : Type 0 where
  pub read : AreRead script.heads
  pub legal : Legal start script.heads history
  pub callers : OfClients script.clients history
  pub begins : EachClient Begins script.clients history
  pub prints : IsSound start → PrintsRounds start script.heads history

abbrev pub is_refusal : Reply → Bool
is_refusal (Refused refusal) = true
is_refusal reply = false

-- some reply is a refusal
abbrev pub has_refusal : List Entry → Bool
has_refusal history = list_any (λ e. is_refusal e.reply) history
