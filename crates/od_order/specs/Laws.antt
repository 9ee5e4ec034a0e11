-- What holds of every script.
use Rattle.std.specs.Prelude.{◌≡◌, ℕ, ◌≤◌, List, length, false, Ok}
use Rattle.od_pattern.specs.declared.grammar.Head.{Head}
use Rattle.od_order.specs.declared.script.Script.{Script}
use Rattle.od_order.specs.declared.script.TheConstants.{HEADS, CLIENTS, ORDERS}
use Rattle.od_text.specs.Lists.{EachPoint}
use Rattle.od_order.specs.Scripts.{has_head, order_count, script_of}

-- heads, clients and orders are no more than they may be, and no two heads have one name
pub record IsFew (script : Script) : Type 0 where
  pub heads : length script.heads ≤ HEADS
  pub clients : length script.clients ≤ CLIENTS
  pub orders : order_count script.clients ≤ ORDERS
  pub distinct : EachPoint (λ (seen : List Head) head. has_head head.name seen ≡ false) script.heads

-- every script that is read is so
abbrev pub ScriptsAreFew : Type 0
ScriptsAreFew = (bytes : List ℕ) (script : Script) → script_of bytes ≡ Ok script → IsFew script
