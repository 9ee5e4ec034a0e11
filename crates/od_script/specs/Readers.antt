-- What the reader of a script keeps, and what one line leaves.
use Rattle.std.specs.Prelude.{◌≡◌, ℕ, ◌+◌, ◌≤◌, List, length, map, drop, Result, Ok, Err}
use Rattle.std.specs.Borrow.{Bor}
use Rattle.od_pattern.specs.declared.grammar.Head.{Head}
use Rattle.od_order.specs.declared.script.Order.{Order}
use Rattle.od_order.specs.declared.script.Script.{Script}
use Rattle.od_order.specs.declared.script.TheConstants.{ORDERS}
use Rattle.od_order.specs.Lines.{whole_lines}
use Rattle.od_order.specs.Scripts.{ScriptLine, Reading, order_count}
use Rattle.od_script.specs.declared.script.ScriptFault.{ScriptFault}
use Rattle.od_script.specs.Faults.{IsFaultOf}

-- the names are those of the heads, and the orders are counted
pub record IsCounted (heads : List Head) (names : List (List ℕ)) (clients : List (List Order)) (orders : ℕ) : Type 0 where
  pub names_are : names ≡ map (λ (head : Head). head.name) heads
  pub orders_are : orders ≡ order_count clients
  pub few : orders ≤ ORDERS

-- a line of this number, and the bytes behind it
abbrev pub line_at : ℕ → List ℕ → List ℕ → ScriptLine
line_at number line behind = record { number = number; line = line; behind = whole_lines behind }

-- a statement has a block of so many lines behind it, where this is the rest
pub record IsPassed (behind : List ℕ) (count : ℕ) (p : ℕ × Bor (List ℕ)) : Type 0 where
  pub count_is : p.0 ≡ count
  pub lines : whole_lines p.1.now ≡ drop count (whole_lines behind)
  pub within : count ≤ length (whole_lines behind)
  pub few : count + length p.1.now ≤ length behind

-- what was read is the new script, and its block was passed; or this is the fault
abbrev pub Takes : Reading → Script → List ℕ → ℕ → Result (ℕ × Bor (List ℕ)) ScriptFault → Type 0
Takes reading new behind count (Ok p) = (reading ≡ Ok new) × IsPassed behind count p
Takes reading new behind count (Err fault) = IsFaultOf reading fault

-- the same where no more is left behind
abbrev pub TakesAlone : Reading → Script → Result (Unit {0}) ScriptFault → Type 0
TakesAlone reading new (Ok done) = reading ≡ Ok new
TakesAlone reading new (Err fault) = IsFaultOf reading fault
