-- What was resolved, and over which table.
use Rattle.std.specs.Prelude.{List}
use Rattle.od_index.specs.Terms.{Term}
use Rattle.od_pattern.specs.declared.pattern.Constraint.{Constraint}
use Rattle.od_pattern.specs.declared.pattern.Value.{Value}

-- a constraint, over a table
pub record Asking : Type 0 where
  pub constraint : Constraint
  pub table : List Term

-- the value of a label, over a table
pub record AskingLabel : Type 0 where
  pub value : Value
  pub table : List Term
