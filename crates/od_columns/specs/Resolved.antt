-- What was resolved, and over which table.
use Rattle.std.specs.Prelude.{List}
use Rattle.od_asked.specs.Asked.{Asked, at_tokens, at_edges}
use Rattle.od_index.specs.Terms.{Term}
use Rattle.od_columns.specs.declared.resolved.ResolvedThing.{ResolvedThing}
use Rattle.od_columns.specs.declared.resolved.ResolvedThing.TheVariants.{AtTokens, AtEdges}

-- what a rule asks, over a table
pub record AskingAll : Type 0 where
  pub asked : List Asked
  pub table : List Term

-- what one thing asks
abbrev pub asked_in : ResolvedThing → Asked
asked_in (AtTokens resolved) = at_tokens resolved.constraint
asked_in (AtEdges label) = at_edges label.value

-- over which table it was resolved
abbrev pub table_of : ResolvedThing → List Term
table_of (AtTokens resolved) = resolved.table
table_of (AtEdges label) = label.table
