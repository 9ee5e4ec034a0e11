-- What is asked, behind references.
use Rattle.std.specs.Prelude.{List, map}
use Rattle.od_asked.specs.Asked.{Asked, at_tokens, at_edges}
use Rattle.od_columns.specs.declared.asks.Asking.{Asking}
use Rattle.od_columns.specs.declared.asks.Asking.TheVariants.{AtTokens, AtEdges}

-- what is asked by one
abbrev pub lent : Asking → Asked
lent (AtTokens constraint) = at_tokens constraint.now
lent (AtEdges value) = at_edges value.now

-- what is asked by all of them
abbrev pub all_lent : List Asking → List Asked
all_lent asking = map lent asking
