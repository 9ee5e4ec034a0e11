-- The regular expressions in a need, in its order.
use Rattle.std.specs.Prelude.{ℕ, List, [], ◌∷◌, ◌++◌}
use Rattle.od_asked.specs.Expressions.{expression_of}
use Rattle.od_need.specs.declared.need.Need.{Need, Row_of-Need, end_of-Need, more_of-Need}
use Rattle.od_need.specs.declared.need.Need.TheVariants.{True, And', Or', Term, Regex, Edge, Label}

unfoldable mutual
  -- of a need
  pub expressions_needed : Need → List (List ℕ)
  expressions_needed True = []
  expressions_needed (And' v row) = expressions_of_needs row
  expressions_needed (Or' v row) = expressions_of_needs row
  expressions_needed (Term field text) = []
  expressions_needed (Regex field expression) = expression ∷ []
  expressions_needed (Edge value) = expression_of value
  expressions_needed (Label name) = []

  -- of each of the needs
  pub expressions_of_needs : {m : _} → Row_of-Need m → List (List ℕ)
  expressions_of_needs end_of-Need = []
  expressions_of_needs (more_of-Need n rest) = expressions_needed n ++ expressions_of_needs rest
