-- The regular expressions of what is asked, in the order of the text.
use Rattle.std.specs.Prelude.{ℕ, List, [], ◌∷◌, ◌++◌}
use Rattle.std.specs.List.{flat_map}
use Rattle.od_asked.specs.Asked.{Asked, at_tokens, at_edges}
use Rattle.od_pattern.specs.declared.pattern.Constraint.{Constraint, Any, Is, Not', And', Or', end_of-Constraint, more_of-Constraint}
use Rattle.od_pattern.specs.declared.pattern.Value.{Value}
use Rattle.od_pattern.specs.declared.pattern.Value.TheVariants.{Plain, Regex}

-- the regular expression of a value, where it is one
abbrev pub expression_of : Value → List (List ℕ)
expression_of (Plain text) = []
expression_of (Regex expression) = expression ∷ []

-- those of a constraint
unfoldable pub expressions_in : Constraint → List (List ℕ)
expressions_in Any = []
expressions_in (Is field value) = expression_of value
expressions_in (Not' v (more_of-Constraint c end_of-Constraint)) = expressions_in c
expressions_in (And' v (more_of-Constraint c end_of-Constraint) w (more_of-Constraint d end_of-Constraint)) =
    expressions_in c ++ expressions_in d
expressions_in (Or' v (more_of-Constraint c end_of-Constraint) w (more_of-Constraint d end_of-Constraint)) =
    expressions_in c ++ expressions_in d

-- those of one thing asked
abbrev pub expressions_at : Asked → List (List ℕ)
expressions_at (at_tokens c) = expressions_in c
expressions_at (at_edges value) = expression_of value

-- those of all that is asked, with repeats
abbrev pub expressions_of : List Asked → List (List ℕ)
expressions_of asked = flat_map expressions_at asked
