-- What rules ask and name, worked out.
use Rattle.std.proofs.Common.{◌≡◌, ℕ, List, [], ◌∷◌, refl}
use Rattle.std.specs.Prelude.{true, false, codes, Some, None}
use denote.Hole.Carrier.{hidden}
use Rattle.od_asked.proofs.FieldExamples.{bark}
use Rattle.od_asked.specs.Asked.{at_tokens, at_edges, asked_surface, asked_path, asked_rule}
use Rattle.od_asked.specs.Expressions.{expressions_in, expressions_of}
use Rattle.od_asked.specs.Holds.{holds}
use Rattle.od_asked.specs.Named.{named_surface, named_rule}
use Rattle.od_asked.specs.Tables.{columns_of}
use Rattle.od_pattern.specs.declared.path.Path as path
use Rattle.od_pattern.specs.declared.path.Path.{Path}
use Rattle.od_pattern.specs.declared.path.Path.TheBlock.{hidden-the_row-Path-0, hidden-the_row-Path-1}
use Rattle.od_pattern.specs.declared.pattern.Constraint as constraint
use Rattle.od_pattern.specs.declared.pattern.Constraint.{Constraint}
use Rattle.od_pattern.specs.declared.pattern.Constraint.TheBlock.{hidden-the_row-Constraint-0}
use Rattle.od_pattern.specs.declared.pattern.Field.TheVariants.{Norm, Tag}
use Rattle.od_pattern.specs.declared.pattern.Surface as surface
use Rattle.od_pattern.specs.declared.pattern.Surface.{Surface}
use Rattle.od_pattern.specs.declared.pattern.Surface.TheBlock.{hidden-the_row-Surface-0, hidden-the_row-Surface-1}
use Rattle.od_pattern.specs.declared.pattern.Value.{Value}
use Rattle.od_pattern.specs.declared.pattern.Value.TheVariants.{Plain, Regex}
use Rattle.od_pattern.specs.declared.rule.Body.{Body}
use Rattle.od_pattern.specs.declared.rule.Body.TheVariants.{Basic, Event}
use Rattle.od_pattern.specs.declared.rule.Many.TheVariants.{One, All}
use Rattle.od_pattern.specs.declared.rule.Rule.{Rule}

abbrev tag : Value → Constraint
tag value = constraint.Is Tag value

abbrev like : List ℕ → Value
like text = Regex text

-- a rule with this body
abbrev rule_of : Body → Rule
rule_of body = record { name = codes "r"; label = codes "R"; priority = record { first = 1; last = None }; body = body }

-- `[tag=/a/ & !tag=/b/]`
abbrev first_token : Constraint
first_token = constraint.And (tag (like (codes "a"))) (constraint.Not (tag (like (codes "b"))))

-- `[tag=/a/ & !tag=/b/]{3} @L (?=[tag=c]) >/d/ >> [tag=e] ((?<x>@M) | [tag=/a/])`
abbrev long_hop : Rule
long_hop = rule_of (Basic (record {
  first = surface.Seq (
      surface.Repeat (surface.Token first_token) (record { least = 3; most = Some 3; lazy = false }) ∷
      surface.Label (codes "L") ∷ surface.Look true true (tag (Plain (codes "c"))) ∷ []);
  rest =
      record {
        path = path.Seq (path.Along (Some (like (codes "d"))) ∷ path.Along None ∷ path.Filter (tag (Plain (codes "e"))) ∷ []);
        surface = surface.Alt (surface.Capture (codes "x") (surface.Label (codes "M")) ∷ surface.Token (tag (like (codes "a"))) ∷ []);
      } ∷ [];
}))

-- constraints and labels' values in the order of the text: a repeat asks once, and a step over any edge nothing
asked_by_hop : asked_rule long_hop
    ≡ at_tokens first_token ∷ at_tokens (tag (Plain (codes "c"))) ∷ at_edges (like (codes "d")) ∷ at_tokens (tag (Plain (codes "e"))) ∷ at_tokens (tag (like (codes "a"))) ∷ []
unfolding asked_surface asked_path hidden hidden-the_row-Surface-0 hidden-the_row-Surface-1 hidden-the_row-Path-0 hidden-the_row-Path-1
asked_by_hop = refl

-- expressions too, with repeats
expressions_of_hop : expressions_of (asked_rule long_hop) ≡ codes "a" ∷ codes "b" ∷ codes "d" ∷ codes "a" ∷ []
unfolding asked_surface asked_path expressions_in hidden hidden-the_row-Surface-0 hidden-the_row-Surface-1 hidden-the_row-Path-0 hidden-the_row-Path-1 hidden-the_row-Constraint-0
expressions_of_hop = refl

-- and labels
named_by_hop : named_rule long_hop ≡ codes "L" ∷ codes "M" ∷ []
unfolding named_surface hidden hidden-the_row-Surface-0 hidden-the_row-Surface-1
named_by_hop = refl

-- `trigger = [tag=a]`, `who:P = >b | <b`, `when* = [tag=c]?`
abbrev with_arguments : Rule
with_arguments = rule_of (Event (record {
  trigger = surface.Token (tag (Plain (codes "a")));
  arguments =
      record {
        name = codes "who";
        label = Some (codes "P");
        many = One;
        path = path.Alt (path.Along (Some (Plain (codes "b"))) ∷ path.Against (Some (Plain (codes "b"))) ∷ []);
      } ∷
      record { name = codes "when"; label = None; many = All; path = path.Repeat (path.Filter (tag (Plain (codes "c")))) 0 (Some 1) } ∷ [];
}))

-- the trigger first, then the paths; a value that stands twice is asked twice
asked_by_event : asked_rule with_arguments
    ≡ at_tokens (tag (Plain (codes "a"))) ∷ at_edges (Plain (codes "b")) ∷ at_edges (Plain (codes "b")) ∷ at_tokens (tag (Plain (codes "c"))) ∷ []
unfolding asked_surface asked_path hidden hidden-the_row-Path-0 hidden-the_row-Path-1
asked_by_event = refl

named_by_event : named_rule with_arguments ≡ codes "P" ∷ []
unfolding named_surface
named_by_event = refl

-- a table has a truth for each token in the row of a constraint, and one for each edge in the row of a value
two_rows : columns_of bark (at_tokens (constraint.Is Norm (Plain (codes "bark"))) ∷ at_edges (Plain (codes "nsubj")) ∷ [])
    ≡ (false ∷ true ∷ false ∷ []) ∷ (true ∷ true ∷ false ∷ []) ∷ []
unfolding holds
two_rows = refl
