-- Paths over any edge, over an edge from a token to itself, and over labels that an expression tells, worked out.
use Rattle.std.proofs.Common.{◌≡◌, ℕ, List, [], ◌∷◌, map, refl}
use Rattle.std.specs.Prelude.{Bool, true, false, ◌==◌, codes, Some, None}
use denote.Hole.Carrier.{hidden}
use Rattle.od_asked.proofs.FieldExamples.{bark}
use Rattle.od_asked.proofs.TextExamples.{computing}
use Rattle.od_asked.specs.Holds.{holds}
use Rattle.od_matching.specs.Matching.Reach.{reached}
use Rattle.od_pattern.specs.declared.path.Path as path
use Rattle.od_pattern.specs.declared.path.Path.{Path}
use Rattle.od_pattern.specs.declared.path.Path.TheBlock.{hidden-the_row-Path-0, hidden-the_row-Path-1}
use Rattle.od_pattern.specs.declared.pattern.Constraint as constraint
use Rattle.od_pattern.specs.declared.pattern.Field.TheVariants.{Norm}
use Rattle.od_pattern.specs.declared.pattern.Value.TheVariants.{Plain, Regex}

-- `Dogs bark loud`: the first token depends on the other two as nsubj, and the second one on itself as self;
-- to which of its tokens, and behind them, a path leads from one of them
abbrev leads : Path → ℕ → List Bool
leads p a = map (λ b. reached bark p (λ k. k == a) b) (0 ∷ 1 ∷ 2 ∷ 3 ∷ [])

-- `>>` leads to each dependent, and `<<` to each governor
along_any : leads (path.Along None) 1 ≡ true ∷ true ∷ false ∷ false ∷ []
unfolding reached
along_any = refl

along_from_a_leaf : leads (path.Along None) 0 ≡ false ∷ false ∷ false ∷ false ∷ []
unfolding reached
along_from_a_leaf = refl

against_any : leads (path.Against None) 0 ≡ false ∷ true ∷ true ∷ false ∷ []
unfolding reached
against_any = refl

-- `>self` and `<self` stay at the token
along_self : leads (path.Along (Some (Plain (codes "self")))) 1 ≡ false ∷ true ∷ false ∷ false ∷ []
unfolding reached
along_self = refl

against_self : leads (path.Against (Some (Plain (codes "self")))) 1 ≡ false ∷ true ∷ false ∷ false ∷ []
unfolding reached
against_self = refl

-- `>self{3} >nsubj`
around_and_on : leads (path.Seq (path.Repeat (path.Along (Some (Plain (codes "self")))) 3 (Some 3) ∷ path.Along (Some (Plain (codes "nsubj"))) ∷ [])) 1
    ≡ true ∷ false ∷ false ∷ false ∷ []
unfolding reached hidden hidden-the_row-Path-0 hidden-the_row-Path-1
around_and_on = refl

-- `>/n?subj/`, `>/self|obj/`, `</s/`: an expression fits whole labels
along_expression : leads (path.Along (Some (Regex (codes "n?subj")))) 2 ≡ true ∷ false ∷ false ∷ false ∷ []
unfolding computing reached
along_expression = refl

along_alternatives : leads (path.Along (Some (Regex (codes "self|obj")))) 1 ≡ false ∷ true ∷ false ∷ false ∷ []
unfolding computing reached
along_alternatives = refl

against_part_of_a_label : leads (path.Against (Some (Regex (codes "subj")))) 0 ≡ false ∷ false ∷ false ∷ false ∷ []
unfolding computing reached
against_part_of_a_label = refl

-- `<< [norm=loud]`, and `[norm=loud]` alone, which stays
against_and_test : leads (path.Seq (path.Against None ∷ path.Filter (constraint.Is Norm (Plain (codes "loud"))) ∷ [])) 0 ≡ false ∷ false ∷ true ∷ false ∷ []
unfolding reached holds hidden hidden-the_row-Path-0
against_and_test = refl

test_alone : leads (path.Filter (constraint.Is Norm (Plain (codes "loud")))) 2 ≡ false ∷ false ∷ true ∷ false ∷ []
unfolding reached holds
test_alone = refl

-- `[]` behind the last token leads nowhere
behind_the_last : leads (path.Filter constraint.Any) 3 ≡ false ∷ false ∷ false ∷ false ∷ []
unfolding reached holds
behind_the_last = refl
