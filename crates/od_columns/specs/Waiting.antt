-- Constraints whose regular expressions are still to be listed.
use Rattle.std.specs.Prelude.{ℕ, ◌+◌, List, [], ◌∷◌, ◌++◌, map}
use denote.Ref.{Bor}
use Rattle.od_asked.specs.Expressions.{expressions_in}
use Rattle.od_pattern.specs.Walk.{parts_in}
use Rattle.od_pattern.specs.declared.pattern.Constraint.{Constraint}

-- the constraints behind references
abbrev pub constraints : List (Bor Constraint) → List Constraint
constraints cs = map (λ c. c.now) cs

-- the texts behind references
abbrev pub texts : List (Bor (List ℕ)) → List (List ℕ)
texts ts = map (λ t. t.now) ts

-- the expressions of constraints of which the last is the next
abbrev pub expressions_waiting : List Constraint → List (List ℕ)
expressions_waiting [] = []
expressions_waiting (c ∷ cs) = expressions_waiting cs ++ expressions_in c

-- how many parts they have
abbrev pub work : List Constraint → ℕ
work [] = 0
work (c ∷ cs) = work cs + parts_in c
