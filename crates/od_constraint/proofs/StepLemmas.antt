-- Steps that are made one after another.
use Rattle.std.proofs.Common.{◌≡◌, ℕ, List, [], ◌∷◌, ◌++◌, refl, sym, ◌∙◌, ap, append_assoc, append-nil, subst}
use Rattle.std.proofs.lemmas.List.{map-append}
use Rattle.std.proofs.lemmas.Grind.{flat_map-append}
use denote.Hole.Carrier.{hidden}
use denote.Ref.{Bor}
use Rattle.od_text.specs.Lists.{Each}
use Rattle.od_text.proofs.Lists.{Each-left, Each-right}
use Rattle.od_asked.specs.Expressions.{expression_of, expressions_in}
use Rattle.od_index.specs.Terms.{Term}
use Rattle.od_pattern.specs.declared.pattern.Constraint.{Constraint, end_of-Constraint, more_of-Constraint}
use Rattle.od_pattern.specs.declared.pattern.Constraint.TheBlock.{hidden-the_row-Constraint-0}
use Rattle.od_pattern.specs.declared.pattern.Constraint.TheVariants.{Any, Is, Not, And, Or, Not', And', Or'}
use Rattle.od_pattern.specs.declared.pattern.Field.{Field}
use Rattle.od_pattern.specs.declared.pattern.Value.{Value}
use Rattle.od_constraint.specs.declared.hits.Hits.{Hits}
use Rattle.od_constraint.specs.declared.steps.Step.{Step}
use Rattle.od_constraint.specs.declared.steps.Step.TheVariants as step
use Rattle.od_constraint.specs.Hits.{Begins}
use Rattle.od_constraint.specs.Steps.{Part, any, test, not_, and_, or_, parts, waiting, lent, part_expressions, parts_expressions, IsStepOf, AreStepsOf}
use Rattle.od_constraint.proofs.HitLemmas.{HasHits-later}

-- steps stay when more hits come
IsStepOf-later : (table : List Term) (hits more : List Hits) (s : Step) (p : Part) → IsStepOf table hits s p → IsStepOf table (hits ++ more) s p
IsStepOf-later table hits more step.Any any h = h
IsStepOf-later table hits more step.Any (test f v) h = h
IsStepOf-later table hits more step.Any not_ h = h
IsStepOf-later table hits more step.Any and_ h = h
IsStepOf-later table hits more step.Any or_ h = h
IsStepOf-later table hits more (step.Is field place) any h = h
IsStepOf-later table hits more (step.Is field place) (test f v) h = (h.0, HasHits-later table hits more _ v place h.1)
IsStepOf-later table hits more (step.Is field place) not_ h = h
IsStepOf-later table hits more (step.Is field place) and_ h = h
IsStepOf-later table hits more (step.Is field place) or_ h = h
IsStepOf-later table hits more step.Not any h = h
IsStepOf-later table hits more step.Not (test f v) h = h
IsStepOf-later table hits more step.Not not_ h = h
IsStepOf-later table hits more step.Not and_ h = h
IsStepOf-later table hits more step.Not or_ h = h
IsStepOf-later table hits more step.And any h = h
IsStepOf-later table hits more step.And (test f v) h = h
IsStepOf-later table hits more step.And not_ h = h
IsStepOf-later table hits more step.And and_ h = h
IsStepOf-later table hits more step.And or_ h = h
IsStepOf-later table hits more step.Or any h = h
IsStepOf-later table hits more step.Or (test f v) h = h
IsStepOf-later table hits more step.Or not_ h = h
IsStepOf-later table hits more step.Or and_ h = h
IsStepOf-later table hits more step.Or or_ h = h

steps_later : (table : List Term) (hits more : List Hits) (steps : List Step) (ps rest : List Part) → AreStepsOf table hits steps ps rest → AreStepsOf table (hits ++ more) steps ps rest
steps_later table hits more [] ps rest h = h
steps_later table hits more (s ∷ steps) [] rest h = absurd h
steps_later table hits more (s ∷ steps) (p ∷ ps) rest h = (IsStepOf-later table hits more s p h.0, steps_later table hits more steps ps rest h.1)

pub AreStepsOf-later : (table : List Term) (old new : List Hits) (steps : List Step) (ps rest : List Part) → Begins old new → AreStepsOf table old steps ps rest → AreStepsOf table new steps ps rest
AreStepsOf-later table old new steps ps rest (more, e) h =
    subst (λ (hits : List Hits). AreStepsOf table hits steps ps rest) (sym e) (steps_later table old more steps ps rest h)

-- before the first step all parts are left
pub no_steps : (table : List Term) (hits : List Hits) (steps : List Step) (ps rest : List Part) → steps ≡ [] → ps ≡ rest → AreStepsOf table hits steps ps rest
no_steps table hits steps ps rest e h = subst (λ (ss : List Step). AreStepsOf table hits ss ps rest) (sym e) h

-- one more step
pub AreStepsOf-more : (table : List Term) (hits : List Hits) (steps : List Step) (s : Step) (ps : List Part) (p : Part) (rest : List Part)
    → AreStepsOf table hits steps ps (p ∷ rest) → IsStepOf table hits s p → AreStepsOf table hits (steps ++ s ∷ []) ps rest
AreStepsOf-more table hits [] s [] p rest h k = absurd (cc)
AreStepsOf-more table hits [] s (q ∷ ps) p rest h k =
    let one : p ≡ q = cc in
    let more : ps ≡ rest = cc in
    (subst (IsStepOf table hits s) one k, more)
AreStepsOf-more table hits (t ∷ steps) s [] p rest h k = absurd h
AreStepsOf-more table hits (t ∷ steps) s (q ∷ ps) p rest h k = (h.0, AreStepsOf-more table hits steps s ps p rest h.1 k)

-- one more constraint that waits
pub waiting-more : (cs : List Constraint) (c : Constraint) → waiting (cs ++ c ∷ []) ≡ parts c ++ waiting cs
waiting-more [] c = sym (append-nil (parts c))
waiting-more (d ∷ cs) c = ap (λ (ps : List Part). ps ++ parts d) (waiting-more cs c) ∙ append_assoc (parts c) (waiting cs) (parts d)

-- the parts of each form
pub parts_not : (c : Constraint) → parts (Not c) ≡ not_ ∷ parts c
unfolding parts hidden hidden-the_row-Constraint-0
parts_not c = refl

pub parts_and : (a b : Constraint) → parts (And a b) ≡ and_ ∷ (parts a ++ parts b)
unfolding parts hidden hidden-the_row-Constraint-0
parts_and a b = refl

pub parts_or : (a b : Constraint) → parts (Or a b) ≡ or_ ∷ (parts a ++ parts b)
unfolding parts hidden hidden-the_row-Constraint-0
parts_or a b = refl

pub parts_any : parts Any ≡ any ∷ []
unfolding parts
parts_any = refl

pub parts_is : (field : Field) (value : Value) → parts (Is field value) ≡ test field value ∷ []
unfolding parts
parts_is field value = refl

pub expressions_is : (field : Field) (value : Value) → expressions_in (Is field value) ≡ expression_of value
unfolding expressions_in
expressions_is field value = refl

-- the parts of a constraint have its expressions
pub expressions_of_parts : (c : Constraint) → parts_expressions (parts c) ≡ expressions_in c
unfolding parts expressions_in
expressions_of_parts Any = refl
expressions_of_parts (Is field value) = append-nil (expression_of value)
expressions_of_parts (Not' v (more_of-Constraint c end_of-Constraint)) = expressions_of_parts c
expressions_of_parts (And' v (more_of-Constraint c end_of-Constraint) w (more_of-Constraint d end_of-Constraint)) =
    flat_map-append part_expressions (parts c) (parts d)
    ∙ ap (λ es. es ++ parts_expressions (parts d)) (expressions_of_parts c)
    ∙ ap (λ es. expressions_in c ++ es) (expressions_of_parts d)
expressions_of_parts (Or' v (more_of-Constraint c end_of-Constraint) w (more_of-Constraint d end_of-Constraint)) =
    flat_map-append part_expressions (parts c) (parts d)
    ∙ ap (λ es. es ++ parts_expressions (parts d)) (expressions_of_parts c)
    ∙ ap (λ es. expressions_in c ++ es) (expressions_of_parts d)

-- what waits behind a negation, a conjunction and a disjunction: the left operand as the next
pub next_not : (c inner got : Constraint) (cs after : List Constraint) → c ≡ Not inner → got ≡ inner → after ≡ cs ++ got ∷ []
    → parts c ++ waiting cs ≡ not_ ∷ waiting after
next_not c inner got cs after e g w =
    ap (λ d. parts d ++ waiting cs) (e ∙ ap Not (sym g)) ∙ ap (λ ps. ps ++ waiting cs) (parts_not got)
    ∙ ap (λ ps. not_ ∷ ps) (sym (waiting-more cs got) ∙ ap waiting (sym w))

both_wait : (cs before after : List Constraint) (a b : Constraint) → before ≡ cs ++ b ∷ [] → after ≡ before ++ a ∷ []
    → (parts a ++ parts b) ++ waiting cs ≡ waiting after
both_wait cs before after a b e f =
    append_assoc (parts a) (parts b) (waiting cs)
    ∙ ap (λ ps. parts a ++ ps) (sym (waiting-more cs b) ∙ ap waiting (sym e))
    ∙ sym (waiting-more before a) ∙ ap waiting (sym f)

pub next_and : (c a b left right : Constraint) (cs before after : List Constraint) → c ≡ And a b → left ≡ a → right ≡ b
    → before ≡ cs ++ right ∷ [] → after ≡ before ++ left ∷ [] → parts c ++ waiting cs ≡ and_ ∷ waiting after
next_and c a b left right cs before after e l r v w =
    ap (λ d. parts d ++ waiting cs) (e ∙ ap (λ x. And x b) (sym l) ∙ ap (And left) (sym r)) ∙ ap (λ ps. ps ++ waiting cs) (parts_and left right)
    ∙ ap (λ ps. and_ ∷ ps) (both_wait cs before after left right v w)

pub next_or : (c a b left right : Constraint) (cs before after : List Constraint) → c ≡ Or a b → left ≡ a → right ≡ b
    → before ≡ cs ++ right ∷ [] → after ≡ before ++ left ∷ [] → parts c ++ waiting cs ≡ or_ ∷ waiting after
next_or c a b left right cs before after e l r v w =
    ap (λ d. parts d ++ waiting cs) (e ∙ ap (λ x. Or x b) (sym l) ∙ ap (Or left) (sym r)) ∙ ap (λ ps. ps ++ waiting cs) (parts_or left right)
    ∙ ap (λ ps. or_ ∷ ps) (both_wait cs before after left right v w)

-- the last of the constraints that wait
pub last_waits : (before after : List (Bor Constraint)) (next : Bor Constraint) → before ≡ after ++ next ∷ []
    → waiting (lent before) ≡ parts next.now ++ waiting (lent after)
last_waits before after next e =
    ap (λ cs. waiting (lent cs)) e ∙ ap waiting (map-append (λ (c : Bor Constraint). c.now) after (next ∷ [])) ∙ waiting-more (lent after) next.now

-- the expressions of the last one
pub last_has : (P : List ℕ → Type 0) (before after : List (Bor Constraint)) (next : Bor Constraint) → before ≡ after ++ next ∷ []
    → Each P (parts_expressions (waiting (lent before))) → Each P (expressions_in next.now)
last_has P before after next e h =
    let whole : parts_expressions (waiting (lent before)) ≡ parts_expressions (parts next.now) ++ parts_expressions (waiting (lent after)) =
    ap parts_expressions (last_waits before after next e) ∙ flat_map-append part_expressions (parts next.now) (waiting (lent after)) in
    subst (Each P) (expressions_of_parts next.now) (Each-left P (parts_expressions (parts next.now)) (parts_expressions (waiting (lent after))) (subst (Each P) whole h))

-- the expressions of what is left
pub rest_has : (P : List ℕ → Type 0) (ps rest : List Part) (p : Part) → ps ≡ p ∷ rest → Each P (parts_expressions ps) → Each P (parts_expressions rest)
rest_has P ps rest p e h = Each-right P (part_expressions p) (parts_expressions rest) (subst (λ qs. Each P (parts_expressions qs)) e h)
