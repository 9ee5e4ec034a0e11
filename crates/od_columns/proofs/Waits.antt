-- Constraints that wait, one more or one fewer.
use Rattle.std.proofs.Common.{◌≡◌, ◌+◌, ◌<◌, List, [], ◌∷◌, ◌++◌, refl, sym, ◌∙◌, ap, arith, append_assoc, append-nil}
use Rattle.std.proofs.lemmas.List.{map-append}
use denote.Hole.Carrier.{hidden}
use denote.Ref.{Bor}
use Rattle.od_asked.specs.Expressions.{expression_of, expressions_in}
use Rattle.od_columns.specs.Waiting.{constraints, expressions_waiting, work}
use Rattle.od_pattern.specs.Walk.{parts_in}
use Rattle.od_pattern.specs.declared.pattern.Constraint.{Constraint}
use Rattle.od_pattern.specs.declared.pattern.Constraint.TheVariants.{Any, Is, Not, And, Or}
use Rattle.od_pattern.specs.declared.pattern.Constraint.TheBlock.{hidden-the_row-Constraint-0}
use Rattle.od_pattern.specs.declared.pattern.Field.{Field}
use Rattle.od_pattern.specs.declared.pattern.Value.{Value}

pub expressions_any : expressions_in Any ≡ []
unfolding expressions_in
expressions_any = refl

pub expressions_is : (field : Field) (value : Value) → expressions_in (Is field value) ≡ expression_of value
unfolding expressions_in
expressions_is field value = refl

pub expressions_not : (c : Constraint) → expressions_in (Not c) ≡ expressions_in c
unfolding expressions_in hidden hidden-the_row-Constraint-0
expressions_not c = refl

pub expressions_and : (a b : Constraint) → expressions_in (And a b) ≡ expressions_in a ++ expressions_in b
unfolding expressions_in hidden hidden-the_row-Constraint-0
expressions_and a b = refl

pub expressions_or : (a b : Constraint) → expressions_in (Or a b) ≡ expressions_in a ++ expressions_in b
unfolding expressions_in hidden hidden-the_row-Constraint-0
expressions_or a b = refl

-- one more waits, and is the next
pub waits_more : (cs : List Constraint) (c : Constraint)
    → expressions_waiting (cs ++ c ∷ []) ≡ expressions_in c ++ expressions_waiting cs
waits_more [] c = sym (append-nil (expressions_in c))
waits_more (d ∷ cs) c =
    ap (λ z. z ++ expressions_in d) (waits_more cs c)
    ∙ append_assoc (expressions_in c) (expressions_waiting cs) (expressions_in d)

pub work_more : (cs : List Constraint) (c : Constraint) → work (cs ++ c ∷ []) ≡ work cs + parts_in c
work_more [] c = refl
work_more (d ∷ cs) c = let rest : work (cs ++ c ∷ []) ≡ work cs + parts_in c = work_more cs c in omega arith

-- the operands of a constraint wait in its place
pub waits_one : (c inner : Constraint) (before after : List Constraint) → after ≡ before ++ inner ∷ []
    → expressions_in c ≡ expressions_in inner
    → expressions_waiting after ≡ expressions_in c ++ expressions_waiting before
waits_one c inner before after is same =
    ap expressions_waiting is ∙ waits_more before inner ∙ ap (λ z. z ++ expressions_waiting before) (sym same)

pub waits_two : (c left right : Constraint) (before between after : List Constraint)
    → between ≡ before ++ right ∷ [] → after ≡ between ++ left ∷ []
    → expressions_in c ≡ expressions_in left ++ expressions_in right
    → expressions_waiting after ≡ expressions_in c ++ expressions_waiting before
waits_two c left right before between after first second same =
    ap expressions_waiting second ∙ waits_more between left
    ∙ ap (λ z. expressions_in left ++ z) (ap expressions_waiting first ∙ waits_more before right)
    ∙ sym (append_assoc (expressions_in left) (expressions_in right) (expressions_waiting before))
    ∙ ap (λ z. z ++ expressions_waiting before) (sym same)

pub less_one : (c inner : Constraint) (before after : List Constraint) → after ≡ before ++ inner ∷ []
    → parts_in c ≡ 1 + parts_in inner → work after < work before + parts_in c
less_one c inner before after is parts =
    let more : work after ≡ work before + parts_in inner = ap work is ∙ work_more before inner in omega (arith, more, parts)

pub less_two : (c left right : Constraint) (before between after : List Constraint)
    → between ≡ before ++ right ∷ [] → after ≡ between ++ left ∷ []
    → parts_in c ≡ 2 + parts_in left + parts_in right → work after < work before + parts_in c
less_two c left right before between after first second parts =
    let one : work between ≡ work before + parts_in right = ap work first ∙ work_more before right in
    let two : work after ≡ work between + parts_in left = ap work second ∙ work_more between left in
    omega (arith, one, two, parts)

-- the last of those that wait
pub last_waits : (before after : List (Bor Constraint)) (next : Bor Constraint) → before ≡ after ++ next ∷ []
    → expressions_waiting (constraints before) ≡ expressions_in next.now ++ expressions_waiting (constraints after)
last_waits before after next is =
    ap (λ cs. expressions_waiting (constraints cs)) is
    ∙ ap expressions_waiting (map-append (λ (c : Bor Constraint). c.now) after (next ∷ []))
    ∙ waits_more (constraints after) next.now

pub last_work : (before after : List (Bor Constraint)) (next : Bor Constraint) → before ≡ after ++ next ∷ []
    → work (constraints before) ≡ work (constraints after) + parts_in next.now
last_work before after next is =
    ap (λ cs. work (constraints cs)) is
    ∙ ap work (map-append (λ (c : Bor Constraint). c.now) after (next ∷ []))
    ∙ work_more (constraints after) next.now
