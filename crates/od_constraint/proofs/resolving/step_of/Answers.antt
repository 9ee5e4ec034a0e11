use Rattle.std.proofs.Common.{◌++◌, ℕ, List, refl, ◌∙◌, ap, subst}
use Rattle.od_asked.specs.Expressions.{expressions_in}
use Rattle.od_pattern.specs.declared.pattern.Constraint.{Constraint}
use Rattle.od_pattern.specs.declared.pattern.Field.{Field}
use Rattle.od_constraint.specs.Hits.{HasHits}
use Rattle.od_constraint.specs.Runners.{HaveAll}
use Rattle.od_constraint.specs.Steps.{Part, any, test, not_, and_, or_, parts, waiting, lent}
use Rattle.od_constraint.proofs.StepLemmas.{parts_any, parts_is, expressions_is, next_not, next_and, next_or}
use Rattle.od_constraint.proofs.resolving.step_of.Goals as goal

pub place_of_hits-requires-clause-has : goal.place_of_hits-requires-clause-has
place_of_hits-requires-clause-has g c =
    subst (λ (es : List (List ℕ)). HaveAll c.args.runners.now es) (ap expressions_in c.in-Is.is ∙ expressions_is c.in-Is.field c.in-Is.value) c.requires.has

pub returns-in-Any-clause-step : goal.returns-in-Any-clause-step
returns-in-Any-clause-step g c =
    let rest = waiting (lent c.args.todo.now.items) in
    (any, ap (λ (d : Constraint). parts d ++ rest) c.in-Any.is ∙ ap (λ (ps : List Part). ps ++ rest) parts_any, tt)

pub returns-in_ok-place-in-Is-clause-step : goal.returns-in_ok-place-in-Is-clause-step
returns-in_ok-place-in-Is-clause-step g c =
    let rest = waiting (lent c.args.todo.now.items) in
    let field = c.in-Is.field in
    let value = c.in-Is.value in
    let place = c.in_ok-place-in-Is.place in (
      test field value,
      ap (λ (d : Constraint). parts d ++ rest) c.in-Is.is ∙ ap (λ (ps : List Part). ps ++ rest) (parts_is field value),
      (
        refl,
        subst (λ (f : Field). HasHits c.args.table.now c.place_of_hits.new.tested.hits.items f value place) c.field_asked-asked.ensures c.in_ok-place-in-Is.ensures.place,
      ),
    )

pub returns-in_ok-wait-in-Not-clause-step : goal.returns-in_ok-wait-in-Not-clause-step
returns-in_ok-wait-in-Not-clause-step g c = (
  not_,
  next_not c.args.next.now c.in-Not.inner c.get.result.now (lent c.args.todo.now.items) (lent c.wait.new.todo.items) c.in-Not.is c.get.ensures c.in_ok-wait-in-Not.ensures,
  tt,
)

pub returns-in_ok-wait-in-And-2-clause-step : goal.returns-in_ok-wait-in-And-2-clause-step
returns-in_ok-wait-in-And-2-clause-step g c = (
  and_,
  next_and c.args.next.now c.in-And.left c.in-And.right c.get-in-And-2.result.now c.get-in-And.result.now (lent c.args.todo.now.items) (lent c.wait-in-And.new.todo.items)
      (lent c.wait-in-And-2.new.todo.items) c.in-And.is c.get-in-And-2.ensures c.get-in-And.ensures c.in_ok-wait-in-And.ensures c.in_ok-wait-in-And-2.ensures,
  tt,
)

pub returns-in_ok-wait-in-Or-2-clause-step : goal.returns-in_ok-wait-in-Or-2-clause-step
returns-in_ok-wait-in-Or-2-clause-step g c = (
  or_,
  next_or c.args.next.now c.in-Or.left c.in-Or.right c.get-in-Or-2.result.now c.get-in-Or.result.now (lent c.args.todo.now.items) (lent c.wait-in-Or.new.todo.items)
      (lent c.wait-in-Or-2.new.todo.items) c.in-Or.is c.get-in-Or-2.ensures c.get-in-Or.ensures c.in_ok-wait-in-Or.ensures c.in_ok-wait-in-Or-2.ensures,
  tt,
)
