use Rattle.std.proofs.Common.{◌+◌, ◌++◌, sym, ap, ◌∙◌, append_assoc}
use Rattle.od_asked.specs.Expressions.{expression_of, expressions_in}
use Rattle.od_columns.specs.Waiting.{constraints, expressions_waiting, texts}
use Rattle.od_pattern.specs.Walk.{parts_in}
use Rattle.od_pattern.proofs.Walks.{parts_in_not, parts_in_and, parts_in_or}
use Rattle.od_columns.proofs.Waits.{expressions_any, expressions_is, expressions_not, expressions_and, expressions_or, waits_one, waits_two, less_one, less_two}
use Rattle.od_columns.proofs.expressions.step.Goals as goal

pub returns-in-Any-clause-found : goal.returns-in-Any-clause-found
returns-in-Any-clause-found c =
    ap (λ z. texts c.args.found.now.items ++ (z ++ expressions_waiting (constraints c.args.todo.now.items)))
    (sym (ap expressions_in c.in-Any.is ∙ expressions_any))

pub returns-in_ok-push_value-in-Is-clause-found : goal.returns-in_ok-push_value-in-Is-clause-found
returns-in_ok-push_value-in-Is-clause-found c =
    ap (λ z. z ++ expressions_waiting (constraints c.args.todo.now.items)) c.in_ok-push_value-in-Is.ensures
    ∙ append_assoc (texts c.args.found.now.items) (expression_of c.in-Is.value) (expressions_waiting (constraints c.args.todo.now.items))
    ∙ ap (λ z. texts c.args.found.now.items ++ (z ++ expressions_waiting (constraints c.args.todo.now.items)))
    (sym (ap expressions_in c.in-Is.is ∙ expressions_is c.in-Is.field-0 c.in-Is.value))

pub returns-in_ok-wait-in-Not-clause-found : goal.returns-in_ok-wait-in-Not-clause-found
returns-in_ok-wait-in-Not-clause-found c =
    ap (λ z. texts c.args.found.now.items ++ z)
    (waits_one c.args.next.now c.get.result.now (constraints c.args.todo.now.items) (constraints c.wait.new.todo.items) c.in_ok-wait-in-Not.ensures
    (ap expressions_in c.in-Not.is ∙ expressions_not c.in-Not.inner ∙ sym (ap expressions_in c.get.ensures)))

pub returns-in_ok-wait-in-Not-clause-less : goal.returns-in_ok-wait-in-Not-clause-less
returns-in_ok-wait-in-Not-clause-less c =
    less_one c.args.next.now c.get.result.now (constraints c.args.todo.now.items) (constraints c.wait.new.todo.items) c.in_ok-wait-in-Not.ensures
    (ap parts_in c.in-Not.is ∙ parts_in_not c.in-Not.inner ∙ sym (ap (λ z. 1 + parts_in z) c.get.ensures))

pub returns-in_ok-wait-in-And-2-clause-found : goal.returns-in_ok-wait-in-And-2-clause-found
returns-in_ok-wait-in-And-2-clause-found c =
    ap (λ z. texts c.args.found.now.items ++ z)
    (waits_two c.args.next.now c.get-in-And-2.result.now c.get-in-And.result.now (constraints c.args.todo.now.items) (constraints c.wait-in-And.new.todo.items)
    (constraints c.wait-in-And-2.new.todo.items) c.in_ok-wait-in-And.ensures c.in_ok-wait-in-And-2.ensures
    (ap expressions_in c.in-And.is ∙ expressions_and c.in-And.left c.in-And.right
    ∙ sym (ap (λ z. expressions_in z ++ expressions_in c.get-in-And.result.now) c.get-in-And-2.ensures
    ∙ ap (λ z. expressions_in c.in-And.left ++ expressions_in z) c.get-in-And.ensures)))

pub returns-in_ok-wait-in-And-2-clause-less : goal.returns-in_ok-wait-in-And-2-clause-less
returns-in_ok-wait-in-And-2-clause-less c =
    less_two c.args.next.now c.get-in-And-2.result.now c.get-in-And.result.now (constraints c.args.todo.now.items) (constraints c.wait-in-And.new.todo.items)
    (constraints c.wait-in-And-2.new.todo.items) c.in_ok-wait-in-And.ensures c.in_ok-wait-in-And-2.ensures
    (ap parts_in c.in-And.is ∙ parts_in_and c.in-And.left c.in-And.right
    ∙ sym (ap (λ z. 2 + parts_in z + parts_in c.get-in-And.result.now) c.get-in-And-2.ensures
    ∙ ap (λ z. 2 + parts_in c.in-And.left + parts_in z) c.get-in-And.ensures))

pub returns-in_ok-wait-in-Or-2-clause-found : goal.returns-in_ok-wait-in-Or-2-clause-found
returns-in_ok-wait-in-Or-2-clause-found c =
    ap (λ z. texts c.args.found.now.items ++ z)
    (waits_two c.args.next.now c.get-in-Or-2.result.now c.get-in-Or.result.now (constraints c.args.todo.now.items) (constraints c.wait-in-Or.new.todo.items)
    (constraints c.wait-in-Or-2.new.todo.items) c.in_ok-wait-in-Or.ensures c.in_ok-wait-in-Or-2.ensures
    (ap expressions_in c.in-Or.is ∙ expressions_or c.in-Or.left c.in-Or.right
    ∙ sym (ap (λ z. expressions_in z ++ expressions_in c.get-in-Or.result.now) c.get-in-Or-2.ensures
    ∙ ap (λ z. expressions_in c.in-Or.left ++ expressions_in z) c.get-in-Or.ensures)))

pub returns-in_ok-wait-in-Or-2-clause-less : goal.returns-in_ok-wait-in-Or-2-clause-less
returns-in_ok-wait-in-Or-2-clause-less c =
    less_two c.args.next.now c.get-in-Or-2.result.now c.get-in-Or.result.now (constraints c.args.todo.now.items) (constraints c.wait-in-Or.new.todo.items)
    (constraints c.wait-in-Or-2.new.todo.items) c.in_ok-wait-in-Or.ensures c.in_ok-wait-in-Or-2.ensures
    (ap parts_in c.in-Or.is ∙ parts_in_or c.in-Or.left c.in-Or.right
    ∙ sym (ap (λ z. 2 + parts_in z + parts_in c.get-in-Or.result.now) c.get-in-Or-2.ensures
    ∙ ap (λ z. 2 + parts_in c.in-Or.left + parts_in z) c.get-in-Or.ensures))
