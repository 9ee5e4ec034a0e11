use Rattle.std.proofs.Common.{◌≡◌, ◌+◌, ◌++◌, ◌∷◌, [], sym, ap, ◌∙◌, arith, rules}
use Rattle.od_columns.specs.Waiting.{constraints, texts, work}
use Rattle.od_pattern.specs.Walk.{parts_in}
use Rattle.od_columns.proofs.Waits.{last_waits, last_work}
use Rattle.od_columns.proofs.expressions.push_constraint.Goals as goal

pub loop-next-smaller : goal.loop-next-smaller
loop-next-smaller c =
    let last : c.loop-next.todo.items ≡ c.pop.new.self.items ++ c.in-Some.next ∷ [] = search rules in
    let before : work (constraints c.loop-next.todo.items) ≡ work (constraints c.pop.new.self.items) + parts_in c.in-Some.next.now =
    last_work c.loop-next.todo.items c.pop.new.self.items c.in-Some.next last in
    omega (arith, before, c.in_ok-step.ensures.less)

pub loop-next-preserved : goal.loop-next-preserved
loop-next-preserved c =
    let last : c.loop-next.todo.items ≡ c.pop.new.self.items ++ c.in-Some.next ∷ [] = search rules in
    c.in_ok-step.ensures.found
    ∙ ap (λ z. texts c.loop-next.found.items ++ z) (sym (last_waits c.loop-next.todo.items c.pop.new.self.items c.in-Some.next last))
    ∙ c.loop-next.invariant
