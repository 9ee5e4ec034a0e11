use Rattle.std.proofs.Common.{◌≡◌, ℕ, suc, List, [], ◌∷◌, ◌++◌, sym, ◌∙◌, ap, subst, length, arith, rules}
use Rattle.std.specs.Prelude.{Contains}
use Rattle.od_text.specs.Lists.{Each}
use Rattle.od_pattern.specs.declared.pattern.Constraint.{Constraint}
use Rattle.od_constraint.specs.declared.hits.Hits.{Hits}
use Rattle.od_constraint.specs.declared.steps.Step.{Step}
use Rattle.od_constraint.specs.Runners.{patterns_of, HaveAll}
use Rattle.od_constraint.specs.Steps.{Part, AreStepsOf, parts, waiting, lent, parts_expressions}
use Rattle.od_constraint.proofs.StepLemmas.{AreStepsOf-later, AreStepsOf-more, no_steps, expressions_of_parts, last_waits, last_has, rest_has}
use Rattle.od_constraint.proofs.resolving.resolve.Goals as goal

pub loop-next-init : goal.loop-next-init
loop-next-init g c =
    let asked = c.args.constraint.now in
    let first : lent c.wait.new.todo.items ≡ asked ∷ [] = c.in_ok-wait.ensures ∙ ap (λ cs. lent cs ++ asked ∷ []) c.new-todo.ensures.items in
    record {
      steps = no_steps c.args.table.now _ _ (parts asked) _ c.new-steps.ensures.items (sym (ap waiting first));
      noted = c.in_ok-noted.ensures c.args.table.now c.new.result.items (patterns_of c.args.runners.now) (sym c.len.ensures);
      own = c.requires.own;
      patterns = search rules;
      have = subst (λ (es : List (List ℕ)). HaveAll c.args.runners.now es)
          (sym (ap (λ (cs : List Constraint). parts_expressions (waiting cs)) first ∙ expressions_of_parts asked)) c.requires.has;
    }

pub step_of-requires-clause-has : goal.step_of-requires-clause-has
step_of-requires-clause-has g c =
    let last : c.loop-next.todo.items ≡ c.pop.new.self.items ++ c.in-Some.next ∷ [] = search rules in
    last_has (Contains (patterns_of c.loop-next.runners)) c.loop-next.todo.items c.pop.new.self.items c.in-Some.next last c.loop-next.invariant.have

pub loop-next-smaller : goal.loop-next-smaller
loop-next-smaller g c =
    let last : c.loop-next.todo.items ≡ c.pop.new.self.items ++ c.in-Some.next ∷ [] = search rules in
    let long : length (waiting (lent c.loop-next.todo.items)) ≡ suc (length (waiting (lent c.step_of.new.todo.items))) =
    ap length (last_waits c.loop-next.todo.items c.pop.new.self.items c.in-Some.next last ∙ c.in_ok-step.ensures.step.1) in
    omega (arith, long)

pub loop-next-preserved : goal.loop-next-preserved
loop-next-preserved g c =
    let table = c.args.table.now in
    let whole = parts c.args.constraint.now in
    let rest = waiting (lent c.step_of.new.todo.items) in
    let hits = c.step_of.new.tested.hits.items in
    let last : c.loop-next.todo.items ≡ c.pop.new.self.items ++ c.in-Some.next ∷ [] = search rules in
    let part : Part = c.in_ok-step.ensures.step.0 in
    let next : waiting (lent c.loop-next.todo.items) ≡ part ∷ rest = last_waits c.loop-next.todo.items c.pop.new.self.items c.in-Some.next last ∙ c.in_ok-step.ensures.step.1 in
    let pushed : c.push.new.self.items ≡ c.loop-next.steps.items ++ c.in_ok-step.step ∷ [] = search rules in
    let before : AreStepsOf table hits c.loop-next.steps.items whole (part ∷ rest) =
    subst (λ (ps : List Part). AreStepsOf table hits c.loop-next.steps.items whole ps) next
    (AreStepsOf-later table c.loop-next.tested.hits.items hits c.loop-next.steps.items whole _ c.in_ok-step.ensures.kept c.loop-next.invariant.steps) in
    record {
      steps = subst (λ (ss : List Step). AreStepsOf table hits ss whole rest) (sym pushed)
          (AreStepsOf-more table hits c.loop-next.steps.items c.in_ok-step.step whole part rest before c.in_ok-step.ensures.step.2);
      noted = c.in_ok-step.ensures.noted;
      own = c.in_ok-step.ensures.own;
      patterns = c.in_ok-step.ensures.patterns ∙ c.loop-next.invariant.patterns;
      have = subst (λ (es : List (List ℕ)). Each (Contains es) (parts_expressions rest)) (sym c.in_ok-step.ensures.patterns)
          (rest_has (Contains (patterns_of c.loop-next.runners)) (waiting (lent c.loop-next.todo.items)) rest part next c.loop-next.invariant.have);
    }
