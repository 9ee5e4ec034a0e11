use Rattle.std.proofs.Common.{◌≡◌, ◌<◌, ◌++◌, ◌∷◌, [], ◌∙◌, List, length, take, refl, sym, ap, subst, arith}
use Rattle.std.proofs.lemmas.List.{take_more, take_all}
use Rattle.od_constraint.specs.Runners.{patterns_of}
use Rattle.od_pattern.specs.declared.rule.Rule.{Rule}
use Rattle.od_plan.specs.declared.wanted.Wanted.{Wanted}
use Rattle.od_rounds.specs.Planned.{ArePlans}
use Rattle.od_rounds.proofs.Plans.{plans-more}
use Rattle.od_rounds.proofs.planning.plan_all.Goals as goal

pub loop-rule-preserved : goal.loop-rule-preserved
loop-rule-preserved g c =
    let segments = c.args.view.now.segments in
    let i = c.loop-rule.rule-index in
    let rules = c.args.rules.now in
    let rule = c.rule-item.result in
    let less : i < length rules = omega (arith, c.loop-rule-test.true) in
    record {
      plans = subst (λ (rs : List Rule). ArePlans segments rs c.push.new.self)
          (sym (take_more rules i rule less ∙ ap (λ z. take i rules ++ z ∷ []) (sym c.rule-item.is)))
          (subst (λ (ps : List (List Wanted)). ArePlans segments (take i rules ++ rule ∷ []) ps) (sym c.in_ok-push.ensures.ok)
          (plans-more segments (take i rules) c.loop-rule.plans rule c.in_ok-plan.plan c.loop-rule.invariant.plans c.in_ok-plan.ensures.plan));
      own = c.plan_rule.ensures.own;
      patterns = c.plan_rule.ensures.patterns ∙ c.loop-rule.invariant.patterns;
    }
