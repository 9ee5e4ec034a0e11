use Rattle.std.proofs.Common.{◌≡◌, ◌+◌, ℕ, List, length, refl, sym, ap, ◌∙◌, subst}
use Rattle.std.specs.Prelude.{Contains}
use Rattle.std.proofs.lemmas.List.{length_push}
use Rattle.od_text.specs.Lists.{Each}
use Rattle.od_constraint.specs.Runners.{patterns_of, HaveAll}
use Rattle.od_plan.specs.Chosen.{AreMeant}
use Rattle.od_plan.specs.declared.wanted.Wanted.{Wanted}
use Rattle.od_need.specs.Expressions.{expressions_needed}
use Rattle.od_resolve.proofs.Plans.{meant-none, meant-more}
use Rattle.od_resolve.proofs.planning.plan_over.Goals as goal

pub loop-place-init : goal.loop-place-init
loop-place-init g c = record {
  each = ap (λ (ws : List Wanted). length ws) c.new-plan.ensures;
  meant = subst (AreMeant c.args.need.now c.args.view.now.segments) (sym c.new-plan.ensures) (meant-none c.args.need.now c.args.view.now.segments);
  own = c.requires.own;
  patterns = refl;
}

pub loop-place-preserved : goal.loop-place-preserved
loop-place-preserved g c = record {
  each = ap (λ (ws : List Wanted). length ws) c.in_ok-push.ensures.ok ∙ length_push c.loop-place.plan c.in_ok-one.one ∙ ap (λ (n : ℕ). n + 1) c.loop-place.invariant.each;
  meant = meant-more c.args.need.now c.args.view.now.segments c.loop-place.plan c.in_ok-one.one c.push.new.self c.loop-place.place c.table.result.now
      c.loop-place.invariant.meant c.loop-place.invariant.each c.table.ensures c.in_ok-one.ensures.means c.in_ok-push.ensures.ok;
  own = c.resolve_need.ensures.own;
  patterns = c.resolve_need.ensures.patterns ∙ c.loop-place.invariant.patterns;
}
