use Rattle.std.proofs.Common.{rules, ◌≡◌, ◌+◌, ◌-◌, ◌∷◌, [], ap, sym, ◌∙◌, subst, ℕ, refl, List, arith, length}
use Rattle.od_mark.specs.declared.mark.Mark.{Mark}
use Rattle.od_mark.specs.declared.origin.Origin.{Origin}
use Rattle.od_turn.specs.declared.view.PassView.{PassView}
use Rattle.od_turn.specs.declared.view.Stage.TheVariants.{Idle}
use Rattle.od_turn.specs.Rule.{new_pass, new_passes}
use Rattle.od_turn.specs.Steps.{at_stage, issued, kept_back}
use Rattle.od_turn.specs.Passes.{AreNew}
use Rattle.od_turn.proofs.Keeps.{split_allowed}
use Rattle.od_turn.proofs.Starts.{new_ready, new_passes-step, new_push, is_new, none_left}
use Rattle.od_turn.proofs.turnstile.Turnstile.issue.Goals as goal

pub split_seat-other-requires : goal.split_seat-other-requires
split_seat-other-requires g c = (search rules, search rules, split_allowed _ _ _ _ _ _ _ (ap (λ m. m.0.stage) c.loop-number.invariant.view))

pub loop-number-preserved : goal.loop-number-preserved
loop-number-preserved g c =
    let o : Origin = g.V.Counted.origin c.args.self.now.table.shared.key.first.value in
    let base : List Mark = g.V.Counted.marks c.args.self.now.table.shared.key.first.value in
    let inv = c.loop-number.invariant in
    let n : ℕ = c.loop-number.number in
    let step = new_passes-step o base n c.args.callers (search rules) in
    let e = inv.view ∙ ap (λ (ks : List PassView). (at_stage ks Idle, [])) step in
    let split = c.split_seat-other.ensures in
    let new = is_new o base c.args.self.now.table.shared.table_id n (1 + length c.loop-number.passes.items) c.new.result (at_stage (new_pass o base n ∷ []) Idle) []
    (ap (λ b. b.table_id) c.new.ensures.0 ∙ (c.into_badge.ensures.0 ∙ (split.3 ∙ inv.own)))
    (ap (λ b. b.views) c.new.ensures.0 ∙ (c.into_badge.ensures.2 ∙ ap (λ m. m.0 ∷ []) (split.4 ∙ ap (λ m. (issued m.0, [])) e)))
    refl refl c.new.ensures.1 (c.new.ensures.2 ∙ c.requires.known) (let m = inv.many in omega arith) in
    record {
      own = split.0 ∙ inv.own;
      view = split.2 ∙ ap (λ m. (kept_back m.0, m.1)) e;
      new = subst (AreNew o base c.args.self.now.table.shared.table_id 1) (sym c.push_reserved.ensures.items) (new_push o base _ 1 c.loop-number.passes.items c.new.result inv.new new);
      many = search rules;
      room = search rules;
    }

pub returns-clause-new : goal.returns-clause-new
returns-clause-new g c =
    let o : Origin = g.V.Counted.origin c.args.self.now.table.shared.key.first.value in
    let base : List Mark = g.V.Counted.marks c.args.self.now.table.shared.key.first.value in
    let inv = c.loop-number.invariant in
    let n : ℕ = c.loop-number.number in
    let end : n ≡ c.args.callers = search rules in
    let step = new_passes-step o base n c.args.callers (omega arith) in
    let e = inv.view ∙ ap (λ (ks : List PassView). (at_stage ks Idle, [])) step in
    let new = is_new o base c.args.self.now.table.shared.table_id n (1 + length c.loop-number.passes.items) c.new-2.result c.loop-number.seat.me.0 (new_passes o base (n + 1) ((c.args.callers + 1) - (n + 1)))
    (ap (λ b. b.table_id) c.new-2.ensures.0 ∙ (c.into_badge-2.ensures.0 ∙ inv.own))
    (ap (λ b. b.views) c.new-2.ensures.0 ∙ c.into_badge-2.ensures.2)
    (ap (λ m. m.0) e) (none_left o base n c.args.callers end) (c.new-2.ensures.1 ∙ sym end) (c.new-2.ensures.2 ∙ c.requires.known) (let m = inv.many in omega arith) in
    subst (AreNew o base c.args.self.now.table.shared.table_id 1) (sym c.push_reserved-2.ensures.items) (new_push o base _ 1 c.loop-number.passes.items c.new-2.result inv.new new)

pub returns-clause-ready : goal.returns-clause-ready
returns-clause-ready g c = new_ready _ _ _ _ _ (returns-clause-new g c)
