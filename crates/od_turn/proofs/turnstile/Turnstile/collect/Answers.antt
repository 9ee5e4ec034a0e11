use Rattle.std.proofs.Common.{◌≡◌, ◌∷◌, ◌++◌, [], ap, sym, ◌∙◌, subst, List}
use Rattle.od_turn.specs.declared.view.SeatView.{SeatView}
use Rattle.od_turn.specs.declared.view.Stage.TheVariants.{Idle}
use Rattle.od_turn.specs.declared.pass.Pass.{Pass}
use Rattle.od_turn.specs.Steps.{at_stage}
use Rattle.od_turn.specs.Passes.{pass_view, pass_views, AreFree}
use Rattle.od_turn.proofs.Ends.{pass_views-snoc, free_front, free_last, gather, shaped}
use Rattle.od_turn.proofs.turnstile.Turnstile.collect.Goals as goal

pub loop-pass-init : goal.loop-pass-init
loop-pass-init g c =
    let items = c.in-Some.ensures.items in
    let free : AreFree c.args.self.now.table.shared.table_id (c.pop.new.self.items ++ c.in-Some.last ∷ []) = subst (AreFree c.args.self.now.table.shared.table_id) items c.requires.free in
    let last = free_last _ c.pop.new.self.items c.in-Some.last free in
    let e : c.into_seat-seat.result.me.0 ≡ at_stage (pass_view c.in-Some.last.badge.views ∷ []) Idle = cc (last.1, c.into_seat-seat.ensures.2) in
    record {
      own = c.into_seat-seat.ensures.0 ∙ last.0;
      view = shaped _ (pass_view c.in-Some.last.badge.views ∷ []) e c.into_seat-seat.ensures.3;
      free = free_front _ c.pop.new.self.items c.in-Some.last free;
      all = ap (λ (v : SeatView). pass_views c.pop.new.self.items ++ v.passes) e ∙ (sym (pass_views-snoc c.pop.new.self.items c.in-Some.last) ∙ ap pass_views (sym items));
    }

pub join-requires-clause-free : goal.join-requires-clause-free
join-requires-clause-free g c = free_last _ c.pop-in-loop-pass.new.self.items c.in-Some-pop.pass (subst (AreFree c.args.self.now.table.shared.table_id) c.in-Some-pop.ensures.items c.loop-pass.invariant.free)

pub loop-pass-preserved : goal.loop-pass-preserved
loop-pass-preserved g c =
    let items = c.in-Some-pop.ensures.items in
    let ps : List Pass = c.pop-in-loop-pass.new.self.items in
    record {
      own = c.join.ensures.own;
      view = shaped _ (pass_view c.in-Some-pop.pass.badge.views ∷ c.loop-pass.seat.me.0.passes) (ap (λ m. m.0) c.join.ensures.view) (ap (λ m. m.1) c.join.ensures.view);
      free = free_front _ ps c.in-Some-pop.pass (subst (AreFree c.args.self.now.table.shared.table_id) items c.loop-pass.invariant.free);
      all = ap (λ m. pass_views ps ++ m.0.passes) c.join.ensures.view ∙ gather ps c.in-Some-pop.pass c.loop-pass.seat.me.0.passes (pass_views c.args.passes.items) (ap (λ l. pass_views l ++ c.loop-pass.seat.me.0.passes) (sym items) ∙ c.loop-pass.invariant.all);
    }
