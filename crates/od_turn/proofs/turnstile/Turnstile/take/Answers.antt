use Rattle.std.proofs.Common.{rules, ◌≡◌, [], ◌∷◌, length, Some, ap, arith}
use Rattle.od_turn.specs.declared.view.SeatView.{SeatView}
use Rattle.od_turn.specs.declared.view.Stage.TheVariants.{Idle}
use Rattle.od_turn.specs.Steps.{at_stage}
use Rattle.od_turn.specs.Passes.{pass_view}
use Rattle.od_turn.proofs.Keeps.{draw_allowed, look_allowed}
use Rattle.od_turn.proofs.Tells.{came, head_is}
use Rattle.od_turn.proofs.turnstile.Turnstile.take.Goals as goal

pub fetch_add-ticket-requires : goal.fetch_add-ticket-requires
fetch_add-ticket-requires g c =
    let e : c.into_seat-seat.result.me.0 ≡ at_stage (pass_view c.args.pass.now.badge.views ∷ []) Idle = cc in
    let n : length c.into_seat-seat.result.me.0.passes ≡ 1 = ap (λ (v : SeatView). length v.passes) e in
    (search rules, search rules, draw_allowed _ _ _ _ _ _ _ _ (ap (λ (v : SeatView). v.stage) e) (omega arith))

pub load-requires : goal.load-requires
load-requires g c =
    let i = c.loop.invariant in
    (search rules, search rules, look_allowed _ _ _ _ _ _ _ _ i.0 (ap (λ m. m.0.stage) i.2))

pub exchange-requires : goal.exchange-requires
exchange-requires g c =
    let i = c.loop.invariant in
    let come = came g.V.Counted.marks g.V.Counted.origin _ _ _ _ i.0 c.load.ensures.2 (ap (λ m. m.0.stage) i.2) i.3 c.if-load-ticket.true in
    (search rules, (Some come.0, head_is _ _ _ (ap (λ m. m.1) come.1)))
