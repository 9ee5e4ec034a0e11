use Rattle.std.proofs.Common.{rules, ◌≡◌, ◌∷◌, [], ap}
use Rattle.od_turn.specs.declared.view.SeatView.{SeatView}
use Rattle.od_turn.specs.declared.view.Stage.TheVariants.{Idle}
use Rattle.od_turn.specs.Steps.{at_stage}
use Rattle.od_turn.specs.Passes.{pass_view}
use Rattle.od_turn.proofs.Keeps.{join_allowed}
use Rattle.od_turn.proofs.turnstile.Turnstile.join.Goals as goal

pub join_seat-requires : goal.join_seat-requires
join_seat-requires g c =
    let e : c.into_seat.result.me.0 ≡ at_stage (pass_view c.args.pass.badge.views ∷ []) Idle = cc in
    (search rules, search rules, search rules, search rules, join_allowed _ _ _ _ _ _ _ _ _ c.requires.idle.0 (ap (λ (v : SeatView). v.stage) e))
