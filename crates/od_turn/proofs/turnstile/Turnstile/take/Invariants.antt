use Rattle.std.proofs.Common.{◌≡◌, ℕ, ◌%◌, ◌^◌, [], ◌∷◌}
use Rattle.od_turn.specs.declared.view.Stage.TheVariants.{Waiting}
use Rattle.od_turn.specs.Steps.{at_stage}
use Rattle.od_turn.specs.Passes.{pass_view}
use Rattle.od_turn.proofs.turnstile.Turnstile.take.Given as goal

abbrev pub invariant-loop : goal.invariant-loop
invariant-loop g l = (t : ℕ) × (l.seat.table_id ≡ l.fn.pass.badge.table_id) × (l.seat.me ≡ (at_stage (pass_view l.fn.pass.badge.views ∷ []) (Waiting t), [])) × (l.ticket ≡ t % 2 ^ 64)
