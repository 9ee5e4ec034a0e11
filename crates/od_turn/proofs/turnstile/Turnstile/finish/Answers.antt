use Rattle.std.proofs.Common.{◌≡◌, ap, sym, ◌∙◌, subst, unwrap_or}
use mathlib.Core.Option.{some-injective}
use Rattle.od_turn.specs.Rule.{IsLast}
use Rattle.od_turn.proofs.Ends.{closes}
use Rattle.od_turn.proofs.turnstile.Turnstile.finish.Goals as goal

pub unreachable-requires : goal.unreachable-requires
unreachable-requires g c =
    let end = closes g.V.Counted.marks g.V.Counted.origin _ _ _ _ _ _ _ (ap (λ m. m.0.stage) c.requires.view) c.requires.all c.close_with-closed.ensures.values.2 in
    c.in_default.not-Some end.0 (some-injective _ _ (sym c.take.ensures.value ∙ end.1))

pub returns : goal.returns
returns g c =
    let end = closes g.V.Counted.marks g.V.Counted.origin _ _ _ _ _ _ _ (ap (λ m. m.0.stage) c.requires.view) c.requires.all c.close_with-closed.ensures.values.2 in
    let same : end.0 ≡ c.in-Some.value = ap (λ o. unwrap_or o end.0) (some-injective _ _ (sym end.1 ∙ c.take.ensures.value) ∙ c.in-Some.is) in
    record { ends = subst (λ (x : g.row.V.Denot). IsLast c.args.self.table.shared.key.callers (g.V.Counted.origin c.args.self.table.shared.key.first.value) (g.V.Counted.marks c.args.self.table.shared.key.first.value) c.args.seat.me.0.passes (g.V.Counted.origin x) (g.V.Counted.marks x)) same end.2 }
