use Rattle.std.proofs.Common.{ℕ, Option, ◌∙◌, sym, subst}
use Rattle.od_constraint.specs.Noted.{IsAt}
use Rattle.od_constraint.proofs.NoteLemmas.{AreNoted-at, IsNoted-in}
use Rattle.od_constraint.proofs.noted.noted_place.Goals as goal

pub returns-in-Some : goal.returns-in-Some
returns-in-Some c = λ table all expressions text h at.
    let noted = c.args.noted.now in
    subst (λ (o : Option ℕ). IsAt table all text c.args.field o) (sym c.place.ensures)
    (IsNoted-in table all text c.in-Some.one c.args.field (AreNoted-at table all expressions noted c.args.expression text c.in-Some.one h at (sym c.noted_at.ensures ∙ c.in-Some.is)))
