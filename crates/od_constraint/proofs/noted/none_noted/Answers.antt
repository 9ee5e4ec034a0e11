use Rattle.std.proofs.Common.{◌≡◌, ℕ, List, ◌∙◌, ap, sym, subst, length, replicate, rules}
use Rattle.od_constraint.specs.Noted.{AreNoted}
use Rattle.od_constraint.specs.declared.noted.Noted.{Noted}
use Rattle.od_constraint.specs.declared.noted.TheConstants.{NOWHERE}
use Rattle.od_constraint.proofs.NoteLemmas.{AreNoted-none}
use Rattle.od_constraint.proofs.noted.none_noted.Goals as goal

pub returns : goal.returns
returns c = λ table all expressions e.
    let none : c.in_ok-noted.noted.items ≡ replicate c.args.len NOWHERE = search rules in
    subst (AreNoted table all expressions) (sym (none ∙ ap (λ (n : ℕ). replicate n NOWHERE) (sym e))) (AreNoted-none table all expressions)
