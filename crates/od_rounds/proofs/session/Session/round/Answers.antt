use Rattle.std.proofs.Common.{◌∙◌, sym, subst}
use Rattle.od_extraction.specs.declared.mention.RoundResult.{RoundResult}
use Rattle.od_rounds.specs.Gives.{Gives}
use Rattle.od_rounds.proofs.Rounds.{scanned-is}
use Rattle.od_rounds.proofs.session.Session.round.Goals as goal

pub returns-clause-round : goal.returns-clause-round
returns-clause-round g c grammar is =
    let same = rw (← c.self.view_is) at is in
    rw (← c.self.view_is) (c.run_round.ensures.round grammar (same ∙ sym c.deref.ensures))

pub returns-clause-scanned : goal.returns-clause-scanned
returns-clause-scanned g c docs lists grammar is tiles stands =
    let same = rw (← c.self.view_is) at is in
    let s = c.args.self.now in
    subst (λ (r : RoundResult). Gives c.run_round.result r) (scanned-is s.seen s.at docs lists grammar tiles stands)
    (rw (← c.self.view_is) (c.run_round.ensures.round grammar (same ∙ sym c.deref.ensures)))

pub returns-clause-steps : goal.returns-clause-steps
returns-clause-steps g c grammar is =
    let same = rw (← c.self.view_is) at is in
    rw (← c.self.view_is) (c.run_round.ensures.steps grammar (same ∙ sym c.deref.ensures))
