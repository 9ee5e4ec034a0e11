use Rattle.std.proofs.Common.{◌+◌, ◌≤◌, ◌∙◌, sym, subst}
use Rattle.std.proofs.lemmas.Result.{err_from_is_err_and}
use Rattle.od_index.specs.Views.{sites_seen}
use Rattle.od_rounds.specs.Gives.{FaultIs}
use Rattle.od_rounds.proofs.Rounds.{rules-lead, rules-open}
use Rattle.od_rounds.proofs.rules.run_round.Goals as goal

pub returns-clause-round : goal.returns-clause-round
returns-clause-round g c grammar is =
    let round = c.args.round.now in
    let met = rw c.new-found.ensures at c.in_ok-run_all.ensures.met in
    sym (rules-lead (sites_seen round.view.now) grammar round.file.rules.now round.number round.known.now is c.requires.unlike) ∙ met

pub returns-clause-steps : goal.returns-clause-steps
returns-clause-steps g c grammar is =
    let round = c.args.round.now in
    subst (λ n. c.run_all.new.steps ≤ c.args.steps.now + n) (rules-open (sites_seen round.view.now) grammar round.file.rules.now round.number round.known.now is) c.run_all.ensures.steps

pub returns-in_err-run_all-clause-round : goal.returns-in_err-run_all-clause-round
returns-in_err-run_all-clause-round g c grammar is =
    let round = c.args.round.now in
    let met = rw c.new-found.ensures at c.in_err-run_all.ensures.met in
    let p = err_from_is_err_and c.from_residual.result c.from_residual.ensures.1 in
    rw (p.1, p.2) (subst (FaultIs c.in_err-run_all.field-0.0) (rules-lead (sites_seen round.view.now) grammar round.file.rules.now round.number round.known.now is c.requires.unlike) met)

pub returns-in_err-run_all-clause-steps : goal.returns-in_err-run_all-clause-steps
returns-in_err-run_all-clause-steps g c grammar is =
    let round = c.args.round.now in
    subst (λ n. c.run_all.new.steps ≤ c.args.steps.now + n) (rules-open (sites_seen round.view.now) grammar round.file.rules.now round.number round.known.now is) c.run_all.ensures.steps
