use Rattle.std.proofs.Common.{◌<◌, length, flat_map, arith}
use Rattle.std.proofs.lemmas.Result.{err_from_is_err_and}
use Rattle.std.specs.List.{enumerate_from}
use Rattle.od_extraction.specs.declared.mention.RoundResult.TheVariants.{Found}
use Rattle.od_rounds.specs.Looked.{walk_from}
use Rattle.od_rounds.specs.Ready.{items_of_rule, opened_by_rule}
use Rattle.od_rounds.proofs.Steps.{some-at, number-goes, number-stops, sum-next}
use Rattle.od_rounds.proofs.rules.run_all.Goals as goal

pub returns-in_err-run_at-clause-met : goal.returns-in_err-run_at-clause-met
returns-in_err-run_at-clause-met g c =
    let (light, count, leads) = c.loop-place.invariant in
    let round = c.args.round.now in
    let rules = round.file.rules.now in
    let within : c.loop-place.place < length rules = rw c.rules-place-end.ensures at c.loop-place-test.true in
    let rule = some-at rules c.loop-place.place within in
    let p = err_from_is_err_and c.from_residual.result c.from_residual.ensures.1 in
    rw (p.1, p.2) (number-stops (items_of_rule round) round.known.now c.in_err-run_at.field-0.0 (Found c.loop-place.found)
    (walk_from round.known.now c.args.found.now (flat_map (items_of_rule round) (enumerate_from 1 rules)))
    rules c.loop-place.place rule.0 rule.1 leads (c.in_err-run_at.ensures.met rule.0 rule.1))

pub returns-in_err-run_at-clause-steps : goal.returns-in_err-run_at-clause-steps
returns-in_err-run_at-clause-steps g c =
    let (light, count, leads) = c.loop-place.invariant in
    let round = c.args.round.now in
    let rules = round.file.rules.now in
    let within : c.loop-place.place < length rules = rw c.rules-place-end.ensures at c.loop-place-test.true in
    let rule = some-at rules c.loop-place.place within in
    let next = sum-next (opened_by_rule round) rules c.loop-place.place rule.0 rule.1 in
    let more = c.run_at.ensures.steps rule.0 rule.1 in
    omega (arith, count, more, next)

pub loop-place-preserved : goal.loop-place-preserved
loop-place-preserved g c =
    let (light, count, leads) = c.loop-place.invariant in
    let round = c.args.round.now in
    let rules = round.file.rules.now in
    let within : c.loop-place.place < length rules = rw c.rules-place-end.ensures at c.loop-place-test.true in
    let rule = some-at rules c.loop-place.place within in
    let next = sum-next (opened_by_rule round) rules c.loop-place.place rule.0 rule.1 in
    let more = c.run_at.ensures.steps rule.0 rule.1 in (
      c.in_ok-run_at.ensures.light,
      omega (arith, count, more, next),
      number-goes (items_of_rule round) round.known.now (Found c.loop-place.found) (Found c.run_at.new.found)
          (walk_from round.known.now c.args.found.now (flat_map (items_of_rule round) (enumerate_from 1 rules)))
          rules c.loop-place.place rule.0 rule.1 leads (c.in_ok-run_at.ensures.met rule.0 rule.1),
    )
