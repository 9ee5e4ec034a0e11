use Rattle.std.proofs.Common.{ℕ, arith}
use Rattle.std.proofs.lemmas.Result.{err_from_is_err_and}
use Rattle.std.specs.Prelude.{IsSome}
use Rattle.od_extraction.specs.declared.mention.RoundResult.TheVariants.{Found}
use Rattle.od_index.specs.Views.{site_at}
use Rattle.od_matching.specs.Rounds.Round.{items_over}
use Rattle.od_pattern.specs.declared.rule.Rule.{Rule}
use Rattle.od_rounds.specs.Looked.{sites_named, walk_from}
use Rattle.od_rounds.proofs.Lists.{each-at}
use Rattle.od_rounds.proofs.Steps.{gives_at, gives-all, goes-on, stops-at}
use Rattle.od_segment.specs.Seen.{place_of}
use Rattle.od_rounds.proofs.visit.visit_all.Goals as goal

pub loop-place-init : goal.loop-place-init
loop-place-init g c =
    let rule = c.args.numbered.now in
    (c.requires.light, omega arith, gives-all rule.view.now.segments rule.known.now c.args.found.now (rule.number, rule.rule.now) c.args.refs.now)

pub visit-requires-clause-there : goal.visit-requires-clause-there
visit-requires-clause-there g c =
    each-at (λ at. IsSome (site_at c.args.numbered.now.view.now.segments (place_of at))) c.args.refs.now c.loop-place.place c.ref_at.result c.requires.there c.ref_at.ensures

pub returns-in_err-visit-clause-met : goal.returns-in_err-visit-clause-met
returns-in_err-visit-clause-met g c =
    let (light, count, leads) = c.loop-place.invariant in
    let segments = c.args.numbered.now.view.now.segments in
    let known = c.args.numbered.now.known.now in
    let rule : ℕ × Rule = (c.args.numbered.now.number, c.args.numbered.now.rule.now) in
    let p = err_from_is_err_and c.from_residual.result c.from_residual.ensures.1 in
    rw (p.1, p.2) (stops-at (gives_at segments known rule) known c.in_err-visit.field-0.0 (Found c.loop-place.found)
    (walk_from known c.args.found.now (items_over (sites_named segments c.args.refs.now) known rule))
    c.args.refs.now c.loop-place.place c.ref_at.result c.ref_at.ensures leads c.in_err-visit.ensures.met)

pub loop-place-preserved : goal.loop-place-preserved
loop-place-preserved g c =
    let (light, count, leads) = c.loop-place.invariant in
    let segments = c.args.numbered.now.view.now.segments in
    let known = c.args.numbered.now.known.now in
    let rule : ℕ × Rule = (c.args.numbered.now.number, c.args.numbered.now.rule.now) in
    let step = c.visit.ensures.step in (
      c.in_ok-visit.ensures.light,
      omega (arith, count, step),
      goes-on (gives_at segments known rule) known (Found c.loop-place.found) (Found c.visit.new.found)
          (walk_from known c.args.found.now (items_over (sites_named segments c.args.refs.now) known rule))
          c.args.refs.now c.loop-place.place c.ref_at.result c.ref_at.ensures leads c.in_ok-visit.ensures.met,
    )
