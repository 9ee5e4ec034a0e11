use Rattle.std.proofs.Common.{◌≡◌, ◌+◌, ◌∙◌, true, List, [], cond, sym, ap, subst, arith}
use Rattle.std.specs.Prelude.{Some, slice_get}
use Rattle.od_extraction.specs.declared.mention.RoundResult.{RoundResult}
use Rattle.od_index.specs.Sites.{Site}
use Rattle.od_index.specs.Views.{site_at, sites_seen}
use Rattle.od_matching.specs.Rounds.Round.{items_over}
use Rattle.od_matching.specs.Rounds.Sites.{runs_in}
use Rattle.od_need.specs.Candidates.{candidates}
use Rattle.od_need.specs.Needs.{need_of}
use Rattle.od_pattern.specs.declared.rule.Rule.{Rule}
use Rattle.od_rounds.specs.Gives.{Met}
use Rattle.od_rounds.specs.Looked.{sites_named, walk_from}
use Rattle.od_rounds.specs.Ready.{items_of_rule}
use Rattle.od_segment.specs.Seen.{place_of}
use Rattle.od_rounds.proofs.Lists.{named-all, there-all}
use Rattle.od_rounds.proofs.rules.run_at.Goals as goal

one-rule : (a b : Rule) → Some a ≡ Some b → a ≡ b
one-rule a b e = cc

pub plan_of-plan-requires : goal.plan_of-plan-requires
plan_of-plan-requires g c = omega (arith, c.requires.ready.plans.each, c.requires.place)

pub refs_of-requires : goal.refs_of-requires
refs_of-requires g c =
    let rule = c.rule_at-rule in
    c.requires.ready.plans.plan c.args.place rule.result.now c.plan_of-plan.result.now
    (ap (λ (rs : List Rule). slice_get rs c.args.place) (sym c.rules.ensures) ∙ rule.ensures) c.plan_of-plan.ensures

pub visit_all-requires-clause-there : goal.visit_all-requires-clause-there
visit_all-requires-clause-there g c =
    let round = c.args.round.now in
    let v = round.view.now in
    rw c.deref.ensures.value (there-all (λ at. site_at v.segments (place_of at)) c.in_ok-refs.refs.items
    (candidates (need_of c.rule_at-rule.result.now) (sites_seen v) round.known.now) c.in_ok-refs.ensures)

pub returns-clause-met : goal.returns-clause-met
returns-clause-met g c rule at =
    let round = c.args.round.now in
    let v = round.view.now in
    let known = round.known.now in
    let found = c.args.found.now in
    let here = c.rule_at-rule.result.now in
    let there : List Site = candidates (need_of here) (sites_seen v) known in
    let named : sites_named v.segments c.deref.result.now ≡ there =
    ap (sites_named v.segments) c.deref.ensures.value ∙ named-all (λ at. site_at v.segments (place_of at)) c.in_ok-refs.refs.items there c.in_ok-refs.ensures in
    let runs : runs_in round.number here.priority ≡ true = sym c.holds_round.ensures ∙ c.if-not-holds_round.false in
    let same : here ≡ rule = one-rule here rule (sym c.rule_at-rule.ensures ∙ ap (λ (rs : List Rule). slice_get rs c.args.place) c.rules.ensures ∙ at) in
    subst (λ (z : Rule). Met c.visit_all.result (walk_from known found (items_of_rule round (c.args.place + 1, z))) c.visit_all.new.found) same
    (subst (λ (r : RoundResult). Met c.visit_all.result r c.visit_all.new.found)
    (sym (ap (λ b. walk_from known found (cond b (items_over there known (c.args.place + 1, here)) [])) runs
    ∙ ap (λ ss. walk_from known found (items_over ss known (c.args.place + 1, here))) (sym named)))
    c.visit_all.ensures.met)
