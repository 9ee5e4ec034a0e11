use Rattle.std.proofs.Common.{◌≡◌, ◌+◌, ◌<◌, length, ap, ◌∙◌, arith}
use Rattle.std.proofs.lemmas.Result.{IfOk-weaker}
use Rattle.od_asked.specs.Texts.{regex_holds}
use Rattle.od_constraint.specs.Fitting.{true_places}
use Rattle.od_constraint.proofs.FittingLemmas.{run-fitting, block-short, same-length}
use Rattle.od_constraint.proofs.fitting.numbers_matching.Goals as goal

pub places-requires : goal.places-requires
places-requires g c =
    let texts = c.texts-first.result.1.now in
    let table = c.args.table.now in
    let few : length table < 4294967296 = omega (arith, c.len-len.ensures.len) in
    let long : length c.deref.result.now ≡ length texts =
    same-length (regex_holds c.args.expression.now) texts c.deref.result.now (c.deref.ensures.value ∙ c.in_ok-truths.ensures.truths) in
    omega (arith, long, block-short table c.args.field c.texts-first.result.0 texts c.texts-first.ensures.adds_none (omega arith) few)

pub returns-clause-numbers : goal.returns-clause-numbers
returns-clause-numbers g c =
    let first = c.texts-first.result.0 in
    IfOk-weaker c.places.result _ _ (λ ns e. run-fitting c.args.table.now c.args.field c.args.expression.now first c.texts-first.result.1.now c.in_ok-truths.truths.items ns.items
    c.texts-first.ensures.has c.texts-first.ensures.adds_none c.in_ok-truths.ensures.truths (e ∙ ap (true_places first) c.deref.ensures.value)) c.places.ensures
