use Rattle.std.proofs.Common.{◌+◌, ◌++◌, ◌∷◌, [], List, ℕ, ◌∙◌, ap, arith, rules}
use Rattle.std.specs.Prelude.{IsErrOf}
use Rattle.od_io.specs.declared.makers.MakeFault.TheVariants.{Refused}
use Rattle.od_grammar.proofs.Refusals.{told_one, told_refusal}
use Rattle.od_grammar.proofs.making.make_all.Goals as goal

pub returns-in-Err-Refused-clause-err : goal.returns-in-Err-Refused-clause-err
returns-in-Err-Refused-clause-err g c =
    let refused : IsErrOf c.add.result Refused = search rules in
    told_refusal c.args.found.now c.loop-one.one-index c.loop-one.made c.one-item.result (g.M.PatternMaker.refused c.args.maker.now)
    (g.M.PatternMaker.refused c.add.new.maker) c.requires.new (omega (arith, c.loop-one-test.true)) c.one-item.is c.loop-one.invariant.at
    (c.add.ensures.refused refused
    ∙ ap (λ (z : List (List ℕ)). z ++ c.one-item.result.expression.now ∷ []) c.loop-one.invariant.same)

pub returns-in-Err-Refused-clause-told : goal.returns-in-Err-Refused-clause-told
returns-in-Err-Refused-clause-told g c =
    let refused : IsErrOf c.add.result Refused = search rules in
    told_one c.one-item.result.rule (c.loop-one.made + 1) (g.M.PatternMaker.refused c.args.maker.now) (g.M.PatternMaker.refused c.add.new.maker)
    c.one-item.result.expression.now
    (c.add.ensures.refused refused
    ∙ ap (λ (z : List (List ℕ)). z ++ c.one-item.result.expression.now ∷ []) c.loop-one.invariant.same)
