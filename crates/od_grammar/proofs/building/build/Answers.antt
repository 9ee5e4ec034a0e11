use Rattle.std.proofs.Common.{List, Ok, sym, ap, ◌∙◌}
use Rattle.od_pattern.specs.declared.rule.Rule.{Rule}
use Rattle.od_grammar.specs.Faults.{accepts_all_but, refused_since}
use Rattle.od_grammar.proofs.Asked.{have_all}
use Rattle.od_grammar.proofs.Wholes.{is_read, long_told, rules_told, whole_told}
use Rattle.od_grammar.proofs.building.build.Goals as goal

pub returns-then-is_passed-clause-err : goal.returns-then-is_passed-clause-err
returns-then-is_passed-clause-err g c =
    long_told (accepts_all_but (refused_since (g.M.PatternMaker.refused c.args.maker.now) (g.M.PatternMaker.refused c.args.maker.now)))
    c.args.kind c.args.text.now c.args.room (sym c.is_passed.ensures ∙ c.if-is_passed.true) c.limit_fault.result c.limit_fault.ensures

pub returns-in-Err-clause-err : goal.returns-in-Err-clause-err
returns-in-Err-clause-err g c =
    rules_told (accepts_all_but (refused_since (g.M.PatternMaker.refused c.args.maker.now) (g.M.PatternMaker.refused c.args.maker.now)))
    c.args.kind c.args.text.now c.args.room (sym c.is_passed.ensures ∙ c.if-is_passed.false) c.in-Err.fault c.in-Err.ensures.err

pub returns-in-Err-make_runners-clause-err : goal.returns-in-Err-make_runners-clause-err
returns-in-Err-make_runners-clause-err g c =
    whole_told (accepts_all_but (refused_since (g.M.PatternMaker.refused c.args.maker.now) (g.M.PatternMaker.refused c.make_runners.new.maker)))
    c.args.kind c.args.text.now c.args.room (sym c.is_passed.ensures ∙ c.if-is_passed.false) c.get.result.now
    (c.in-Ok.ensures.ok ∙ ap (λ (z : List Rule). Ok z) (sym c.get.ensures)) c.in-Err-make_runners.fault c.in-Err-make_runners.ensures.err

pub returns-clause-ok : goal.returns-clause-ok
returns-clause-ok g c =
    is_read c.args.kind c.args.text.now c.args.room (sym c.is_passed.ensures ∙ c.if-is_passed.false) c.get.result.now c.in_ok-rules.rules
    (c.in-Ok.ensures.ok ∙ ap (λ (z : List Rule). Ok z) (sym c.get.ensures)) c.in-Ok-make_runners.ensures.none (c.in_ok-rules.ensures ∙ sym c.get.ensures)

pub returns-clause-has : goal.returns-clause-has
returns-clause-has g c =
    have_all c.in-Ok-make_runners.runners c.get.result.now c.in_ok-rules.rules c.in-Ok-make_runners.ensures.patterns (c.in_ok-rules.ensures ∙ sym c.get.ensures)
