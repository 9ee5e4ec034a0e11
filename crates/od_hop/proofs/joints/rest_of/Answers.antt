use Rattle.std.proofs.Common.{None, drop, refl, sym, ◌∙◌, ap}
use Rattle.od_syntax.specs.Sizes.{counted, hop_size}
use Rattle.od_syntax.specs.Told.{told}
use Rattle.od_hop.specs.Reading.{on_behind}
use Rattle.od_hop.proofs.Joins.{front_single, led_by}
use Rattle.od_hop.proofs.Verdicts.{alone_goes, hop_alone}
use Rattle.od_hop.proofs.joints.rest_of.Goals as goal

pub returns-then-first-clause-goes : goal.returns-then-first-clause-goes
returns-then-first-clause-goes c = led_by c.joints.result _ _ _
    (front_single c.args.again (on_behind c.args.again None c.args.first.single c.args.first.pattern (told (drop c.args.first.to c.args.lexemes.now)))
    c.args.first.single c.args.first.pattern (told (drop c.args.first.to c.args.lexemes.now)) c.if-first.true refl) c.joints.ensures.goes

pub returns-clause-goes : goal.returns-clause-goes
returns-clause-goes c = alone_goes c.args.again c.args.first.single c.args.first.pattern c.alone_of.result c.args.lexemes.now c.args.first.size c.args.first.to c.alone_of.ensures c.if-first.false

pub returns-clause-size : goal.returns-clause-size
returns-clause-size c = c.alone_of.ensures.1 ∙ c.requires.1 ∙ hop_alone c.args.first.pattern ∙ ap (λ z. counted (hop_size z)) (sym c.alone_of.ensures.0)
