use Rattle.std.proofs.Common.{Some, drop, refl}
use Rattle.od_syntax.specs.Told.{told}
use Rattle.od_hop.specs.Reading.{on_behind}
use Rattle.od_hop.proofs.Joins.{behind_single, behind_choices, refused_there}
use Rattle.od_hop.proofs.surface.without_choices.Goals as goal

pub returns-then-surface-clause-goes : goal.returns-then-surface-clause-goes
returns-then-surface-clause-goes c = λ again h p. behind_single again (on_behind again (Some (h, p)) c.args.surface.single c.args.surface.pattern (told (drop c.args.surface.to c.args.lexemes.now)))
    c.args.surface.single c.args.surface.pattern h p (told (drop c.args.surface.to c.args.lexemes.now)) c.if-surface.true refl

pub returns-clause-goes : goal.returns-clause-goes
returns-clause-goes c = λ again h p. refused_there c.unexpected.result _ _ (on_behind again (Some (h, p)) c.args.surface.single c.args.surface.pattern (told (drop c.args.surface.to c.args.lexemes.now))) _ c.unexpected.ensures
    (behind_choices again (on_behind again (Some (h, p)) c.args.surface.single c.args.surface.pattern (told (drop c.args.surface.to c.args.lexemes.now)))
    c.args.surface.single c.args.surface.pattern h p (drop c.args.surface.to c.args.lexemes.now) c.if-surface.false refl)
