use Rattle.std.specs.Str.{chars}
use Rattle.od_surface.proofs.Named.{ascend}
use Rattle.od_surface.proofs.Verdicts.{surface_tells, still}
use Rattle.od_surface.proofs.text.surface_at.Goals as goal

pub first_again-requires : goal.first_again-requires
first_again-requires c = ascend _ _ _ _ _ c.deref-lexemes.ensures.value c.in_ok-read.ensures.value

pub returns-clause-tells : goal.returns-clause-tells
returns-clause-tells c = surface_tells c.args.at (chars c.args.text.now) c.deref-lexemes.result.now c.in_ok-read.read.lexemes.items c.in_ok-read.read.fault c.in_ok-again.again
    c.before_lexer.result c.up_to_end.result
    c.in_ok-read.ensures.computed c.deref-lexemes.ensures.value c.in_ok-again.ensures c.before_lexer.ensures c.up_to_end.ensures.goes

pub returns-clause-size : goal.returns-clause-size
returns-clause-size c = still _ _ c.before_lexer.result c.up_to_end.result c.before_lexer.ensures c.up_to_end.ensures.size
