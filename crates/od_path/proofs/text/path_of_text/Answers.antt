use Rattle.std.specs.Str.{chars}
use Rattle.od_path.proofs.Texts.{whole_tells}
use Rattle.od_path.proofs.text.path_of_text.Goals as goal

pub returns-clause-tells : goal.returns-clause-tells
returns-clause-tells c = whole_tells (λ x. x.path) c.up_to_end.result c.before_lexer.result c.args.at (chars c.args.text.now) c.deref-lexemes.result.now c.in_ok-read.read.lexemes.items c.in_ok-read.read.fault
    c.in_ok-read.ensures.computed c.deref-lexemes.ensures.value c.up_to_end.ensures.goes c.before_lexer.ensures
