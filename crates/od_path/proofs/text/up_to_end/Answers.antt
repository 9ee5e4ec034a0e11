use Rattle.od_path.proofs.Texts.{ends_there, past_tells}
use Rattle.od_path.proofs.text.up_to_end.Goals as goal

pub returns-in-Some-clause-goes : goal.returns-in-Some-clause-goes
returns-in-Some-clause-goes c = past_tells (λ x. x.path) c.unexpected.result c.in_ok-path.field-0.path c.in_ok-path.field-0.to c.args.lexemes.now _ c.in-Some.field-0.now
    c.in_ok-path.ensures.goes c.in-Some.ensures.0 c.unexpected.ensures

pub returns-in-None-clause-goes : goal.returns-in-None-clause-goes
returns-in-None-clause-goes c = ends_there c.in_ok-path.field-0.path c.in_ok-path.field-0.to c.args.lexemes.now c.in_ok-path.ensures.goes c.in-None.ensures
