use Rattle.od_surface.proofs.Verdicts.{not_ended, all_read, refused_so}
use Rattle.od_surface.proofs.text.up_to_end.Goals as goal

pub returns-in-Some-clause-goes : goal.returns-in-Some-clause-goes
returns-in-Some-clause-goes c = refused_so c.unexpected.result _ _ c.unexpected.ensures
    (not_ended _ c.in_ok-pattern.field-0.pattern c.in_ok-pattern.field-0.to _ _ _ c.in_ok-pattern.ensures.goes c.in-Some.ensures.0)

pub returns-in-None-clause-goes : goal.returns-in-None-clause-goes
returns-in-None-clause-goes c = all_read _ c.in_ok-pattern.field-0.pattern c.in_ok-pattern.field-0.to _ c.in_ok-pattern.ensures.goes c.in-None.ensures
