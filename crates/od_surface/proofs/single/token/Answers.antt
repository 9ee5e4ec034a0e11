use Rattle.od_surface.proofs.Within.{token_read, token_fails}
use Rattle.od_surface.proofs.single.token.Goals as goal

pub returns-in-Ok-clause-goes : goal.returns-in-Ok-clause-goes
returns-in-Ok-clause-goes c = λ x l e h a s k. token_read c.args.places c.args.depth x l _ _ c.in-Ok.c a s k e h c.in-Ok.ensures.goes

pub returns-in-Err-clause-goes : goal.returns-in-Err-clause-goes
returns-in-Err-clause-goes c = λ x l e h a s k. token_fails c.args.places c.in-Err.e c.args.depth x l _ a s k _ _ e h c.in-Err.ensures.goes
