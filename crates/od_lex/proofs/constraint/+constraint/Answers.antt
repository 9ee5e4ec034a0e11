use Rattle.std.proofs.Common.{drop}
use Rattle.od_language.specs.ConstraintMachine.{after, both, negated}
use Rattle.od_lex.proofs.Moves.{leads_through, round_in, round_out}
use Rattle.od_lex.proofs.constraint.+constraint.Goals as goal

pub bare_operand-returns-else-depth-ge-OPEN_BRACKETS-clause-goes : goal.bare_operand-returns-else-depth-ge-OPEN_BRACKETS-clause-goes
bare_operand-returns-else-depth-ge-OPEN_BRACKETS-clause-goes t c = λ _ n a o k. leads_through c.grouped.result _ _ _ _
    (round_in c.args.depth n a o k _ _ c.in-Some.x.now c.in-Some.ensures.0 c.in-RoundOpen.is c.if-depth-ge-OPEN_BRACKETS.false)
    (λ x. round_out c.args.depth (after (both a (negated n x.0)) o k) (drop x.1 c.args.lexemes.now))
    (c.grouped.ensures.goes n a o k)
