use Rattle.std.proofs.Common.{◌∙◌, sym, drop}
use Rattle.od_event_text.proofs.Heads.{run_is, one_is}
use Rattle.od_event_text.proofs.head.piece.Goals as goal

pub returns-then-not-is_empty-clause-first : goal.returns-then-not-is_empty-clause-first
returns-then-not-is_empty-clause-first c = c.behind_white-start.ensures.pieces
    ∙ run_is (drop c.behind_white-start.result c.args.chars.now) c.run_at-end.result.0.now (drop c.run_at-end.result.1 c.args.chars.now) c.run_at-end.ensures.part c.run_at-end.ensures.rest (sym c.is_empty.ensures ∙ c.if-not-is_empty.true)

pub returns-in-Some-clause-first : goal.returns-in-Some-clause-first
returns-in-Some-clause-first c = c.behind_white-start.ensures.pieces
    ∙ one_is c.args.chars.now c.run_at-end.result.0.now c.behind_white-start.result c.in-Some.field-0 c.run_at-end.ensures.part (sym c.is_empty.ensures ∙ c.if-not-is_empty.false) c.in-Some.ensures.0 c.behind_white-start.ensures.black
