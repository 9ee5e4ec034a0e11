use Rattle.std.proofs.Common.{take}
use Rattle.od_columns.specs.Waiting.{texts}
use Rattle.od_rule_text.specs.Expressions.{appearances_in}
use Rattle.od_grammar.specs.Uses.{IsNoted, uses}
use Rattle.od_grammar.proofs.expressions.note_all.Given as goal

abbrev pub invariant-loop-expression : goal.invariant-loop-expression
invariant-loop-expression l =
    IsNoted (appearances_in l.rule (texts (take l.expression-index l.expressions)))
    l.fn.seen (uses l.fn.found.items) l.seen (uses l.found.items)
