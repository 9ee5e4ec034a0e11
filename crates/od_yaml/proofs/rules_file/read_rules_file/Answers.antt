use Rattle.std.proofs.Common.{◌+◌, ◌∙◌, ◌∷◌, Err, ap, sym, arith}
use Rattle.std.specs.Str.Lines.{lines}
use Rattle.od_rule_text.specs.Statements.{statements}
use Rattle.od_rule_text.specs.RuleFiles.{rule_file_of, file_after, file_of, items_of}
use Rattle.od_yaml.proofs.Steps.{back}
use Rattle.od_yaml.proofs.rules_file.read_rules_file.Goals as goal

pub loop-line-init : goal.loop-line-init
unfolding rule_file_of
loop-line-init c = record {
  utf8 = c.utf8.text;
  said = ap (λ o. file_after o (statements 1 0 (lines c.args.text.now))) (sym c.new-reader.ensures);
  few = omega arith;
}

pub returns-in-Err-clause-reads_back : goal.returns-in-Err-clause-reads_back
returns-in-Err-clause-reads_back c =
    back c.args.text.now (file_after c.loop-line.reader (statements (c.loop-line.passed + 1) 0 (c.in-Some.line.now ∷ lines c.in-Some.more.now))) (Err c.in-Err.fault)
    (c.loop-line.invariant.said ∙ ap (λ ls. file_after c.loop-line.reader (statements (c.loop-line.passed + 1) 0 ls)) c.in-Some.ensures.lines_are)
    tt c.in-Err.ensures.fault

pub returns-clause-reads_back : goal.returns-clause-reads_back
returns-clause-reads_back c =
    back c.args.text.now (file_of c.loop-line.reader (items_of c.loop-line.reader)) c.close.result
    (c.loop-line.invariant.said ∙ ap (λ ls. file_after c.loop-line.reader (statements (c.loop-line.passed + 1) 0 ls)) c.in_default.ensures)
    c.close.ensures.file c.close.ensures.fault
