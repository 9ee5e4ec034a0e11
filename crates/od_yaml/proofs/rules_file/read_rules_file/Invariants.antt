use Rattle.std.proofs.Common.{◌≡◌, ◌+◌, ◌≤◌, length}
use denote.Text.{Utf8}
use denote.Shadow.{shadow}
use Rattle.std.specs.Str.Lines.{lines}
use Rattle.od_rule_text.specs.Statements.{statements}
use Rattle.od_rule_text.specs.RuleFiles.{rule_file_of, file_after}
use Rattle.od_yaml.proofs.rules_file.read_rules_file.Given as goal

abbrev pub invariant-loop-line : goal.invariant-loop-line
invariant-loop-line l = record {
  utf8 : shadow (Utf8 l.rest);
  said : rule_file_of l.fn.text ≡ file_after l.reader (statements (l.passed + 1) 0 (lines l.rest));
  few : l.passed + length l.rest ≤ length l.fn.text;
}

abbrev pub decreases-loop-line : goal.decreases-loop-line
decreases-loop-line l = length l.rest
