use Rattle.std.proofs.Common.{◌≡◌, ◌-◌, ◌≤◌, drop, length, false}
use Rattle.od_language.specs.Forms as forms
use Rattle.od_lex.proofs.scan.regex.Given as goal

abbrev pub invariant-loop-c : goal.invariant-loop-c
invariant-loop-c l = record {
  on : l.from ≤ l.i;
  is : forms.regex false (drop l.from l.chars) ≡ forms.before l.text (forms.regex l.paired (drop l.i l.chars));
}

abbrev pub decreases-loop-c : goal.decreases-loop-c
decreases-loop-c l = length l.chars - l.i
