use Rattle.std.proofs.Common.{◌≡◌, ◌-◌, ◌≤◌, drop, length, false}
use Rattle.od_language.specs.Forms as forms
use Rattle.od_lex.proofs.scan.quoted.Given as goal

abbrev pub invariant-loop-c : goal.invariant-loop-c
invariant-loop-c l = record {
  on : l.from ≤ l.i;
  is : forms.quoted l.quote false (drop l.from l.chars) ≡ forms.before l.text (forms.quoted l.quote l.escaped (drop l.i l.chars));
}

abbrev pub decreases-loop-c : goal.decreases-loop-c
decreases-loop-c l = length l.chars - l.i
