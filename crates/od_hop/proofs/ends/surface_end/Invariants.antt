use Rattle.std.proofs.Common.{◌≡◌, ◌+◌, ◌-◌, ◌≤◌, true, false, drop, length}
use Rattle.od_language.specs.Alphabet.{plain, kinds}
use Rattle.od_syntax.specs.Told.{leads_to_steps}
use Rattle.od_hop.specs.Ends.{before_end}
use Rattle.od_hop.proofs.ends.surface_end.Given as goal

abbrev pub invariant-loop-x : goal.invariant-loop-x
invariant-loop-x l = record {
  from : l.from ≤ l.i;
  on : l.i ≤ length l.lexemes;
  few : l.depth ≤ l.i;
  clear : l.clear ≡ true → leads_to_steps (kinds plain (drop l.i l.lexemes)) ≡ false;
  is : l.from + before_end l.narrow false 0 (drop l.from l.lexemes) ≡ l.i + before_end l.narrow l.within l.depth (drop l.i l.lexemes);
}

abbrev pub decreases-loop-x : goal.decreases-loop-x
decreases-loop-x l = length l.lexemes - l.i
