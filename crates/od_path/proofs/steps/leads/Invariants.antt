use Rattle.std.proofs.Common.{◌≡◌, ◌-◌, drop, length}
use Rattle.od_language.specs.Alphabet.{plain, kinds}
use Rattle.od_syntax.specs.Told.{leads_to_steps}
use Rattle.od_path.proofs.steps.leads.Given as goal

abbrev pub invariant-loop-x : goal.invariant-loop-x
invariant-loop-x l = leads_to_steps (kinds plain (drop l.from l.lexemes)) ≡ leads_to_steps (kinds plain (drop l.i l.lexemes))

abbrev pub decreases-loop-x : goal.decreases-loop-x
decreases-loop-x l = length l.lexemes - l.i
