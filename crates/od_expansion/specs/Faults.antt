-- Why a text has no expansion.
use Rattle.std.specs.Prelude.{◌≡◌, ℕ, ◌<◌, List, length, Ok, Err}
use Rattle.od_rule_text.specs.declared.limits.TheConstants.{PATTERN_BYTES}
use Rattle.od_rule_text.specs.declared.rule_file.KeyText.{KeyText}
use Rattle.od_rule_text.specs.Expansion.{unknown, cycle, expanded}
use Rattle.od_expansion.specs.declared.expander.ExpansionFault.{ExpansionFault}
use Rattle.od_expansion.specs.declared.expander.ExpansionFault.TheVariants as fault
use Rattle.od_expansion.specs.declared.walk.Stop.{Stop}
use Rattle.od_expansion.specs.declared.walk.Stop.TheVariants as stop

-- the misfit of a text, or that its expansion is too long; that memory was refused says nothing
abbrev pub IsExpansionFault : List KeyText → List ℕ → ExpansionFault → Type 0
IsExpansionFault vars text fault.UnknownVar = expanded vars text ≡ Err unknown
IsExpansionFault vars text (fault.VarCycle var) = expanded vars text ≡ Err (cycle var)
IsExpansionFault vars text fault.TooLong = (long : List ℕ) × (expanded vars text ≡ Ok long) × (PATTERN_BYTES < length long)
IsExpansionFault vars text fault.NoMemory = Unit {0}

-- the fault that a walk ended with
abbrev pub IsFaultOf : Stop → ExpansionFault → Type 0
IsFaultOf stop.Unknown f = f ≡ fault.UnknownVar
IsFaultOf (stop.Cycle name) f = f ≡ fault.VarCycle name
IsFaultOf stop.NoMemory f = f ≡ fault.NoMemory
