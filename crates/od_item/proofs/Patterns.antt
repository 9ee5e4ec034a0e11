-- What the parsers of patterns answer.
use Rattle.std.proofs.Common.{◌≡◌, ℕ, Result, Ok, Err, ap}
use Rattle.od_pattern.specs.declared.rule.Body.{Body}
use Rattle.od_language.specs.declared.pattern_fault.PatternFault.{PatternFault}
use Rattle.od_language.specs.declared.pattern_fault.PatternFault.TheVariants as fault
use Rattle.od_language.specs.declared.pattern_fault.PatternKind.{PatternKind}
use Rattle.od_language.specs.Answers.{IfBad}
use Rattle.od_language.specs.WholeRuns.{IsVerdict}
use Rattle.od_rule_text.specs.Grammars.{Parsed, read_as}
use Rattle.od_item.specs.Answers.{TellsPattern}

abbrev refused : {X : Type 0} → PatternFault → Result X PatternFault
refused f = Err f

module _ {X : Type 0} (body : X → Body) (Value : X → Type 0) (Fault : ℕ → PatternKind → Type 0) (parsed : Parsed X) (is : IsVerdict Value Fault parsed) where
  -- a value as a body
  pub value_as : (x : X) → Value x → read_as body parsed ≡ Ok (body x)
  value_as x v = ap (read_as body) ((is.value x).0 v)

  -- a fault as that of a body
  pub fault_as : (f : PatternFault) → IfBad (refused {X = X} f) Fault → TellsPattern (refused {X = Body} f) (read_as body parsed)
  fault_as fault.NoMemory u = tt
  fault_as (fault.Bad at k) u = ap (read_as body) ((is.fault at k).0 u)
