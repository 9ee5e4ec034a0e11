-- The faults that the reader of a rule file tells.
use Rattle.std.specs.Prelude.{◌≡◌, ℕ, Result, Ok, Err}
use Rattle.od_rule_text.specs.declared.rule_file.RuleFile.{RuleFile}
use Rattle.od_rule_text.specs.declared.rule_file.YamlKind.{YamlKind}
use Rattle.od_rule_text.specs.declared.rule_file.YamlFault.{YamlFault}
use Rattle.od_rule_text.specs.declared.rule_file.YamlFault.TheVariants.{Bad, NoMemory}
use Rattle.od_rule_text.specs.RuleFiles.{Outline, Reading}

-- a line has this fault; that memory was refused says nothing
abbrev pub IsFaultAt : ℕ → Result Outline YamlKind → YamlFault → Type 0
IsFaultAt number read (Bad line kind) = (line ≡ number) × (read ≡ Err kind)
IsFaultAt number read NoMemory = Unit {0}

-- a reading has this fault; that memory was refused says nothing
abbrev pub IsFileFault : Reading → YamlFault → Type 0
IsFileFault reading (Bad line kind) = reading ≡ Err (line, kind)
IsFileFault reading NoMemory = Unit {0}

-- what was read is this rule file; or memory was refused
abbrev pub ReadsBack : RuleFile → Result RuleFile YamlFault → Type 0
ReadsBack file (Ok read) = read ≡ file
ReadsBack file (Err fault) = fault ≡ NoMemory
