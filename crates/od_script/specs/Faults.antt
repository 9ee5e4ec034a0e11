-- Why bytes are no script.
use Rattle.std.specs.Prelude.{◌≡◌, ℕ, List, Err}
use Rattle.od_order.specs.Scripts.{Reading, script_of}
use Rattle.od_script.specs.declared.script.ScriptFault.{ScriptFault}
use Rattle.od_script.specs.declared.script.ScriptFault.TheVariants.{Bad, NoMemory}

-- what is read has this fault; that memory was refused says nothing
abbrev pub IsFaultOf : Reading → ScriptFault → Type 0
IsFaultOf reading (Bad line kind) = reading ≡ Err (line, kind)
IsFaultOf reading NoMemory = Unit {0}

-- the first fault of bytes
abbrev pub IsScriptFault : List ℕ → ScriptFault → Type 0
IsScriptFault bytes fault = IsFaultOf (script_of bytes) fault
