-- A script whose grammars are made ready.
use Rattle.od_order.specs.declared.script.Script.{Script}
use Rattle.od_serve.specs.declared.serve.Ready.{Ready}

-- the script
abbrev pub script_in : {R : Type 0} → Ready R → Script
script_in ready = record { heads = ready.heads; clients = ready.clients }
