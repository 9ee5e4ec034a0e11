-- Worked cases: scripts, and the bytes that they are written as.
use Rattle.std.specs.Prelude.{◌≡◌, [], ◌∷◌, ◌++◌, codes}
use Rattle.od_pattern.specs.declared.grammar.GrammarKind.TheVariants.{RuleFile, Query}
use Rattle.od_command.specs.declared.history.Command.TheVariants.{AddDoc, OpenSession, Resume, Settle}
use Rattle.od_order.specs.declared.script.Order.TheVariants.{One, Run}
use Rattle.od_order.specs.declared.script.Script.{Script}
use Rattle.od_script.specs.Written.{script_bytes, IsWritable}

-- two grammars and two clients; the document is two lines, the second of which is no text
abbrev pub two_clients : Script
two_clients = record {
  heads = record { name = codes "g"; kind = RuleFile; text = codes "- name: a\n\n" } ∷ record { name = codes "q"; kind = Query; text = codes "dogs  bark" } ∷ [];
  clients = (One (AddDoc (codes "d") (codes "client\n" ++ 255 ∷ 10 ∷ [])) ∷ One (OpenSession (codes "s") (codes "q") 5) ∷ []) ∷ (One (Resume (codes "s")) ∷ Run (codes "s") ∷ One Settle ∷ []) ∷ [];
}

-- one document, the last line of which is not ended
abbrev pub one_document : Script
one_document = record { heads = []; clients = (One (AddDoc (codes "e") (codes "x\ny")) ∷ []) ∷ [] }

pub record WrittenCases : Type 0 where
  pub written : script_bytes two_clients ≡ codes "grammar g 2\n- name: a\n\nquery q dogs  bark\nclient\ndoc d 2\nclient\n" ++ 255 ∷ codes "\nopen s q 5\nclient\nresume s\nrun s\nsettle\n"
  pub writable : IsWritable two_clients
  pub unended : script_bytes one_document ≡ codes "client\ndoc e 2\nx\ny"
  pub unended_writable : IsWritable one_document
