-- Worked cases: scripts, and the first fault of others.
use Rattle.std.specs.Prelude.{◌≡◌, ℕ, List, [], ◌∷◌, ◌++◌, Ok, Err, codes}
use Rattle.od_pattern.specs.declared.grammar.GrammarKind.TheVariants.{RuleFile, Query}
use Rattle.od_command.specs.declared.history.Command.TheVariants.{AddDoc, OpenSession, Step, Settle}
use Rattle.od_order.specs.declared.script.Order.TheVariants.{One, Run}
use Rattle.od_order.specs.declared.script.Script.{Script}
use Rattle.od_order.specs.declared.script_kind.ScriptKind.{ScriptKind}
use Rattle.od_order.specs.declared.script_kind.ScriptKind.TheVariants.{NotUtf8, BadWord, LateHead, NoClient, Shape, BadName, BadNumber, SameHead, ShortBlock}
use Rattle.od_order.specs.Scripts.{script_of}

-- lines, each ended by a line feed
abbrev pub ended : List (List ℕ) → List ℕ
ended [] = []
ended (line ∷ lines) = line ++ 10 ∷ ended lines

abbrev pub IsScript : List (List ℕ) → Script → Type 0
IsScript lines script = script_of (ended lines) ≡ Ok script

abbrev pub HasFault : List (List ℕ) → ℕ → ScriptKind → Type 0
HasFault lines line kind = script_of (ended lines) ≡ Err (line, kind)

-- scripts, as they are read
pub record ScriptCases : Type 0 where
  -- no byte is a script that asks nothing
  pub empty : script_of [] ≡ Ok (record { heads = []; clients = [] })
  -- empty lines and comments say nothing; a line may end with a carriage return too
  pub skipped : IsScript (codes "# a" ∷ [] ∷ (13 ∷ []) ∷ (codes "client" ++ 13 ∷ []) ∷ []) (record { heads = []; clients = [] ∷ [] })
  -- the last line needs no line feed
  pub unended : script_of (codes "client\nsettle") ≡ Ok (record { heads = []; clients = (One Settle ∷ []) ∷ [] })
  -- the pattern of a query is the rest of its line, with all spaces
  pub query : IsScript (codes "query q  a" ∷ codes "query r " ∷ [])
      (record { heads = record { name = codes "q"; kind = Query; text = codes " a" } ∷ record { name = codes "r"; kind = Query; text = [] } ∷ []; clients = [] })
  -- a rule file has its lines as they stand, with their ends; the lines of a block are no lines of the script
  pub rules : IsScript (codes "grammar g 2" ∷ codes "# x" ∷ codes "client" ∷ codes "client" ∷ [])
      (record { heads = record { name = codes "g"; kind = RuleFile; text = codes "# x\nclient\n" } ∷ []; clients = [] ∷ [] })
  -- a document may be of no line, and its last line may end with the script
  pub documents : script_of (codes "client\ndoc d 0\n" ++ codes "doc e 1\nx") ≡ Ok
      (record { heads = []; clients = (One (AddDoc (codes "d") []) ∷ One (AddDoc (codes "e") (codes "x")) ∷ []) ∷ [] })
  -- each client has its own orders; a limit may be any number
  pub clients : IsScript (codes "client" ∷ codes "open s q 500" ∷ codes "run s" ∷ codes "client" ∷ codes "client" ∷ codes "step s" ∷ [])
      (record { heads = []; clients = (One (OpenSession (codes "s") (codes "q") 500) ∷ Run (codes "s") ∷ []) ∷ [] ∷ (One (Step (codes "s")) ∷ []) ∷ [] })

-- the first fault, of lines that have more than one
pub record FaultCases : Type 0 where
  -- a skipped line must be UTF-8 too, and a bad byte comes before a bad word
  pub not_utf8 : HasFault (codes "client" ∷ (35 ∷ 255 ∷ []) ∷ codes "x" ∷ []) 2 NotUtf8
  pub not_utf8_first : HasFault ((255 ∷ []) ∷ []) 1 NotUtf8
  -- within a rule file at its own line, and after what is wrong with the head's line
  pub rules_not_utf8 : HasFault (codes "grammar g 2" ∷ codes "a" ∷ (255 ∷ []) ∷ codes "x" ∷ []) 3 NotUtf8
  pub short_first : HasFault (codes "grammar g 3" ∷ codes "a" ∷ (255 ∷ []) ∷ []) 1 ShortBlock
  -- a document's bytes are not looked at here
  pub any_bytes : HasFault (codes "client" ∷ codes "doc d 1" ∷ (255 ∷ []) ∷ codes "x" ∷ []) 4 BadWord
  -- words are compared as they stand
  pub bad_word : HasFault (codes "Client" ∷ []) 1 BadWord
  pub blank : HasFault (codes " " ∷ []) 1 BadWord
  pub two_returns : HasFault ((codes "settle" ++ 13 ∷ 13 ∷ []) ∷ []) 1 BadWord
  pub lone_return : script_of (codes "client" ++ 13 ∷ []) ≡ Err (1, BadWord)
  -- where a line may not stand comes before what it says
  pub late_head : HasFault (codes "client" ∷ codes "query q" ∷ codes "x" ∷ []) 2 LateHead
  pub no_client : HasFault (codes "step" ∷ []) 1 NoClient
  -- the number of words, then names, then numbers
  pub shape : HasFault (codes "query q" ∷ []) 1 Shape
  pub too_many_words : HasFault (codes "grammar ? 1 1" ∷ []) 1 Shape
  pub client_shape : HasFault (codes "client " ∷ []) 1 Shape
  pub bad_name : HasFault (codes "query  a" ∷ []) 1 BadName
  pub name_first : HasFault (codes "client" ∷ codes "open s ? x" ∷ []) 2 BadName
  pub bad_number : HasFault (codes "grammar g 01" ∷ codes "query g" ∷ []) 1 BadNumber
  pub long_number : HasFault (codes "client" ∷ codes "doc d 1234567890" ∷ []) 2 BadNumber
  -- then the name of an earlier head, then the lines that are left
  pub same_head : HasFault (codes "query q a" ∷ codes "grammar q 9" ∷ []) 2 SameHead
  pub short_block : HasFault (codes "client" ∷ codes "doc d 2" ∷ codes "x" ∷ []) 2 ShortBlock
