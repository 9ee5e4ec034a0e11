-- The bytes that a script is written as, and which scripts are written so that they read back.
use Rattle.std.specs.Prelude.{ℕ, ◌≤◌, ◌^◌, ◌≡◌, ◌==◌, ◌&&◌, Bool, true, List, [], ◌∷◌, ◌++◌, length, map, flat_map, not, nat_lt, codes, decimal, Result, Ok, Err}
use Rattle.std.specs.Io.BufRead.{ends_with_byte}
use Rattle.std.specs.List.{concat, join_with_byte, list_all}
use Rattle.std.specs.Str.{is_utf8}
use Rattle.od_text.specs.Lists.{Each}
use Rattle.od_pattern.specs.declared.grammar.GrammarKind.{GrammarKind}
use Rattle.od_pattern.specs.declared.grammar.GrammarKind.TheVariants.{RuleFile, Query}
use Rattle.od_pattern.specs.declared.grammar.Head.{Head}
use Rattle.od_command.specs.declared.history.Command.{Command}
use Rattle.od_command.specs.declared.history.Command.TheVariants.{AddDoc, OpenSession, Step, Resume, Print, Release, Settle}
use Rattle.od_order.specs.declared.script.Order.{Order}
use Rattle.od_order.specs.declared.script.Order.TheVariants.{One, Run}
use Rattle.od_order.specs.declared.script.Script.{Script}
use Rattle.od_order.specs.declared.script.TheConstants.{SCRIPT_BYTES, NUMBER_DIGITS}
use Rattle.od_order.specs.Laws.{IsFew}
use Rattle.od_order.specs.Lines.{whole_lines}
use Rattle.od_order.specs.Names.{is_name, IsProper}
use Rattle.od_script.specs.declared.script.ScriptFault.{ScriptFault}
use Rattle.od_script.specs.declared.script.ScriptFault.TheVariants.{NoMemory}

-- ## What is written

-- a line of words, one space between two
abbrev pub line_of : List (List ℕ) → List ℕ
line_of words = join_with_byte 32 words ++ 10 ∷ []

-- how many lines bytes have
abbrev pub line_count : List ℕ → ℕ
line_count bytes = length (whole_lines bytes)

-- a keyword and a name, with how many lines follow, and these lines
abbrev pub block_bytes : (keyword name block : List ℕ) → List ℕ
block_bytes keyword name block = line_of (keyword ∷ name ∷ decimal (line_count block) ∷ []) ++ block

abbrev pub grammar_bytes : GrammarKind → (name text : List ℕ) → List ℕ
grammar_bytes RuleFile name text = block_bytes (codes "grammar") name text
grammar_bytes Query name pattern = line_of (codes "query" ∷ name ∷ pattern ∷ [])

abbrev pub head_bytes : Head → List ℕ
head_bytes head = grammar_bytes head.kind head.name head.text

abbrev pub command_bytes : Command → List ℕ
command_bytes (AddDoc name body) = block_bytes (codes "doc") name body
command_bytes (OpenSession session grammar limit) = line_of (codes "open" ∷ session ∷ grammar ∷ decimal limit ∷ [])
command_bytes (Step session) = line_of (codes "step" ∷ session ∷ [])
command_bytes (Resume session) = line_of (codes "resume" ∷ session ∷ [])
command_bytes (Print session) = line_of (codes "print" ∷ session ∷ [])
command_bytes (Release session) = line_of (codes "release" ∷ session ∷ [])
command_bytes Settle = line_of (codes "settle" ∷ [])

abbrev pub order_bytes : Order → List ℕ
order_bytes (One command) = command_bytes command
order_bytes (Run session) = line_of (codes "run" ∷ session ∷ [])

-- a client begins, and has its orders
abbrev pub client_statements : List Order → List (List ℕ)
client_statements orders = line_of (codes "client" ∷ []) ∷ map order_bytes orders

-- the statements, each a line with its block: the heads in order, then client by client
abbrev pub statements : Script → List (List ℕ)
statements script = map head_bytes script.heads ++ flat_map client_statements script.clients

abbrev pub script_bytes : Script → List ℕ
script_bytes script = concat (statements script)

-- ## What can be written

-- a text that a line can end with: no line feed is in it, and no carriage return is its last byte
abbrev pub ends_a_line : List ℕ → Bool
ends_a_line text = is_utf8 text && (list_all (λ b. not (b == 10)) text && not (ends_with_byte 13 text))

abbrev pub is_grammar_text : GrammarKind → List ℕ → Bool
is_grammar_text RuleFile text = is_utf8 text
is_grammar_text Query pattern = ends_a_line pattern

abbrev pub IsHead : Head → Type 0
IsHead head = (is_name head.name ≡ true) × (is_grammar_text head.kind head.text ≡ true)

-- a limit has no more digits than a number may have
abbrev pub has_short_limit : Command → Bool
has_short_limit (OpenSession session grammar limit) = nat_lt limit (10 ^ NUMBER_DIGITS)
has_short_limit command = true

abbrev pub IsOrder : Order → Type 0
IsOrder (One command) = IsProper command × (has_short_limit command ≡ true)
IsOrder (Run session) = is_name session ≡ true

-- each but the last ends with a line feed; only a block could lack it
abbrev pub AreApart : List (List ℕ) → Type 0
AreApart [] = Unit {0}
AreApart (statement ∷ []) = Unit {0}
AreApart (statement ∷ next ∷ more) = (ends_with_byte 10 statement ≡ true) × AreApart (next ∷ more)

-- the scripts that are written so that they read back
pub record IsWritable (script : Script) : Type 0 where
  pub few : IsFew script
  pub heads : Each IsHead script.heads
  pub orders : Each (Each IsOrder) script.clients
  pub apart : AreApart (statements script)
  pub short : length (script_bytes script) ≤ SCRIPT_BYTES

-- what was read is this script; or memory was refused
abbrev pub ReadsBack : Script → Result Script ScriptFault → Type 0
ReadsBack script (Ok read) = read ≡ script
ReadsBack script (Err fault) = fault ≡ NoMemory
