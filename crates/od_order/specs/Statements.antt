-- What a line of a script says on its own, or why it says nothing.
use Rattle.std.specs.Prelude.{ℕ, ◌==◌, ◌&&◌, Bool, true, false, List, [], ◌∷◌, Option, Some, None, Result, Ok, Err, if◌then◌else◌, bytes_eq, codes}
use Rattle.std.specs.List.{slice_split}
use Rattle.od_text.specs.Cuts.{split_once}
use Rattle.od_command.specs.declared.history.Command.TheVariants.{AddDoc, OpenSession, Step, Resume, Print, Release, Settle}
use Rattle.od_order.specs.declared.keyword.Keyword.{Keyword}
use Rattle.od_order.specs.declared.keyword.Keyword.TheVariants as keyword
use Rattle.od_order.specs.declared.script.Order.{Order}
use Rattle.od_order.specs.declared.script.Order.TheVariants.{One, Run}
use Rattle.od_order.specs.declared.script_kind.ScriptKind.{ScriptKind}
use Rattle.od_order.specs.declared.script_kind.ScriptKind.TheVariants.{Shape, BadName, BadNumber}
use Rattle.od_order.specs.Lines.{says_nothing}
use Rattle.od_order.specs.Names.{is_name, script_number}

-- ## The first word

-- the pieces between single spaces
abbrev pub words_of : List ℕ → List (List ℕ)
words_of text = slice_split (λ b. b == 32) text

-- the first of some words, between which one space stands each
abbrev pub first_word : List (List ℕ) → List ℕ
first_word [] = []
first_word (word ∷ words) = word

-- the keyword that a word is
abbrev pub keyword_of : List ℕ → Option Keyword
keyword_of word =
    if bytes_eq word (codes "grammar") then Some keyword.Grammar else
    if bytes_eq word (codes "query") then Some keyword.Query else
    if bytes_eq word (codes "client") then Some keyword.Client else
    if bytes_eq word (codes "doc") then Some keyword.Doc else
    if bytes_eq word (codes "open") then Some keyword.Open else
    if bytes_eq word (codes "step") then Some keyword.Step else
    if bytes_eq word (codes "run") then Some keyword.Run else
    if bytes_eq word (codes "resume") then Some keyword.Resume else
    if bytes_eq word (codes "print") then Some keyword.Print else
    if bytes_eq word (codes "release") then Some keyword.Release else
    if bytes_eq word (codes "settle") then Some keyword.Settle else
    None

-- the keyword that a text begins with
abbrev pub keyword_in : List ℕ → Option Keyword
keyword_in text = keyword_of (first_word (words_of text))

-- whether it begins a head: a grammar of the script
abbrev pub begins_head : Keyword → Bool
begins_head keyword.Grammar = true
begins_head keyword.Query = true
begins_head k = false

-- whether it begins an order of a client
abbrev pub begins_order : Keyword → Bool
begins_order keyword.Grammar = false
begins_order keyword.Query = false
begins_order keyword.Client = false
begins_order k = true

-- ## Statements

-- what a line says
pub data Statement : Type 0 where
  -- a rule file: its name, and how many of the next lines it has
  rules : List ℕ → ℕ → Statement
  -- a query: its name and its pattern
  query : List ℕ → List ℕ → Statement
  -- the next client begins
  client : Statement
  -- a document that is to be committed: its name, and how many of the next lines it has
  document : List ℕ → ℕ → Statement
  -- any other order
  order : Order → Statement

-- a line says this, or has a fault
abbrev pub Saying : Type 0
Saying = Result Statement ScriptKind

-- with a number, where the word is one
abbrev pub numbered : (ℕ → Statement) → Option ℕ → Saying
numbered says None = Err BadNumber
numbered says (Some n) = Ok (says n)

-- a keyword alone
abbrev pub alone : Statement → List (List ℕ) → Saying
alone says (first ∷ []) = Ok says
alone says words = Err Shape

-- a keyword and a name
abbrev pub naming : (List ℕ → Statement) → List (List ℕ) → Saying
naming says (first ∷ name ∷ []) = if is_name name then Ok (says name) else Err BadName
naming says words = Err Shape

-- a keyword, a name and a number
abbrev pub counting : (List ℕ → ℕ → Statement) → List (List ℕ) → Saying
counting says (first ∷ name ∷ count ∷ []) = if is_name name then numbered (says name) (script_number count) else Err BadName
counting says words = Err Shape

-- `open SESSION GRAMMAR LIMIT`
abbrev pub opening : List (List ℕ) → Saying
opening (first ∷ session ∷ grammar ∷ limit ∷ []) =
    if is_name session && is_name grammar then numbered (λ n. order (One (OpenSession session grammar n))) (script_number limit) else Err BadName
opening words = Err Shape

-- `NAME PATTERN`; the pattern is all that stands behind the space
abbrev pub querying : Option (List ℕ × List ℕ) → Saying
querying None = Err Shape
querying (Some (name, pattern)) = if is_name name then Ok (query name pattern) else Err BadName

-- what stands behind the keyword of a query
abbrev pub query_parts : Option (List ℕ × List ℕ) → Option (List ℕ × List ℕ)
query_parts None = None
query_parts (Some (first, rest)) = split_once 32 rest

-- what a line says that begins with a keyword
abbrev pub statement_of : Keyword → List ℕ → Saying
statement_of keyword.Grammar text = counting rules (words_of text)
statement_of keyword.Query text = querying (query_parts (split_once 32 text))
statement_of keyword.Client text = alone client (words_of text)
statement_of keyword.Doc text = counting document (words_of text)
statement_of keyword.Open text = opening (words_of text)
statement_of keyword.Step text = naming (λ name. order (One (Step name))) (words_of text)
statement_of keyword.Run text = naming (λ name. order (Run name)) (words_of text)
statement_of keyword.Resume text = naming (λ name. order (One (Resume name))) (words_of text)
statement_of keyword.Print text = naming (λ name. order (One (Print name))) (words_of text)
statement_of keyword.Release text = naming (λ name. order (One (Release name))) (words_of text)
statement_of keyword.Settle text = alone (order (One Settle)) (words_of text)

-- ## Blocks

-- how many of the next lines belong to a statement
abbrev pub block_count : Saying → ℕ
block_count (Ok (rules name count)) = count
block_count (Ok (document name count)) = count
block_count saying = 0

-- the same, where its keyword is known
abbrev pub block_with : List ℕ → Option Keyword → ℕ
block_with text None = 0
block_with text (Some k) = block_count (statement_of k text)

-- how many of the next lines belong to a line, which its text alone tells
abbrev pub block_behind : List ℕ → ℕ
block_behind text = if says_nothing text then 0 else block_with text (keyword_in text)
