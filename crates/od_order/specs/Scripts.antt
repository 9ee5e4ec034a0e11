-- The script that bytes are, or the line and the kind of its first fault: a fold over its lines.
use Rattle.std.specs.Prelude.{ℕ, zero, suc, ◌+◌, ◌&&◌, ◌||◌, Bool, true, false, List, [], ◌∷◌, ◌++◌, length, take, sum_by, Option, Some, None, Result, Ok, Err, if◌then◌else◌, nat_le, nat_lt, bytes_eq, not}
use Rattle.std.specs.List.{list_any, concat}
use Rattle.od_pattern.specs.declared.grammar.GrammarKind.TheVariants.{RuleFile, Query}
use Rattle.od_pattern.specs.declared.grammar.Head.{Head}
use Rattle.od_language.specs.Machine.{◌>>=◌}
use Rattle.od_command.specs.declared.history.Command.TheVariants.{AddDoc}
use Rattle.od_order.specs.declared.keyword.Keyword.{Keyword}
use Rattle.od_order.specs.declared.script.Order.{Order}
use Rattle.od_order.specs.declared.script.Order.TheVariants.{One}
use Rattle.od_order.specs.declared.script.Script.{Script}
use Rattle.od_order.specs.declared.script.TheConstants.{SCRIPT_BYTES, HEADS, CLIENTS, ORDERS}
use Rattle.od_order.specs.declared.script_kind.ScriptKind.{ScriptKind}
use Rattle.od_order.specs.declared.script_kind.ScriptKind.TheVariants.{TooLong, NotUtf8, BadWord, LateHead, NoClient, SameHead, ShortBlock, TooMany}
use Rattle.od_order.specs.Lines.{whole_lines, line_text, says_nothing, has_bad_byte, lines_before_bad_byte}
use Rattle.od_order.specs.Statements.{keyword_in, begins_head, begins_order, Statement, rules, query, client, document, order, Saying, statement_of, block_behind}

-- ## Lines that belong to no block

-- a line that belongs to no block: its number from 1, its bytes with what ends them, and the lines behind it
pub record ScriptLine : Type 0 where
  pub number : ℕ
  pub line : List ℕ
  pub behind : List (List ℕ)

-- what a line says
abbrev pub text_at : ScriptLine → List ℕ
text_at p = line_text p.line

-- its keyword
abbrev pub keyword_at : ScriptLine → Option Keyword
keyword_at p = keyword_in (text_at p)

-- of lines, the first of which has the number n, those that belong to no block;
-- the first k of them belong to the block of a line before
abbrev pub script_lines : (n k : ℕ) → List (List ℕ) → List ScriptLine
script_lines n k [] = []
script_lines n (suc k) (line ∷ lines) = script_lines (n + 1) k lines
script_lines n zero (line ∷ lines) =
    record { number = n; line = line; behind = lines } ∷ script_lines (n + 1) (block_behind (line_text line)) lines

-- the bytes of the block of so many lines
abbrev pub block_at : ScriptLine → ℕ → List ℕ
block_at p count = concat (take count p.behind)

-- ## What was said so far

-- a script, or the line and the kind of its first fault
abbrev pub Reading : Type 0
Reading = Result Script (ℕ × ScriptKind)

-- before the first line
abbrev pub nothing_said : Script
nothing_said = record { heads = []; clients = [] }

-- whether a client has begun
abbrev pub has_client : Script → Bool
has_client s = nat_lt 0 (length s.clients)

-- whether a head has this name
abbrev pub has_head : List ℕ → List Head → Bool
has_head name heads = list_any (λ head. bytes_eq head.name name) heads

-- the orders of all clients
abbrev pub order_count : List (List Order) → ℕ
order_count clients = sum_by (λ orders. length orders) clients

-- clients, the last of which has one order more
abbrev pub with_order : Order → List (List Order) → List (List Order)
with_order x [] = []
with_order x (orders ∷ []) = (orders ++ x ∷ []) ∷ []
with_order x (orders ∷ next ∷ more) = orders ∷ with_order x (next ∷ more)

-- ## One line

-- why a keyword may not stand where it stands
abbrev pub misplaced : Script → Keyword → Option ScriptKind
misplaced s k =
    if begins_head k && has_client s then Some LateHead else
    if begins_order k && not (has_client s) then Some NoClient else
    None

-- why a head of a name may not come, where a block of so many lines belongs to it
abbrev pub head_fault : Script → List ℕ → ScriptLine → ℕ → Option ScriptKind
head_fault s name p count =
    if has_head name s.heads then Some SameHead else
    if nat_lt (length p.behind) count then Some ShortBlock else
    if nat_le HEADS (length s.heads) then Some TooMany else
    None

-- why an order may not come, where a block of so many lines belongs to it
abbrev pub order_fault : Script → ScriptLine → ℕ → Option ScriptKind
order_fault s p count =
    if nat_lt (length p.behind) count then Some ShortBlock else
    if nat_le ORDERS (order_count s.clients) then Some TooMany else
    None

-- why a client may not begin
abbrev pub client_fault : Script → Option ScriptKind
client_fault s = if nat_le CLIENTS (length s.clients) then Some TooMany else None

-- what follows, unless there is a fault at this line
abbrev pub unless_fault : ℕ → Option ScriptKind → Reading → Reading
unless_fault n None reading = reading
unless_fault n (Some kind) reading = Err (n, kind)

abbrev pub with_head : Script → Head → Script
with_head s head = record s { heads = s.heads ++ head ∷ [] }

-- with a rule file, all of which must be UTF-8
abbrev pub with_rules : Script → ScriptLine → List ℕ → List ℕ → Reading
with_rules s p name text =
    if has_bad_byte text then Err (p.number + 1 + lines_before_bad_byte text, NotUtf8) else
    Ok (with_head s (record { name = name; kind = RuleFile; text = text }))

-- with what a line says
abbrev pub take_statement : Script → ScriptLine → Statement → Reading
take_statement s p (rules name count) = unless_fault p.number (head_fault s name p count) (with_rules s p name (block_at p count))
take_statement s p (query name pattern) =
    unless_fault p.number (head_fault s name p 0) (Ok (with_head s (record { name = name; kind = Query; text = pattern })))
take_statement s p client = unless_fault p.number (client_fault s) (Ok (record s { clients = s.clients ++ [] ∷ [] }))
take_statement s p (document name count) =
    unless_fault p.number (order_fault s p count) (Ok (record s { clients = with_order (One (AddDoc name (block_at p count))) s.clients }))
take_statement s p (order x) = unless_fault p.number (order_fault s p 0) (Ok (record s { clients = with_order x s.clients }))

abbrev pub take_saying : Script → ScriptLine → Saying → Reading
take_saying s p (Err kind) = Err (p.number, kind)
take_saying s p (Ok statement) = take_statement s p statement

abbrev pub take_keyword : Script → ScriptLine → Option Keyword → Reading
take_keyword s p None = Err (p.number, BadWord)
take_keyword s p (Some k) = unless_fault p.number (misplaced s k) (take_saying s p (statement_of k (text_at p)))

-- with one line more, or its first fault
abbrev pub take_line : Script → ScriptLine → Reading
take_line s p =
    if has_bad_byte p.line then Err (p.number, NotUtf8) else
    if says_nothing (text_at p) then Ok s else
    take_keyword s p (keyword_at p)

-- ## The script

-- line by line
abbrev pub script_after : Script → List ScriptLine → Reading
script_after s [] = Ok s
script_after s (p ∷ more) = take_line s p >>= λ next. script_after next more

-- the script that bytes are, or its first fault
unfoldable pub script_of : List ℕ → Reading
script_of bytes =
    if nat_lt SCRIPT_BYTES (length bytes) then Err (0, TooLong) else script_after nothing_said (script_lines 1 0 (whole_lines bytes))
