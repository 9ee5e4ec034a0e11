-- The instructions of a pattern.
use Rattle.std.specs.Prelude.{ℕ, zero, suc, ◌+◌, ◌-◌, ◌*◌, Bool, List, [], ◌∷◌, ◌++◌, length, Option, Some, None, if◌then◌else◌, nat_le}
use Rattle.od_asked.specs.Asked.{asked_surface}
use Rattle.od_machine.specs.declared.instruction.Instruction.{Instruction}
use Rattle.od_machine.specs.declared.instruction.Instruction.TheVariants.{Take, Jump, Peek, AtFirst, AtLast, Split, Skip, Turn, Turned, Again, Open, Close, Fail, Match}
use Rattle.od_pattern.specs.declared.pattern.Surface.{Surface, Row_of-Surface, end_of-Surface, more_of-Surface}
use Rattle.od_pattern.specs.declared.pattern.Surface.TheVariants.{Token, Label, Look, First, Last, Seq', Alt', Repeat', Capture'}

-- up to n further turns, each of which the program leaves by the same place
abbrev pub turns_code : Bool → List Instruction → ℕ → List Instruction
turns_code lazy body zero = []
turns_code lazy body (suc n) =
    Turn lazy (length body + (1 + length (turns_code lazy body n)))
    ∷ (body ++ (Turned ∷ turns_code lazy body n))

-- any number of further turns
abbrev pub endless_code : Bool → List Instruction → List Instruction
endless_code lazy body = Turn lazy (length body + 1) ∷ (body ++ (Again lazy (length body) ∷ []))

-- n turns without a choice, and then the rest
abbrev pub times_code : List Instruction → ℕ → List Instruction → List Instruction
times_code body zero rest = rest
times_code body (suc n) rest = body ++ times_code body n rest

-- a repeat: the least turns, and then further ones; without a way where the least is above the most
abbrev pub repeat_code : Bool → List Instruction → ℕ → Option ℕ → List Instruction
repeat_code lazy body least None = times_code body least (endless_code lazy body)
repeat_code lazy body least (Some most) =
    if nat_le least most
    then times_code body least (turns_code lazy body (most - least))
    else Fail ∷ []

-- how many constraints a pattern asks for
abbrev pub constraints : Surface → ℕ
constraints p = length (asked_surface p)

unfoldable mutual
  -- the instructions of a pattern whose first constraint has the number n
  pub code_of : ℕ → Surface → List Instruction
  code_of n (Token c) = Take n ∷ []
  code_of n (Label name) = Jump name ∷ []
  code_of n (Look ahead positive c) = Peek ahead positive n ∷ []
  code_of n First = AtFirst ∷ []
  code_of n Last = AtLast ∷ []
  code_of n (Seq' v row) = code_in_order n row
  code_of n (Alt' v row) = code_one_of n row
  code_of n (Repeat' v (more_of-Surface body end_of-Surface) turns) =
      repeat_code turns.lazy (code_of n body) turns.least turns.most
  code_of n (Capture' name v (more_of-Surface body end_of-Surface)) =
      Open name ∷ (code_of n body ++ Close ∷ [])

  -- the parts one after another
  pub code_in_order : ℕ → {m : _} → Row_of-Surface m → List Instruction
  code_in_order n end_of-Surface = []
  code_in_order n (more_of-Surface p rest) = code_of n p ++ code_in_order (n + constraints p) rest

  -- one of the parts, the first of them first
  pub code_one_of : ℕ → {m : _} → Row_of-Surface m → List Instruction
  code_one_of n end_of-Surface = Fail ∷ []
  code_one_of n (more_of-Surface p rest) =
      Split (length (code_of n p) + 1)
      ∷ (code_of n p
      ++ (Skip (length (code_one_of (n + constraints p) rest)) ∷ code_one_of (n + constraints p) rest))

-- how many constraints the patterns of a list ask for
abbrev pub constraints_list : List Surface → ℕ
constraints_list [] = 0
constraints_list (p ∷ ps) = constraints p + constraints_list ps

-- the instructions of the patterns of a list one after another
abbrev pub code_list : ℕ → List Surface → List Instruction
code_list n [] = []
code_list n (p ∷ ps) = code_of n p ++ code_list (n + constraints p) ps

-- the instructions of one of the patterns of a list
abbrev pub code_any : ℕ → List Surface → List Instruction
code_any n [] = Fail ∷ []
code_any n (p ∷ ps) =
    Split (length (code_of n p) + 1)
    ∷ (code_of n p ++ (Skip (length (code_any (n + constraints p) ps)) ∷ code_any (n + constraints p) ps))

-- how many instructions a repeat has whose body has s
abbrev pub repeat_size : ℕ → ℕ → Option ℕ → ℕ
repeat_size s least None = least * s + (s + 2)
repeat_size s least (Some most) =
    if nat_le least most then least * s + (most - least) * (s + 2) else 1

unfoldable mutual
  -- how many instructions a pattern has
  pub code_size : Surface → ℕ
  code_size (Token c) = 1
  code_size (Label name) = 1
  code_size (Look ahead positive c) = 1
  code_size First = 1
  code_size Last = 1
  code_size (Seq' v row) = order_size row
  code_size (Alt' v row) = any_size row
  code_size (Repeat' v (more_of-Surface body end_of-Surface) turns) =
      repeat_size (code_size body) turns.least turns.most
  code_size (Capture' name v (more_of-Surface body end_of-Surface)) = code_size body + 2

  -- how many the parts one after another have
  pub order_size : {m : _} → Row_of-Surface m → ℕ
  order_size end_of-Surface = 0
  order_size (more_of-Surface p rest) = code_size p + order_size rest

  -- how many the choice of a part has
  pub any_size : {m : _} → Row_of-Surface m → ℕ
  any_size end_of-Surface = 1
  any_size (more_of-Surface p rest) = (code_size p + 2) + any_size rest

-- how many the patterns of a list have one after another
abbrev pub order_size_list : List Surface → ℕ
order_size_list [] = 0
order_size_list (p ∷ ps) = code_size p + order_size_list ps

-- how many the choice of a pattern of a list has
abbrev pub any_size_list : List Surface → ℕ
any_size_list [] = 1
any_size_list (p ∷ ps) = (code_size p + 2) + any_size_list ps

-- a pattern's instructions, and the end
unfoldable pub program_of : Surface → List Instruction
program_of p = code_of 0 p ++ Match ∷ []
