-- The moves of a path.
use Rattle.std.specs.Prelude.{ℕ, zero, suc, ◌+◌, ◌-◌, ◌*◌, List, [], ◌∷◌, ◌++◌, length, Option, Some, None, if◌then◌else◌, nat_le}
use Rattle.od_asked.specs.Asked.{asked_path}
use Rattle.od_pattern.specs.declared.pattern.Value.{Value}
use Rattle.od_pattern.specs.declared.path.Path.{Path, Row_of-Path, end_of-Path, more_of-Path}
use Rattle.od_pattern.specs.declared.path.Path.TheVariants as path
use Rattle.od_reach.specs.declared.moves.Move.{Move}
use Rattle.od_reach.specs.declared.moves.Move.TheVariants.{Along, Against, Stay, Fork, Skip, Back, Fail}

-- the row of a label's value; where any label will do there is none
abbrev pub row_for : ℕ → Option Value → Option ℕ
row_for n None = None
row_for n (Some value) = Some n

-- up to n further turns, each of which the moves leave by the same place
abbrev pub turns_code : List Move → ℕ → List Move
turns_code body zero = []
turns_code body (suc n) =
    Fork (length body + length (turns_code body n)) ∷ (body ++ turns_code body n)

-- any number of further turns
abbrev pub endless_code : List Move → List Move
endless_code body = Fork (length body + 1) ∷ (body ++ (Back (length body + 1) ∷ []))

-- n turns without a choice, and then the rest
abbrev pub times_code : List Move → ℕ → List Move → List Move
times_code body zero rest = rest
times_code body (suc n) rest = body ++ times_code body n rest

-- a repeat: the least turns, and then further ones; without a way where the least is above the most
abbrev pub repeat_code : List Move → ℕ → Option ℕ → List Move
repeat_code body least None = times_code body least (endless_code body)
repeat_code body least (Some most) =
    if nat_le least most then times_code body least (turns_code body (most - least)) else Fail ∷ []

-- how many rows a path asks for
abbrev pub rows_of : Path → ℕ
rows_of p = length (asked_path p)

unfoldable mutual
  -- the moves of a path whose first row has the number n
  pub code_of : ℕ → Path → List Move
  code_of n (path.Along value) = Along (row_for n value) ∷ []
  code_of n (path.Against value) = Against (row_for n value) ∷ []
  code_of n (path.Filter c) = Stay n ∷ []
  code_of n (path.Seq' v row) = code_in_order n row
  code_of n (path.Alt' v row) = code_one_of n row
  code_of n (path.Repeat' v (more_of-Path body end_of-Path) least most) =
      repeat_code (code_of n body) least most

  -- the paths one after another
  pub code_in_order : ℕ → {m : _} → Row_of-Path m → List Move
  code_in_order n end_of-Path = []
  code_in_order n (more_of-Path p rest) = code_of n p ++ code_in_order (n + rows_of p) rest

  -- one of the paths
  pub code_one_of : ℕ → {m : _} → Row_of-Path m → List Move
  code_one_of n end_of-Path = Fail ∷ []
  code_one_of n (more_of-Path p rest) =
      Fork (length (code_of n p) + 1)
      ∷ (code_of n p
      ++ (Skip (length (code_one_of (n + rows_of p) rest)) ∷ code_one_of (n + rows_of p) rest))

-- how many rows the paths of a list ask for
abbrev pub rows_list : List Path → ℕ
rows_list [] = 0
rows_list (p ∷ ps) = rows_of p + rows_list ps

-- the moves of the paths of a list one after another
abbrev pub code_list : ℕ → List Path → List Move
code_list n [] = []
code_list n (p ∷ ps) = code_of n p ++ code_list (n + rows_of p) ps

-- the moves of one of the paths of a list
abbrev pub code_any : ℕ → List Path → List Move
code_any n [] = Fail ∷ []
code_any n (p ∷ ps) =
    Fork (length (code_of n p) + 1)
    ∷ (code_of n p ++ (Skip (length (code_any (n + rows_of p) ps)) ∷ code_any (n + rows_of p) ps))

-- how many moves a repeat has whose body has s
abbrev pub repeat_size : ℕ → ℕ → Option ℕ → ℕ
repeat_size s least None = least * s + (s + 2)
repeat_size s least (Some most) =
    if nat_le least most then least * s + (most - least) * (s + 1) else 1

unfoldable mutual
  -- how many moves a path has
  pub code_size : Path → ℕ
  code_size (path.Along value) = 1
  code_size (path.Against value) = 1
  code_size (path.Filter c) = 1
  code_size (path.Seq' v row) = order_size row
  code_size (path.Alt' v row) = any_size row
  code_size (path.Repeat' v (more_of-Path body end_of-Path) least most) =
      repeat_size (code_size body) least most

  -- how many the paths one after another have
  pub order_size : {m : _} → Row_of-Path m → ℕ
  order_size end_of-Path = 0
  order_size (more_of-Path p rest) = code_size p + order_size rest

  -- how many the choice of a path has
  pub any_size : {m : _} → Row_of-Path m → ℕ
  any_size end_of-Path = 1
  any_size (more_of-Path p rest) = (code_size p + 2) + any_size rest

-- how many the paths of a list have one after another
abbrev pub order_size_list : List Path → ℕ
order_size_list [] = 0
order_size_list (p ∷ ps) = code_size p + order_size_list ps

-- how many the choice of a path of a list has
abbrev pub any_size_list : List Path → ℕ
any_size_list [] = 1
any_size_list (p ∷ ps) = (code_size p + 2) + any_size_list ps
