-- Which surface patterns may match no token, and how large patterns are.
-- A size bounds the instructions that a pattern is run by: what stands in a repeat counts once for each
-- turn.
use Rattle.std.specs.Prelude.{ℕ, suc, ◌+◌, ◌*◌, Bool, true, not, if◌then◌else◌, nat_lt, List, [], ◌∷◌, Option, Some, None}
use Rattle.od_language.specs.declared.limits.TheConstants.{PATTERN_SIZE}
use Rattle.od_pattern.specs.declared.pattern.Surface.{Surface, Row_of-Surface, end_of-Surface, more_of-Surface}
use Rattle.od_pattern.specs.declared.pattern.Surface.TheVariants.{Token, Label, Look, First, Last, Seq', Alt', Repeat', Capture'}
use Rattle.od_pattern.specs.Nullable.{is_nullable}
use Rattle.od_pattern.specs.declared.path.Path.{Path, Row_of-Path, end_of-Path, more_of-Path}
use Rattle.od_pattern.specs.declared.path.Path as path
use Rattle.od_pattern.specs.declared.rule.HopPart.{HopPart}
use Rattle.od_pattern.specs.declared.rule.Hop.{Hop}
use Rattle.od_pattern.specs.declared.rule.Argument.{Argument}
use Rattle.od_pattern.specs.declared.rule.EventRule.{EventRule}

-- a body that may match no token is repeated with a most alone
abbrev pub may_repeat : Surface → Option ℕ → Bool
may_repeat p None = not (is_nullable p)
may_repeat p (Some most) = true

-- any body may be repeated
abbrev pub may_always : Surface → Option ℕ → Bool
may_always p most = true

-- to a most: most times one more than the body; without one: least plus one times that
abbrev pub repeat_size : ℕ → Option ℕ → ℕ → ℕ
repeat_size least None body = suc least * suc body
repeat_size least (Some most) body = most * suc body

abbrev mutual
  pub surface_size : Surface → ℕ
  surface_size (Token c) = 1
  surface_size (Label name) = 1
  surface_size (Look ahead positive c) = 1
  surface_size First = 1
  surface_size Last = 1
  surface_size (Seq' v row) = order_size row
  surface_size (Alt' v row) = choice_size row
  surface_size (Repeat' v (more_of-Surface p end_of-Surface) turns) =
      repeat_size turns.least turns.most (surface_size p)
  surface_size (Capture' name v (more_of-Surface p end_of-Surface)) = 2 + surface_size p

  pub order_size : {m : _} → Row_of-Surface m → ℕ
  order_size end_of-Surface = 0
  order_size (more_of-Surface p rest) = surface_size p + order_size rest

  -- the sum and the number of the parts
  pub choice_size : {m : _} → Row_of-Surface m → ℕ
  choice_size end_of-Surface = 0
  choice_size (more_of-Surface p rest) = suc (surface_size p) + choice_size rest

abbrev mutual
  pub path_size : Path → ℕ
  path_size (path.Along v) = 1
  path_size (path.Against v) = 1
  path_size (path.Filter c) = 1
  path_size (path.Seq' v row) = path_order_size row
  path_size (path.Alt' v row) = path_choice_size row
  path_size (path.Repeat' v (more_of-Path p end_of-Path) least most) =
      repeat_size least most (path_size p)

  pub path_order_size : {m : _} → Row_of-Path m → ℕ
  path_order_size end_of-Path = 0
  path_order_size (more_of-Path p rest) = path_size p + path_order_size rest

  pub path_choice_size : {m : _} → Row_of-Path m → ℕ
  path_choice_size end_of-Path = 0
  path_choice_size (more_of-Path p rest) = suc (path_size p) + path_choice_size rest

-- the parts and the paths to them
abbrev pub parts_size : List HopPart → ℕ
parts_size [] = 0
parts_size (x ∷ more) = path_size x.path + surface_size x.surface + parts_size more

abbrev pub hop_size : Hop → ℕ
hop_size h = surface_size h.first + parts_size h.rest

-- the paths of arguments
abbrev pub paths_size : List Argument → ℕ
paths_size [] = 0
paths_size (x ∷ more) = path_size x.path + paths_size more

abbrev pub event_size : EventRule → ℕ
event_size e = surface_size e.trigger + paths_size e.arguments

-- a size as it is counted: the greatest that a pattern may have, or one more
abbrev pub counted : ℕ → ℕ
counted n = if nat_lt PATTERN_SIZE n then suc PATTERN_SIZE else n
