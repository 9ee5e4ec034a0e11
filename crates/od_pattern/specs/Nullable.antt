-- Which patterns can match no token.
use Rattle.std.specs.Prelude.{Bool, true, false, ◌&&◌, ◌||◌, ◌==◌}
use Rattle.od_pattern.specs.declared.pattern.Surface.{Surface, Row_of-Surface, end_of-Surface, more_of-Surface}
use Rattle.od_pattern.specs.declared.pattern.Surface.TheVariants.{Token, Label, Look, First, Last, Seq', Alt', Repeat', Capture'}

abbrev mutual
  -- the pattern can match no token, as far as its form tells
  pub is_nullable : Surface → Bool
  is_nullable (Token c) = false
  is_nullable (Label name) = false
  is_nullable (Look ahead positive c) = true
  is_nullable First = true
  is_nullable Last = true
  is_nullable (Seq' v row) = are_nullable row
  is_nullable (Alt' v row) = is_some_nullable row
  is_nullable (Repeat' v (more_of-Surface p end_of-Surface) turns) = turns.least == 0 || is_nullable p
  is_nullable (Capture' name v (more_of-Surface p end_of-Surface)) = is_nullable p

  -- all of the parts can
  pub are_nullable : {m : _} → Row_of-Surface m → Bool
  are_nullable end_of-Surface = true
  are_nullable (more_of-Surface p rest) = is_nullable p && are_nullable rest

  -- one of the parts can
  pub is_some_nullable : {m : _} → Row_of-Surface m → Bool
  is_some_nullable end_of-Surface = false
  is_some_nullable (more_of-Surface p rest) = is_nullable p || is_some_nullable rest
