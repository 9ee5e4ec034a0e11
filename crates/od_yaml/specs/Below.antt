-- The lines that belong to a key, of those below it.
use Rattle.std.specs.Prelude.{◌≡◌, ℕ, ◌+◌, ◌≤◌, List, length, drop}
use Rattle.std.specs.Str.Lines.{lines}
use Rattle.od_yaml.specs.declared.below.Below.{Below}

-- these lines belong to it, of those of a text, and the others are left
pub record IsBelow (own : List (List ℕ)) (text : List ℕ) (below : Below) : Type 0 where
  pub lines_are : below.lines ≡ length own
  pub rest_is : lines below.rest.now ≡ drop (length own) (lines text)
  pub short : below.lines + length below.rest.now ≤ length text
