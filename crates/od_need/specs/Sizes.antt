-- How many needs of several parts stand in a need.
use Rattle.std.specs.Prelude.{ℕ, suc, ◌+◌, List, [], ◌∷◌}
use Rattle.od_need.specs.declared.need.Need.{Need, Row_of-Need, end_of-Need, more_of-Need}
use Rattle.od_need.specs.declared.need.Need.TheVariants.{True, And', Or', Term, Regex, Edge, Label}

unfoldable mutual
  -- of a need
  pub need_size : Need → ℕ
  need_size True = 0
  need_size (And' v row) = suc (needs_size row)
  need_size (Or' v row) = suc (needs_size row)
  need_size (Term field text) = 0
  need_size (Regex field expression) = 0
  need_size (Edge value) = 0
  need_size (Label name) = 0

  -- of each of the needs
  pub needs_size : {m : _} → Row_of-Need m → ℕ
  needs_size end_of-Need = 0
  needs_size (more_of-Need n rest) = need_size n + needs_size rest

-- of the needs of a list
abbrev pub sizes : List Need → ℕ
sizes [] = 0
sizes (n ∷ ns) = need_size n + sizes ns
