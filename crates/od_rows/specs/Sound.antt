-- Which rows are sound: they are well formed, and their lists are those of the rounds.
use Rattle.od_row.specs.declared.rows.Rows.{Rows}
use Rattle.od_model.specs.Object.Sound.{IsSound}
use Rattle.od_rows.specs.Formed.{WellFormed}
use Rattle.od_rows.specs.Loaded.{load}

pub record AreSound (rows : Rows) : Type 0 where
  pub formed : WellFormed rows
  pub sound : IsSound (load rows)
