-- Rows with one more.
use Rattle.std.specs.Prelude.{[], ◌∷◌, ◌++◌}
use Rattle.od_row.specs.declared.rows.DocRow.{DocRow}
use Rattle.od_row.specs.declared.rows.SessionRow.{SessionRow}
use Rattle.od_row.specs.declared.rows.RoundRow.{RoundRow}
use Rattle.od_row.specs.declared.rows.Rows.{Rows}

-- one document row more
abbrev pub with_doc : Rows → DocRow → Rows
with_doc rows row = record rows { docs = rows.docs ++ row ∷ [] }

-- one session row more
abbrev pub with_session : Rows → SessionRow → Rows
with_session rows row = record rows { sessions = rows.sessions ++ row ∷ [] }

-- one round row more
abbrev pub with_round : Rows → RoundRow → Rows
with_round rows row = record rows { rounds = rows.rounds ++ row ∷ [] }
