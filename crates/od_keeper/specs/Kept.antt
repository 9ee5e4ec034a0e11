-- What a keeper that is opened again finds.
use Rattle.std.specs.Prelude.{◌≡◌}
use Rattle.od_row.specs.declared.rows.Rows.{Rows}

-- these rows may be found, and no others
abbrev pub FindsOnly : (Rows → Type 0) → Rows → Type 0
FindsOnly MayFind rows = MayFind rows × ((other : Rows) → MayFind other → other ≡ rows)
