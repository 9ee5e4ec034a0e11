use Rattle.std.proofs.Common.{◌≡◌, map, take}
use Rattle.od_asked.specs.Tables.{columns_of}
use Rattle.od_columns.specs.Resolved.{asked_in}
use Rattle.od_columns.proofs.tables.rows.Given as goal

abbrev pub invariant-loop-thing : goal.invariant-loop-thing
invariant-loop-thing l =
    l.rows ≡ columns_of l.sentence.sentence (map asked_in (take l.thing-index l.things))
