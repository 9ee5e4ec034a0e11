-- Laws of the definitions on marks.
use Rattle.std.specs.Prelude.{◌≡◌, List, ◌++◌}
use Rattle.od_mark.specs.declared.mark.Mark.{Mark}
use Rattle.od_mark.specs.Marks.{entries_of}

-- the history of marks that go on is the history of the first, and then that of the others
abbrev pub HistoriesJoin : Type 0
HistoriesJoin =
    (first second : List Mark) → entries_of (first ++ second) ≡ entries_of first ++ entries_of second
