-- A law of marks that go on.
use Rattle.std.specs.Prelude.{ℕ, ◌≡◌, List}
use Rattle.od_mark.specs.declared.mark.Mark.{Mark}
use Rattle.od_mark.specs.Marks.{marks_by}
use Rattle.od_turn.specs.Rule.{Continues, NamesOther}

-- a caller's own marks among all are those among the marks that it has seen
abbrev pub OwnMarksStay : Type 0
OwnMarksStay =
    (n : ℕ) (seen marks : List Mark) → Continues (NamesOther n) seen marks → marks_by n marks ≡ marks_by n seen
