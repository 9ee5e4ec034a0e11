-- Marks: the history that they stand for, what one may be, and whose it is.
use Rattle.std.specs.Prelude.{ℕ, ◌==◌, List, [], ◌∷◌, ◌++◌, Option, Some, None, filter}
use Rattle.od_command.specs.declared.history.Entry.{Entry}
use Rattle.od_mark.specs.declared.mark.Mark.{Mark}

-- an entry that may be absent, as a list
abbrev pub entry_list : Option Entry → List Entry
entry_list None = []
entry_list (Some entry) = entry ∷ []

-- the history that marks stand for: their entries, in order
abbrev pub entries_of : List Mark → List Entry
entries_of [] = []
entries_of (mark ∷ marks) = entry_list mark.entry ++ entries_of marks

-- the marks that a caller left, in order
abbrev pub marks_by : ℕ → List Mark → List Mark
marks_by caller marks = filter (λ mark. mark.caller == caller) marks
