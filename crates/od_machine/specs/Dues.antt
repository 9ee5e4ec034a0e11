-- How many steps a search may still take.
use Rattle.std.specs.Prelude.{ℕ, zero, suc, ◌+◌, ◌*◌, Bool, not, List, [], ◌∷◌, ◌++◌, length}
use Rattle.od_machine.specs.Machine.{weight}
use Rattle.od_machine.specs.Points.{stretch, runs}
use Rattle.od_machine.specs.declared.points.Points.{Points}
use Rattle.od_machine.specs.declared.thread.Thread.{Thread}

-- a list so many times, end to end
abbrev pub repeated : ℕ → List ℕ → List ℕ
repeated zero row = []
repeated (suc n) row = row ++ repeated n row

-- the sum of the weights whose marks are not set
abbrev pub unset_weight : List ℕ → List Bool → ℕ
unset_weight [] marks = 0
unset_weight (n ∷ ns) [] = 0
unset_weight (n ∷ ns) (mark ∷ marks) = weight (not mark) n + unset_weight ns marks

-- the weights of a place's marks: what a visit of the state leads through before ways can meet
abbrev pub place_weights : Points → List ℕ
place_weights points = runs points.slots ++ runs points.slots

-- the steps that visits of states without their mark may still bring, and what these lead through
unfoldable pub owed : Points → ℕ → List Bool → ℕ
owed points tokens marks = unset_weight (repeated (tokens + 1) (place_weights points)) marks

-- the steps that threads lead through before ways can meet
abbrev pub led_through : Points → List Thread → ℕ
led_through points [] = 0
led_through points (t ∷ ts) = stretch points.slots t.pc + led_through points ts

-- the steps that may still be taken
abbrev pub due : Points → ℕ → List Bool → List Thread → ℕ
due points tokens marks ts = owed points tokens marks + led_through points ts

-- falls with each thread that is taken up
abbrev pub work_left : Points → ℕ → List Bool → List Thread → ℕ
work_left points tokens marks ts = due points tokens marks ts * (tokens + 3) + length ts
