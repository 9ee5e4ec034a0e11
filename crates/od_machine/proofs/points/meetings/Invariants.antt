use Rattle.std.proofs.Common.{◌≡◌, ℕ, ◌<◌, true, false, length, vec_len}
use Rattle.std.specs.Prelude.{Some, slice_get, slice_index_or}
use Rattle.od_machine.specs.Points.{target_of, IsTarget}
use Rattle.od_machine.specs.declared.instruction.Instruction.{Instruction}
use Rattle.od_machine.proofs.points.meetings.Given as goal

abbrev pub invariant-loop-pc : goal.invariant-loop-pc
invariant-loop-pc l =
    (vec_len l.meets ≡ length l.code)
    × ((k to : ℕ) (x : Instruction) → k < l.pc → slice_get l.code k ≡ Some x → target_of x k ≡ Some to → slice_index_or l.meets.items to true ≡ true)
    × ((k : ℕ) → slice_index_or l.meets.items k false ≡ true → IsTarget l.code k)
