use Rattle.std.proofs.Common.{◌≤◌, ◌^◌, arith}
use Rattle.od_script.proofs.Numbers.{below_nine}
use Rattle.od_script.proofs.words.digits.Goals as goal

pub overflow_mul-number : goal.overflow_mul-number
overflow_mul-number c =
    let small : 10 ^ c.loop-byte.byte-index ≤ 100000000 = below_nine c.loop-byte.byte-index (omega arith) in
    omega (arith, c.loop-byte.invariant.below)

pub overflow_add-number : goal.overflow_add-number
overflow_add-number c =
    let small : 10 ^ c.loop-byte.byte-index ≤ 100000000 = below_nine c.loop-byte.byte-index (omega arith) in
    omega (arith, c.loop-byte.invariant.below)
