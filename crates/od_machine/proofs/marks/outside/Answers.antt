use Rattle.std.proofs.Common.{ℕ, ◌∙◌, ap, arith}
use Rattle.std.specs.Prelude.{if◌then◌else◌, nat_lt}
use Rattle.od_machine.proofs.Bits.{outside_bit}
use Rattle.od_machine.proofs.marks.outside.Goals as goal

pub returns : goal.returns
returns c = λ i h.
    outside_bit c.low_ones.result c.low_ones-2.result c.args.first c.args.from c.args.to i (omega arith) c.requires h
    (c.low_ones.ensures i h ∙ ap (λ (z : ℕ). if nat_lt i z then 1 else 0) c.saturating_sub.ensures) (c.low_ones-2.ensures i h)
