use Rattle.std.proofs.Common.{◌≡◌, ◌≤◌, length, sym, ◌∙◌, ap, subst, arith}
use Rattle.od_machine.specs.Marks.{Visits, AreOff, marks_in}
use Rattle.od_machine.proofs.Bits.{marks-length, marks-off}
use Rattle.od_machine.proofs.marks.Marks.clear.Goals as goal

pub clear_bits-requires-clause-inside : goal.clear_bits-requires-clause-inside
clear_bits-requires-clause-inside c =
    let within : c.args.to ≤ length c.args.self.now.marks = c.requires.inside in
    let len : length c.args.self.now.marks ≡ c.self.inside.count = ap (λ (v : Visits). length v.marks) (sym c.self.view_is) ∙ marks-length c.self.inside.words.items c.self.inside.count in
    omega (arith, c.self.invariant.0)

pub returns-clause-off : goal.returns-clause-off
returns-clause-off c =
    subst (λ (v : Visits). AreOff c.args.from c.args.to v.marks (marks_in c.clear_bits.new.words.items c.self.inside.count)) c.self.view_is
    (marks-off c.self.inside.words.items c.clear_bits.new.words.items c.self.inside.count c.args.from c.args.to c.requires.order c.clear_bits.ensures.before c.clear_bits.ensures.bits)
