use Rattle.std.proofs.Common.{◌≡◌, ℕ, ◌/◌, ◌%◌, ◌^◌, ◌<◌, length, false, sym, ◌∙◌, ap, arith, eqb, get_or}
use Rattle.std.specs.Prelude.{bit_and}
use Rattle.std.proofs.lemmas.List.{get_or_default}
use Rattle.od_machine.specs.Marks.{Visits}
use Rattle.od_machine.proofs.Bits.{marks-length, mark-at, mark-test}
use Rattle.od_machine.proofs.marks.Marks.has.Goals as goal

pub index-requires : goal.index-requires
index-requires c =
    let few : c.args.n < length c.args.self.now.marks = c.requires in
    let len : length c.args.self.now.marks ≡ c.self.inside.count = ap (λ (v : Visits). length v.marks) (sym c.self.view_is) ∙ marks-length c.self.inside.words.items c.self.inside.count in
    omega (arith, c.self.invariant.0, c.self.inside.words.ok)

pub returns : goal.returns
returns c =
    let few : c.args.n < length c.args.self.now.marks = c.requires in
    let len : length c.args.self.now.marks ≡ c.self.inside.count = ap (λ (v : Visits). length v.marks) (sym c.self.view_is) ∙ marks-length c.self.inside.words.items c.self.inside.count in
    let within : c.args.n / 64 < length c.self.inside.words.items = omega (arith, c.self.invariant.0, c.self.inside.words.ok) in
    ap (λ (z : ℕ). eqb (bit_and (z / 2 ^ (c.args.n % 64)) 1) 1) (c.index.ensures ∙ get_or_default c.self.inside.words.items (c.args.n / 64) c.index.result.now 0 within)
    ∙ mark-test c.self.inside.words.items c.args.n
    ∙ sym (mark-at c.self.inside.words.items c.self.inside.count c.args.n (omega arith))
    ∙ ap (λ (v : Visits). get_or v.marks c.args.n false) c.self.view_is
