use Rattle.std.proofs.Common.{◌≡◌, ℕ, ◌*◌, ◌/◌, ◌%◌, ◌^◌, ◌<◌, length, true, set, get_or, sym, ◌∙◌, ap, arith}
use Rattle.std.specs.Prelude.{bit_or}
use Rattle.std.proofs.lemmas.List.{get_or_default}
use Rattle.od_machine.specs.Marks.{Visits, marks_in}
use Rattle.od_machine.proofs.Bits.{marks-length, marks-set, named-set}
use Rattle.od_machine.proofs.marks.Marks.set.Goals as goal

pub index-word-requires : goal.index-word-requires
index-word-requires c =
    let few : c.args.n < length c.args.self.now.marks = c.requires.inside in
    let len : length c.args.self.now.marks ≡ c.self.inside.count = ap (λ (v : Visits). length v.marks) (sym c.self.view_is) ∙ marks-length c.self.inside.words.items c.self.inside.count in
    omega (arith, c.self.invariant.0, c.self.inside.words.ok)

pub index_mut-requires : goal.index_mut-requires
index_mut-requires c =
    let few : c.args.n < length c.args.self.now.marks = c.requires.inside in
    let len : length c.args.self.now.marks ≡ c.self.inside.count = ap (λ (v : Visits). length v.marks) (sym c.self.view_is) ∙ marks-length c.self.inside.words.items c.self.inside.count in
    omega (arith, c.self.invariant.0, c.self.inside.words.ok)

pub invariant_of-self-2 : goal.invariant_of-self-2
invariant_of-self-2 c =
    let words = c.self.inside.words.items in
    let few : c.args.n < length c.args.self.now.marks = c.requires.inside in
    let len : length c.args.self.now.marks ≡ c.self.inside.count = ap (λ (v : Visits). length v.marks) (sym c.self.view_is) ∙ marks-length words c.self.inside.count in
    let within : c.args.n / 64 < length words = omega (arith, c.self.invariant.0, c.self.inside.words.ok) in
    let word : c.index-word.result.now ≡ get_or words (c.args.n / 64) 0 = c.index-word.ensures ∙ get_or_default words (c.args.n / 64) c.index-word.result.now 0 within in (
      c.self.invariant.0,
      named-set words c.self.inside.used.items c.note_word.new.used.items (c.args.n / 64) _ c.self.invariant.1 c.in_ok-note_word.ensures.kept (λ blank. c.in_ok-note_word.ensures.noted (word ∙ blank)),
    )

pub returns-clause-marks : goal.returns-clause-marks
returns-clause-marks c =
    let words = c.self.inside.words.items in
    let n = c.args.n in
    let count = c.self.inside.count in
    let few : n < length c.args.self.now.marks = c.requires.inside in
    let len : length c.args.self.now.marks ≡ count = ap (λ (v : Visits). length v.marks) (sym c.self.view_is) ∙ marks-length words count in
    let within : n / 64 < length words = omega (arith, c.self.invariant.0, c.self.inside.words.ok) in
    let word : c.index-word.result.now ≡ get_or words (n / 64) 0 = c.index-word.ensures ∙ get_or_default words (n / 64) c.index-word.result.now 0 within in
    ap (λ (z : ℕ). marks_in (set words (n / 64) (bit_or z (1 * 2 ^ (n % 64) % 2 ^ 64))) count) word
    ∙ marks-set words count n (omega arith) within
    ∙ ap (λ (v : Visits). set v.marks n true) c.self.view_is
