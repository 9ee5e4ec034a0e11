use Rattle.std.proofs.Common.{◌≡◌, ◌/◌, ◌<◌, ◌≤◌, length, get_or, ◌∙◌, arith}
use Rattle.std.proofs.lemmas.List.{get_or_default}
use Rattle.od_machine.proofs.Bits.{cleared-before, cleared-bits, cleared-lower}
use Rattle.od_machine.proofs.marks.clear_bits.Goals as goal

pub loop-k-preserved : goal.loop-k-preserved
loop-k-preserved c =
    let now = c.loop-k.words.items in
    let first = c.args.words.now.items in
    let k = c.loop-k.k in
    let word = c.index_mut.result.now in
    let low : c.args.from / 64 ≤ k = c.loop-k.auto.k in
    let inside : k < length now = omega (arith, c.loop-k.words.ok) in
    let is : word ≡ get_or now k 0 = c.index_mut.ensures.value ∙ get_or_default now k word 0 inside in
    let inv = c.loop-k.invariant in (
      omega (arith, inv.0),
      cleared-before c.args.from c.args.to k word c.outside.result first now low inside is c.outside.ensures inv.1,
      cleared-bits c.args.from c.args.to k word c.outside.result first now low inside is c.outside.ensures inv.1 inv.2,
      cleared-lower c.args.from c.args.to k word c.outside.result first now low inside is c.outside.ensures inv.1 inv.3,
    )
