use Rattle.std.proofs.Common.{◌≡◌, true, false, sym, arith, refl}
use denote.Ref.{Bor}
use Rattle.std.specs.Prelude.{bytes_eq}
use Rattle.od_extraction.specs.declared.mention.Mention.{Mention}
use Rattle.od_plan.proofs.Choosing.{any-place, any-none-more, told-true, told-false}
use Rattle.od_plan.proofs.Parts.{item-there}
use Rattle.od_plan.proofs.labels.some_has.Goals as goal

pub returns-then-same : goal.returns-then-same
returns-then-same c =
    let ms = c.args.mentions.now in
    let k = c.loop-mention.mention-index in
    sym (any-place (λ (m : Bor Mention). bytes_eq m.now.label c.args.name.now) (λ (m : Mention). bytes_eq m.label c.args.name.now) (λ (m : Bor Mention). m.now) ms k c.mention-item.result
    (item-there ms k c.mention-item.result (omega (arith, c.loop-mention-test.true)) c.mention-item.is)
    (told-true c.mention-item.result.now.label c.args.name.now (c.if-same.ensures.0 refl)))

pub loop-mention-preserved : goal.loop-mention-preserved
loop-mention-preserved c =
    let ms = c.args.mentions.now in
    let k = c.loop-mention.mention-index in
    any-none-more (λ (m : Mention). bytes_eq m.label c.args.name.now) (λ (m : Bor Mention). m.now) ms k c.mention-item.result
    (item-there ms k c.mention-item.result (omega (arith, c.loop-mention-test.true)) c.mention-item.is)
    (told-false c.mention-item.result.now.label c.args.name.now (λ e. let q : false ≡ true = c.if-same.ensures.1 e in absurd (cc)))
    c.loop-mention.invariant
