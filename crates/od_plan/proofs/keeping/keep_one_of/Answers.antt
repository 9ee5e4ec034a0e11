use Rattle.std.proofs.Common.{ℕ, Bool, refl, sym, ap₂, ◌∙◌, take, get_or, arith}
use Rattle.std.specs.List.{list_any}
use Rattle.od_plan.specs.Found.{is_posted, merged}
use Rattle.od_plan.proofs.Filters.{none-kept, merged-kept, same-kept}
use Rattle.od_plan.proofs.Parts.{any-next, item-got}
use Rattle.od_plan.proofs.keeping.keep_one_of.Goals as goal

pub loop-number-init : goal.loop-number-init
loop-number-init c = c.new-kept.ensures.items ∙ none-kept _ (λ i. refl) c.args.sentences.now

pub loop-number-preserved : goal.loop-number-preserved
loop-number-preserved c =
    let index = c.args.lists.now in
    let numbers = c.args.numbers.now in
    let k = c.loop-number.number-index in
    let n = get_or numbers k 0 in
    let so-far : ℕ → Bool = λ i. list_any (λ m. is_posted index m i) (take k numbers) in
    c.in_ok-kept.ensures
    ∙ ap₂ merged (c.deref.ensures.value ∙ c.loop-number.invariant) (c.deref-in-loop-number.ensures.value ∙ c.in_ok-more.ensures)
    ∙ merged-kept so-far (is_posted index n) c.args.sentences.now c.requires
    ∙ same-kept _ _ (λ i. sym (any-next (λ m. is_posted index m i) numbers k n (item-got numbers k 0 (omega (arith, c.loop-number-test.true))))) c.args.sentences.now
