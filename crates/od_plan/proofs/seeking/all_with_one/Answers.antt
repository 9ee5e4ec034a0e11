use Rattle.std.proofs.Common.{ℕ, Bool, refl, sym, ap₂, ◌∙◌, take, get_or, arith}
use Rattle.std.specs.List.{list_any, range_with_len}
use Rattle.od_plan.specs.Found.{is_posted, merged}
use Rattle.od_plan.proofs.Filters.{none-kept, merged-kept, same-kept}
use Rattle.od_plan.proofs.Parts.{any-next, item-got}
use Rattle.od_plan.proofs.Walks.{range-ascends}
use Rattle.od_plan.proofs.seeking.all_with_one.Goals as goal

pub loop-number-init : goal.loop-number-init
loop-number-init c = c.new-found.ensures.items ∙ none-kept _ (λ i. refl) (range_with_len 0 c.args.size)

pub loop-number-preserved : goal.loop-number-preserved
loop-number-preserved c =
    let lists = c.args.lists.now in
    let numbers = c.args.numbers.now in
    let k = c.loop-number.number-index in
    let n = get_or numbers k 0 in
    let so-far : ℕ → Bool = λ i. list_any (λ m. is_posted lists m i) (take k numbers) in
    c.in_ok-found.ensures
    ∙ ap₂ merged (c.deref.ensures.value ∙ c.loop-number.invariant) (c.deref-in-loop-number.ensures.value ∙ c.in_ok-more.ensures)
    ∙ merged-kept so-far (is_posted lists n) (range_with_len 0 c.args.size) (range-ascends 0 c.args.size)
    ∙ same-kept _ _ (λ i. sym (any-next (λ m. is_posted lists m i) numbers k n (item-got numbers k 0 (omega (arith, c.loop-number-test.true))))) (range_with_len 0 c.args.size)
