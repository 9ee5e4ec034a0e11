use Rattle.std.proofs.Common.{◌∙◌, sym, rules}
use Rattle.std.proofs.lemmas.List.Sorted.{answers_always, ties_still_rise, IsNonDecreasingBy-from_sort_by_key, list_any-IsPermutation}
use Rattle.od_machine.proofs.Entries.{in_order}
use Rattle.od_machine.specs.Spans.{is_entry}
use Rattle.od_machine.specs.declared.spans.SpanEntry.{SpanEntry}
use Rattle.od_machine.proofs.spans.put_in_order.Goals as goal

pub returns-clause-order : goal.returns-clause-order
returns-clause-order c =
    in_order c.sort_by_key-2.new.self.items
    (IsNonDecreasingBy-from_sort_by_key (λ (e : SpanEntry). e.start) _ c.in_ok-sort_by_key-2.ensures.sorted (λ a r q k. search rules))
    (ties_still_rise (λ (e : SpanEntry). e.end) (λ (e : SpanEntry). e.start) _ _
    (c.in_ok-sort_by_key.ensures.sorted (λ e. e.end) (answers_always _ _ _ (λ f a r g h. search rules)))
    (c.in_ok-sort_by_key-2.ensures.stable (λ e. e.start) (answers_always _ _ _ (λ f a r g h. search rules))))

pub returns-clause-same : goal.returns-clause-same
returns-clause-same c = λ labels lists name i j.
    sym (list_any-IsPermutation (is_entry labels name i j) _ _ c.in_ok-sort_by_key-2.ensures.permutation)
    ∙ sym (list_any-IsPermutation (is_entry labels name i j) _ _ c.in_ok-sort_by_key.ensures.permutation)
    ∙ lists name i j
