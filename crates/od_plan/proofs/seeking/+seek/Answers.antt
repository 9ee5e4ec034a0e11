use Rattle.std.proofs.Common.{◌≡◌, ℕ, true, List, [], ◌∷◌, length, refl, sym, ap, ◌∙◌, filter, arith, subst}
use Rattle.std.specs.Prelude.{◌==◌}
use Rattle.std.proofs.lemmas.Bool.{eqb-true}
use Rattle.std.specs.List.{list_all, list_any, range_with_len}
use Rattle.std.specs.List.Sorted.{IsStrictlySortedBy}
use Rattle.std.specs.Ordering.{nat_cmp}
use Rattle.std.proofs.lemmas.Result.{IfOk-weaker}
use Rattle.od_plan.specs.Found.{is_posted, label_at, lists_of, wanted_at}
use Rattle.od_plan.specs.declared.wanted.Wanted.{Wanted}
use Rattle.od_plan.proofs.Built.{wanted-nowhere, wanted-everywhere, wanted-term, wanted-one_of, wanted-label, wanted-all, wanted-any}
use Rattle.od_plan.proofs.Filters.{none-kept, all-kept, same-kept, kept-ascends}
use Rattle.od_plan.proofs.Parts.{any-step, any-end, all-of-one, item-there}
use Rattle.od_plan.proofs.Walks.{range-ascends}
use Rattle.od_plan.proofs.seeking.+seek.Goals as goal

abbrev all_in : ℕ → List ℕ
all_in n = range_with_len 0 n

pub all_of-returns-in-Nowhere : goal.all_of-returns-in-Nowhere
all_of-returns-in-Nowhere t c =
    let s = c.args.searched.now in
    c.new.ensures.items ∙ none-kept (wanted_at s c.args.wanted.now)
    (λ i. ap (λ (w : Wanted). wanted_at s w i) c.in-Nowhere.is ∙ wanted-nowhere _ _) (all_in (length s.segment.now.sites))

pub all_of-returns-in-Everywhere : goal.all_of-returns-in-Everywhere
all_of-returns-in-Everywhere t c =
    let s = c.args.searched.now in
    IfOk-weaker c.every.result _ _ (λ v e. e ∙ ap all_in c.size-size.ensures ∙ all-kept (wanted_at s c.args.wanted.now)
    (λ i. ap (λ (w : Wanted). wanted_at s w i) c.in-Everywhere.is ∙ wanted-everywhere _ _) (all_in (length s.segment.now.sites))) c.every.ensures

pub all_of-returns-in-Term : goal.all_of-returns-in-Term
all_of-returns-in-Term t c =
    let s = c.args.searched.now in
    let n = c.in-Term.number in
    IfOk-weaker c.all_with.result _ _ (λ v e. e ∙ ap (λ ls. filter (is_posted ls n) (all_in c.size-size.result)) c.lists-lists.ensures.lists
    ∙ ap (λ m. filter (is_posted (lists_of s.segment.now) n) (all_in m)) c.size-size.ensures
    ∙ same-kept (is_posted (lists_of s.segment.now) n) (wanted_at s c.args.wanted.now)
    (λ i. sym (ap (λ (w : Wanted). wanted_at s w i) c.in-Term.is ∙ wanted-term _ _ n)) (all_in (length s.segment.now.sites))) c.all_with.ensures

pub all_of-returns-in-OneOf : goal.all_of-returns-in-OneOf
all_of-returns-in-OneOf t c =
    let s = c.args.searched.now in
    IfOk-weaker c.all_with_one.result _ _ (λ v e. e ∙ ap (λ ls. filter (λ i. list_any (λ n. is_posted ls n i) c.get.result.now) (all_in c.size-size.result)) c.lists-lists.ensures.lists
    ∙ ap (λ m. filter (λ i. list_any (λ n. is_posted (lists_of s.segment.now) n i) c.get.result.now) (all_in m)) c.size-size.ensures
    ∙ same-kept _ (wanted_at s c.args.wanted.now)
    (λ i. ap (list_any (λ n. is_posted (lists_of s.segment.now) n i)) c.get.ensures
    ∙ sym (ap (λ (w : Wanted). wanted_at s w i) c.in-OneOf.is ∙ wanted-one_of _ _ c.in-OneOf.numbers)) (all_in (length s.segment.now.sites))) c.all_with_one.ensures

pub all_of-returns-in_ok-all-in-Label : goal.all_of-returns-in_ok-all-in-Label
all_of-returns-in_ok-all-in-Label t c =
    let s = c.args.searched.now in
    IfOk-weaker c.keep_label.result _ _ (λ v e. e ∙ ap (filter (label_at s c.in-Label.name)) (c.deref.ensures.value ∙ c.in_ok-all-in-Label.ensures ∙ ap all_in c.size-size.ensures)
    ∙ same-kept (label_at s c.in-Label.name) (wanted_at s c.args.wanted.now)
    (λ i. sym (ap (λ (w : Wanted). wanted_at s w i) c.in-Label.is ∙ wanted-label _ _ c.in-Label.name)) (all_in (length s.segment.now.sites))) c.keep_label.ensures

pub all_of-returns-in-All : goal.all_of-returns-in-All
all_of-returns-in-All t c =
    let s = c.args.searched.now in
    IfOk-weaker c.all_of_all.result _ _ (λ v e. e ∙ same-kept _ (wanted_at s c.args.wanted.now)
    (λ i. ap (list_all (λ w. wanted_at s w i)) c.get-in-All.ensures
    ∙ sym (ap (λ (w : Wanted). wanted_at s w i) c.in-All.is ∙ wanted-all _ _ c.in-All.parts)) (all_in (length s.segment.now.sites))) c.all_of_all.ensures

pub all_of-returns-in-Any : goal.all_of-returns-in-Any
all_of-returns-in-Any t c =
    let s = c.args.searched.now in
    IfOk-weaker c.all_of_any.result _ _ (λ v e. e ∙ same-kept _ (wanted_at s c.args.wanted.now)
    (λ i. ap (list_any (λ w. wanted_at s w i)) c.get-in-Any.ensures
    ∙ sym (ap (λ (w : Wanted). wanted_at s w i) c.in-Any.is ∙ wanted-any _ _ c.in-Any.parts)) (all_in (length s.segment.now.sites))) c.all_of_any.ensures

pub all_of_any-loop-part-init : goal.all_of_any-loop-part-init
all_of_any-loop-part-init t c = c.new-found.ensures.items ∙ none-kept _ (λ i. refl) (all_in (length c.args.searched.now.segment.now.sites))

pub all_of_any-loop-part-preserved : goal.all_of_any-loop-part-preserved
all_of_any-loop-part-preserved t c =
    let s = c.args.searched.now in
    let n = length s.segment.now.sites in
    any-step (λ (w : Wanted) (i : ℕ). wanted_at s w i) c.args.parts.now c.loop-part.part-index c.part-item.result (all_in n) c.deref.result.now c.deref-in-loop-part.result.now _
    (range-ascends 0 n) (omega (arith, c.loop-part-test.true)) c.part-item.is (c.deref.ensures.value ∙ c.loop-part.invariant) (c.deref-in-loop-part.ensures.value ∙ c.in_ok-more.ensures) c.in_ok-found.ensures

pub all_of_any-returns : goal.all_of_any-returns
all_of_any-returns t c =
    let s = c.args.searched.now in
    any-end (λ (w : Wanted) (i : ℕ). wanted_at s w i) c.args.parts.now c.loop-part.part-index (all_in (length s.segment.now.sites)) _ (omega (arith, c.loop-part-test.false)) c.loop-part.invariant

no-parts : (ws : List Wanted) → (length ws == 0) ≡ true → ws ≡ []
no-parts [] h = refl
no-parts (w ∷ ws) h = let long : length (w ∷ ws) ≡ 0 = eqb-true _ _ h in absurd (omega (arith, long))

pub all_of_all-returns-then-is_empty : goal.all_of_all-returns-then-is_empty
all_of_all-returns-then-is_empty t c =
    let s = c.args.searched.now in
    let none : c.args.parts.now ≡ [] = no-parts c.args.parts.now (sym c.is_empty.ensures ∙ c.if-is_empty.true) in
    IfOk-weaker c.every.result _ _ (λ v e. e ∙ ap all_in c.size.ensures
    ∙ all-kept (λ i. list_all (λ w. wanted_at s w i) c.args.parts.now) (λ i. ap (list_all (λ w. wanted_at s w i)) none) (all_in (length s.segment.now.sites))) c.every.ensures

pub all_of_all-kept_of_all-requires : goal.all_of_all-kept_of_all-requires
all_of_all-kept_of_all-requires t c =
    let s = c.args.searched.now in
    let n = length s.segment.now.sites in
    subst (IsStrictlySortedBy nat_cmp) (sym (c.deref.ensures.value ∙ c.in_ok-first.ensures)) (kept-ascends (wanted_at s c.index-parts-place.result) (all_in n) (range-ascends 0 n))

pub all_of_all-returns : goal.all_of_all-returns
all_of_all-returns t c =
    let s = c.args.searched.now in
    let parts = c.args.parts.now in
    let n = length s.segment.now.sites in
    let w = c.index-parts-place.result in
    IfOk-weaker c.kept_of_all.result _ _ (λ v e. e
    ∙ ap (filter (λ i. list_all (λ w. wanted_at s w i) parts)) (c.deref.ensures.value ∙ c.in_ok-first.ensures)
    ∙ all-of-one (λ (w : Wanted) (i : ℕ). wanted_at s w i) parts c.cheapest-place.result w (all_in n)
    (item-there parts c.cheapest-place.result w (omega (arith, c.cheapest-place.ensures)) c.index-parts-place.is)) c.kept_of_all.ensures
