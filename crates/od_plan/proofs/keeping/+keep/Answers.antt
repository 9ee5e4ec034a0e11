use Rattle.std.proofs.Common.{ℕ, Bool, refl, sym, ap, ◌∙◌, filter, take, arith}
use Rattle.std.specs.List.{list_all, list_any}
use Rattle.std.proofs.lemmas.Result.{IfOk-weaker}
use Rattle.od_plan.specs.Found.{is_posted, label_at, lists_of, wanted_at}
use Rattle.od_plan.specs.declared.wanted.Wanted.{Wanted}
use Rattle.od_plan.proofs.Built.{wanted-nowhere, wanted-everywhere, wanted-term, wanted-one_of, wanted-label, wanted-all, wanted-any}
use Rattle.od_plan.proofs.Filters.{none-kept, all-kept, same-kept}
use Rattle.od_plan.proofs.Parts.{all-step, all-ascends, all-end, any-step, any-end}
use Rattle.od_plan.proofs.keeping.+keep.Goals as goal

pub kept_of-returns-in-Nowhere : goal.kept_of-returns-in-Nowhere
kept_of-returns-in-Nowhere t c =
    c.new.ensures.items ∙ none-kept (wanted_at c.args.searched.now c.args.wanted.now)
    (λ i. ap (λ (w : Wanted). wanted_at c.args.searched.now w i) c.in-Nowhere.is ∙ wanted-nowhere _ _) c.args.sentences.now

pub kept_of-returns-in-Everywhere : goal.kept_of-returns-in-Everywhere
kept_of-returns-in-Everywhere t c =
    IfOk-weaker c.copied.result _ _ (λ v e. e ∙ all-kept (wanted_at c.args.searched.now c.args.wanted.now)
    (λ i. ap (λ (w : Wanted). wanted_at c.args.searched.now w i) c.in-Everywhere.is ∙ wanted-everywhere _ _) c.args.sentences.now) c.copied.ensures

pub kept_of-returns-in-Term : goal.kept_of-returns-in-Term
kept_of-returns-in-Term t c =
    let wants : ℕ → Bool = wanted_at c.args.searched.now c.args.wanted.now in
    IfOk-weaker c.keep_term.result _ _ (λ v e. e ∙ ap (λ ls. filter (is_posted ls c.in-Term.number) c.args.sentences.now) c.lists.ensures.lists ∙ same-kept (is_posted (lists_of c.args.searched.now.segment.now) c.in-Term.number) wants
    (λ i. sym (ap (λ (w : Wanted). wanted_at c.args.searched.now w i) c.in-Term.is ∙ wanted-term _ _ c.in-Term.number)) c.args.sentences.now) c.keep_term.ensures

pub kept_of-returns-in-OneOf : goal.kept_of-returns-in-OneOf
kept_of-returns-in-OneOf t c =
    let searched = c.args.searched.now in
    IfOk-weaker c.keep_one_of.result _ _ (λ v e. e ∙ ap (λ ls. filter (λ i. list_any (λ n. is_posted ls n i) c.get.result.now) c.args.sentences.now) c.lists-in-OneOf.ensures.lists ∙ same-kept _ (wanted_at searched c.args.wanted.now)
    (λ i. ap (list_any (λ n. is_posted (lists_of searched.segment.now) n i)) c.get.ensures
    ∙ sym (ap (λ (w : Wanted). wanted_at searched w i) c.in-OneOf.is ∙ wanted-one_of _ _ c.in-OneOf.numbers)) c.args.sentences.now) c.keep_one_of.ensures

pub kept_of-returns-in-Label : goal.kept_of-returns-in-Label
kept_of-returns-in-Label t c =
    let searched = c.args.searched.now in
    IfOk-weaker c.keep_label.result _ _ (λ v e. e ∙ same-kept (label_at searched c.in-Label.name) (wanted_at searched c.args.wanted.now)
    (λ i. sym (ap (λ (w : Wanted). wanted_at searched w i) c.in-Label.is ∙ wanted-label _ _ c.in-Label.name)) c.args.sentences.now) c.keep_label.ensures

pub kept_of-returns-in-All : goal.kept_of-returns-in-All
kept_of-returns-in-All t c =
    let searched = c.args.searched.now in
    IfOk-weaker c.kept_of_all.result _ _ (λ v e. e ∙ same-kept _ (wanted_at searched c.args.wanted.now)
    (λ i. ap (list_all (λ w. wanted_at searched w i)) c.get-in-All.ensures
    ∙ sym (ap (λ (w : Wanted). wanted_at searched w i) c.in-All.is ∙ wanted-all _ _ c.in-All.parts)) c.args.sentences.now) c.kept_of_all.ensures

pub kept_of-returns-in-Any : goal.kept_of-returns-in-Any
kept_of-returns-in-Any t c =
    let searched = c.args.searched.now in
    IfOk-weaker c.kept_of_any.result _ _ (λ v e. e ∙ same-kept _ (wanted_at searched c.args.wanted.now)
    (λ i. ap (list_any (λ w. wanted_at searched w i)) c.get-in-Any.ensures
    ∙ sym (ap (λ (w : Wanted). wanted_at searched w i) c.in-Any.is ∙ wanted-any _ _ c.in-Any.parts)) c.args.sentences.now) c.kept_of_any.ensures

pub kept_of_all-loop-part-init : goal.kept_of_all-loop-part-init
kept_of_all-loop-part-init t c = c.in_ok-kept.ensures ∙ all-kept _ (λ i. refl) c.args.sentences.now

pub kept_of_any-loop-part-init : goal.kept_of_any-loop-part-init
kept_of_any-loop-part-init t c = c.new-kept.ensures.items ∙ none-kept _ (λ i. refl) c.args.sentences.now

pub kept_of_all-ascending-requires : goal.kept_of_all-ascending-requires
kept_of_all-ascending-requires t c =
    let s = c.args.searched.now in
    all-ascends (λ (w : Wanted) (i : ℕ). wanted_at s w i) (take c.loop-part.part-index c.args.parts.now) c.args.sentences.now c.deref.result.now c.requires (c.deref.ensures.value ∙ c.loop-part.invariant)

pub kept_of_all-loop-part-preserved : goal.kept_of_all-loop-part-preserved
kept_of_all-loop-part-preserved t c =
    let s = c.args.searched.now in
    all-step (λ (w : Wanted) (i : ℕ). wanted_at s w i) c.args.parts.now c.loop-part.part-index c.part-item.result c.args.sentences.now c.ascending.result.now _
    (omega (arith, c.loop-part-test.true)) c.part-item.is (c.ascending.ensures.same ∙ c.deref.ensures.value ∙ c.loop-part.invariant) c.in_ok-kept-2.ensures

pub kept_of_all-returns : goal.kept_of_all-returns
kept_of_all-returns t c =
    let s = c.args.searched.now in
    all-end (λ (w : Wanted) (i : ℕ). wanted_at s w i) c.args.parts.now c.loop-part.part-index c.args.sentences.now _ (omega (arith, c.loop-part-test.false)) c.loop-part.invariant

pub kept_of_any-loop-part-preserved : goal.kept_of_any-loop-part-preserved
kept_of_any-loop-part-preserved t c =
    let s = c.args.searched.now in
    any-step (λ (w : Wanted) (i : ℕ). wanted_at s w i) c.args.parts.now c.loop-part.part-index c.part-item.result c.args.sentences.now c.deref.result.now c.deref-in-loop-part.result.now _
    c.requires (omega (arith, c.loop-part-test.true)) c.part-item.is (c.deref.ensures.value ∙ c.loop-part.invariant) (c.deref-in-loop-part.ensures.value ∙ c.in_ok-more.ensures) c.in_ok-kept.ensures

pub kept_of_any-returns : goal.kept_of_any-returns
kept_of_any-returns t c =
    let s = c.args.searched.now in
    any-end (λ (w : Wanted) (i : ℕ). wanted_at s w i) c.args.parts.now c.loop-part.part-index c.args.sentences.now _ (omega (arith, c.loop-part-test.false)) c.loop-part.invariant
