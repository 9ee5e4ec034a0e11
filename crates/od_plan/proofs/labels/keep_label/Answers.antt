use Rattle.std.proofs.Common.{◌++◌, ◌∷◌, [], ℕ, List, Bool, cond, sym, ap₂, ◌∙◌}
use Rattle.od_plan.specs.Found.{label_at}
use Rattle.od_search.proofs.Heads.{filter-more}
use Rattle.od_plan.proofs.labels.keep_label.Goals as goal

pub loop-place-preserved : goal.loop-place-preserved
loop-place-preserved c =
    let x = c.sentence_at-sentence.result in
    c.in_ok-push_if.ensures
    ∙ ap₂ (λ (xs : List ℕ) (b : Bool). xs ++ cond b (x ∷ []) []) c.loop-place.invariant c.in_ok-keep.ensures
    ∙ sym (filter-more (label_at c.args.searched.now c.args.name.now) c.args.sentences.now c.loop-place.place x c.sentence_at-sentence.ensures)
