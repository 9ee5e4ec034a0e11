use Rattle.std.proofs.Common.{◌++◌, ◌∷◌, [], List, Bool, cond, map, take, sym, ap, ap₂, ◌∙◌, append_assoc}
use Rattle.od_index.specs.Views.{Place}
use Rattle.od_segment.specs.Seen.{place_of, is_of_first}
use Rattle.std.specs.Prelude.{slice_get}
use Rattle.od_plan.specs.Chosen.{kept_in}
use Rattle.od_plan.proofs.Choosing.{kept-more}
use Rattle.od_plan.proofs.candidates.push_seen.Goals as goal

pub loop-at-preserved : goal.loop-at-preserved
loop-at-preserved c =
    let before : List Place = map place_of c.args.refs.now.items in
    let s = c.args.segment.now in
    let i = c.sentence_at-index.result in
    let seen : List Place = kept_in s c.args.place c.args.left (take c.loop-at.at c.args.sentences.now) in
    c.in_ok-push_if.ensures
    ∙ ap₂ (λ (ps : List Place) (b : Bool). ps ++ cond b ((c.args.place, i) ∷ []) []) c.loop-at.invariant c.is_seen.ensures
    ∙ append_assoc before seen (cond (is_of_first c.args.left (slice_get s.sites i)) ((c.args.place, i) ∷ []) [])
    ∙ ap (λ (ps : List Place). before ++ ps) (sym (kept-more s c.args.place c.args.left c.args.sentences.now c.loop-at.at i c.sentence_at-index.ensures))
