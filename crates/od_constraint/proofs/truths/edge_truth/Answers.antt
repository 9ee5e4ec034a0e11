use Rattle.std.proofs.Common.{◌≡◌, ◌+◌, ◌++◌, [], ◌∷◌, List, Bool, take, subst, rules}
use Rattle.od_asked.specs.Asked.{at_edges}
use Rattle.od_asked.specs.Tables.{truths}
use Rattle.od_index.specs.Terms.{Term}
use Rattle.od_pattern.specs.declared.pattern.Field.TheVariants.{Incoming}
use Rattle.od_constraint.specs.Asking.{AskingLabel}
use Rattle.od_constraint.specs.Hits.{AreHits}
use Rattle.od_constraint.proofs.Lists.{taken_more}
use Rattle.od_constraint.proofs.truths.edge_truth.Goals as goal

pub loop-place-preserved : goal.loop-place-preserved
loop-place-preserved c =
    let label = c.args.label.now in
    let hits = c.label.inside.hits in
    let own : AreHits label.table Incoming label.value hits = subst (λ (v : AskingLabel). AreHits v.table Incoming v.value hits) c.label.view_is c.label.invariant in
    let here : AreHits c.args.sentence.now.table Incoming label.value hits = subst (λ (t : List Term). AreHits t Incoming label.value hits) c.requires own in
    let row : List Bool = truths c.args.sentence.now.sentence (at_edges label.value) in
    let place = c.loop-place.place in
    let more : take (place + 1) row ≡ take place row ++ c.edge_fits.result ∷ [] = taken_more row place c.edge_fits.result (c.edge_fits.ensures label.value here) in
    record { truths = rw (more, ← c.loop-place.invariant.truths) (search rules); room = search rules }
