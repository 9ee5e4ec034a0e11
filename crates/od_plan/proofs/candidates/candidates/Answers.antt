use Rattle.std.proofs.Common.{◌≡◌, ◌-◌, ◌++◌, ℕ, List, length, filter, map, take, sym, ap, ap₂, ◌∙◌, arith}
use Rattle.std.proofs.lemmas.List.{take_all}
use Rattle.std.specs.List.{range_with_len}
use Rattle.od_extraction.specs.declared.mention.Mention.{Mention}
use Rattle.od_index.specs.Views.{Place, site_at}
use Rattle.od_plan.specs.Chosen.{chosen, kept_in}
use Rattle.od_plan.specs.Found.{wanted_in}
use Rattle.od_plan.proofs.Choosing.{chosen-more, chosen-given, sites-named}
use Rattle.od_plan.proofs.candidates.candidates.Goals as goal

pub loop-place-preserved : goal.loop-place-preserved
loop-place-preserved c = λ need meant.
    let v = c.args.view.now in
    let known = c.args.known.now in
    let k = c.loop-place.place in
    let searched = c.searched-searched.result in
    let is = c.searched-searched.ensures.is in
    let s = searched.segment.now in
    let first = searched.first in
    let w = c.wanted_in.result.now in
    let left : c.saturating_sub-left.result ≡ v.documents - first = c.saturating_sub-left.ensures ∙ ap (λ (d : ℕ). d - first) c.documents.ensures in
    c.in_ok-push_wanted.ensures
    ∙ ap₂ (λ (ps : List Place) (left : ℕ). ps ++ kept_in s k left (filter (wanted_in searched.known.now first s w) (range_with_len 0 (length s.sites)))) (c.loop-place.invariant need meant) left
    ∙ ap (λ (ms : List Mention). chosen v known need (take k v.segments) ++ kept_in s k (v.documents - first) (filter (wanted_in ms first s w) (range_with_len 0 (length s.sites)))) is.known_is
    ∙ sym (chosen-more v known need k first s w is.segment is.first is.served (meant k s w is.segment c.wanted_in.ensures))

pub returns : goal.returns
returns c = λ need meant.
    let v = c.args.view.now in
    let known = c.args.known.now in
    let all : take c.loop-place.place v.segments ≡ v.segments = take_all c.loop-place.place v.segments (omega (arith, c.count-place-end.ensures)) in
    sites-named v c.loop-place.refs.items
    ∙ ap (map (site_at v.segments)) (c.loop-place.invariant need meant ∙ ap (chosen v known need) all)
    ∙ chosen-given v known need
