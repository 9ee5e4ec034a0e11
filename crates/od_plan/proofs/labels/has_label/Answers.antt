use Rattle.std.proofs.Common.{List, map, ap, ◌∙◌}
use denote.Ref.{Bor}
use Rattle.std.specs.Prelude.{bytes_eq, slice_get}
use Rattle.std.specs.List.{list_any}
use Rattle.od_extraction.specs.declared.mention.Mention.{Mention}
use Rattle.od_plan.proofs.Choosing.{label-known}
use Rattle.od_plan.proofs.labels.has_label.Goals as goal

pub returns : goal.returns
returns c =
    let s = c.args.searched.now in
    c.some_has.ensures
    ∙ ap (λ (ms : List (Bor Mention)). list_any (λ (m : Mention). bytes_eq m.label c.args.name.now) (map (λ (m : Bor Mention). m.now) ms)) c.deref.ensures.value
    ∙ ap (list_any (λ (m : Mention). bytes_eq m.label c.args.name.now)) c.in_ok-mentions.ensures
    ∙ label-known s.known.now s.first c.place-document.result.0 c.place-document.result.1 c.args.name.now (slice_get s.segment.now.sites c.args.sentence) c.place-document.ensures.site
