use Rattle.std.proofs.Common.{◌≡◌, ◌||◌, sym, ◌∙◌, ap}
use Rattle.std.specs.List.{list_any}
use Rattle.std.proofs.lemmas.Result.{on_ok_weaker}
use Rattle.od_plan.specs.Wanted.{wanted}
use Rattle.od_plan.proofs.Built.{or-false, more-any, wanted-any, wanted-nowhere}
use Rattle.od_resolve.proofs.folding.put_any.Goals as goal

pub returns-in-Nowhere : goal.returns-in-Nowhere
returns-in-Nowhere c = λ stands labelled.
    let parts = list_any (wanted stands labelled) c.args.parts.now in
    sym (ap (λ w. parts || wanted stands labelled w) c.in-Nowhere.is ∙ ap (λ b. parts || b) (wanted-nowhere stands labelled) ∙ or-false parts)

pub returns-in-Any : goal.returns-in-Any
returns-in-Any c =
    on_ok_weaker c.join.result (λ e stands labelled.
    let parts = list_any (wanted stands labelled) c.args.parts.now in
    ap (list_any (wanted stands labelled)) e ∙ more-any stands labelled c.args.parts.now c.in-Any.others
    ∙ ap (λ b. parts || b) (sym (wanted-any stands labelled c.in-Any.others)) ∙ sym (ap (λ w. parts || wanted stands labelled w) c.in-Any.is)) c.join.ensures
