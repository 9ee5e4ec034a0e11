use Rattle.std.proofs.Common.{◌≡◌, ◌&&◌, sym, ◌∙◌, ap}
use Rattle.std.specs.List.{list_all}
use Rattle.std.proofs.lemmas.Result.{on_ok_weaker}
use Rattle.od_plan.specs.Wanted.{wanted}
use Rattle.od_plan.proofs.Built.{and-true, more-all, wanted-all, wanted-everywhere}
use Rattle.od_resolve.proofs.folding.put_all.Goals as goal

pub returns-in-Everywhere : goal.returns-in-Everywhere
returns-in-Everywhere c = λ stands labelled.
    let parts = list_all (wanted stands labelled) c.args.parts.now in
    sym (ap (λ w. parts && wanted stands labelled w) c.in-Everywhere.is ∙ ap (λ b. parts && b) (wanted-everywhere stands labelled) ∙ and-true parts)

pub returns-in-All : goal.returns-in-All
returns-in-All c =
    on_ok_weaker c.join.result (λ e stands labelled.
    let parts = list_all (wanted stands labelled) c.args.parts.now in
    ap (list_all (wanted stands labelled)) e ∙ more-all stands labelled c.args.parts.now c.in-All.others
    ∙ ap (λ b. parts && b) (sym (wanted-all stands labelled c.in-All.others)) ∙ sym (ap (λ w. parts && wanted stands labelled w) c.in-All.is)) c.join.ensures
