use Rattle.std.proofs.Common.{◌≡◌, List, Some, ◌∙◌, ap, sym, subst, slice_get, slice_set}
use Rattle.od_constraint.specs.Noted.{AreNoted, with_noted}
use Rattle.od_constraint.specs.declared.noted.Noted.{Noted}
use Rattle.od_constraint.proofs.NoteLemmas.{AreNoted-at, AreNoted-set, IsNoted-with}
use Rattle.od_constraint.proofs.noted.note.Goals as goal

pub returns-then-expression-len : goal.returns-then-expression-len
returns-then-expression-len c = λ table all expressions text h at has.
    let items = c.args.noted.now.items in
    let k = c.args.expression in
    let old = c.noted_there-one.result in
    let got : slice_get items k ≡ Some old = ap (λ (ns : List Noted). slice_get ns k) (sym c.as_slice.ensures.value) ∙ c.noted_there-one.ensures in
    subst (λ (one : Noted). AreNoted table all expressions (slice_set items k one)) (sym c.with.ensures)
    (AreNoted-set table all expressions items k text (with_noted c.args.field c.args.place old) h at
    (IsNoted-with table all text old c.args.field c.args.place (AreNoted-at table all expressions items k text old h at got) has))
