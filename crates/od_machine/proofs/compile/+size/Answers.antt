use Rattle.std.proofs.Common.{◌≡◌, ℕ, ◌+◌, sym, ◌∙◌, ap, subst, IfOk}
use Rattle.od_machine.specs.Code.{code_size}
use Rattle.od_machine.proofs.Sizes.{size_capture}
use Rattle.od_machine.proofs.compile.+size.Goals as goal

pub size_of-returns-in_ok-size-in-Capture : goal.size_of-returns-in_ok-size-in-Capture
size_of-returns-in_ok-size-in-Capture t c =
    let e : c.in_ok-size-in-Capture.size + 2 ≡ code_size c.args.pattern.now =
    ap (λ z. z + 2) (c.in_ok-size-in-Capture.ensures ∙ ap code_size c.get-in-Capture.ensures) ∙ sym (size_capture c.in-Capture.field-0 c.in-Capture.body) ∙ ap code_size (sym c.in-Capture.is) in
    subst (λ (z : ℕ). IfOk c.sum_of.result (λ n. n ≡ z)) e c.sum_of.ensures
