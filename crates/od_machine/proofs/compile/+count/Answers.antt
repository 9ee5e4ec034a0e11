use Rattle.std.proofs.Common.{◌≡◌, ℕ, sym, ◌∙◌, ap, subst, IfOk}
use Rattle.od_machine.specs.Code.{constraints}
use Rattle.od_machine.proofs.Rows.{constraints_repeat, constraints_capture}
use Rattle.od_machine.proofs.compile.+count.Goals as goal

pub count-returns-in-Repeat : goal.count-returns-in-Repeat
count-returns-in-Repeat t c =
    let e : constraints c.get-in-Repeat.result.now ≡ constraints c.args.pattern.now =
    ap constraints c.get-in-Repeat.ensures ∙ sym (constraints_repeat c.in-Repeat.body c.in-Repeat.field-1) ∙ ap constraints (sym c.in-Repeat.is) in
    subst (λ (z : ℕ). IfOk c.count.result (λ n. n ≡ z)) e c.count.ensures

pub count-returns-in-Capture : goal.count-returns-in-Capture
count-returns-in-Capture t c =
    let e : constraints c.get-in-Capture.result.now ≡ constraints c.args.pattern.now =
    ap constraints c.get-in-Capture.ensures ∙ sym (constraints_capture c.in-Capture.field-0 c.in-Capture.body) ∙ ap constraints (sym c.in-Capture.is) in
    subst (λ (z : ℕ). IfOk c.count-in-Capture.result (λ n. n ≡ z)) e c.count-in-Capture.ensures
