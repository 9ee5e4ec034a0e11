use Rattle.std.proofs.Common.{◌≡◌, List, [], ◌∷◌, ◌++◌, append_assoc, sym, ◌∙◌, ap, subst, OnOk}
use Rattle.od_machine.specs.Code.{code_of}
use Rattle.od_machine.proofs.Rows.{code_capture}
use Rattle.od_machine.specs.declared.instruction.Instruction.{Instruction}
use Rattle.od_machine.specs.declared.instruction.Instruction.TheVariants.{Open, Close}
use Rattle.od_machine.proofs.compile.+emit.Goals as goal

-- the instructions of a capture, pushed one after another
captured : (old one two body whole : List Instruction) (x x' y : Instruction) → one ≡ old ++ x ∷ [] → two ≡ one ++ body → x ≡ x' → whole ≡ x' ∷ (body ++ y ∷ []) → two ++ y ∷ [] ≡ old ++ whole
captured old one two body whole x x' y e f g h =
    ap (λ z. z ++ y ∷ []) (f ∙ ap (λ z. z ++ body) (e ∙ ap (λ z. old ++ z ∷ []) g))
    ∙ append_assoc (old ++ x' ∷ []) body (y ∷ []) ∙ append_assoc old (x' ∷ []) (body ++ y ∷ []) ∙ ap (λ z. old ++ z) (sym h)

pub emit-returns-in_ok-emit-in-Capture : goal.emit-returns-in_ok-emit-in-Capture
emit-returns-in_ok-emit-in-Capture t c =
    let body = code_of c.args.row c.in-Capture.body in
    let two : c.emit.new.code.items ≡ c.push-in-Capture.new.code.items ++ body = c.in_ok-emit-in-Capture.ensures ∙ ap (λ z. c.push-in-Capture.new.code.items ++ code_of c.args.row z) c.get-in-Capture.ensures in
    let whole : code_of c.args.row c.args.pattern.now ≡ Open c.in-Capture.name ∷ (body ++ Close ∷ []) = ap (code_of c.args.row) c.in-Capture.is ∙ code_capture c.args.row c.in-Capture.name c.in-Capture.body in
    subst (λ (z : List Instruction). OnOk c.push-in-Capture-2.result (c.push-in-Capture-2.new.code.items ≡ z))
    (captured c.args.code.now.items c.push-in-Capture.new.code.items c.emit.new.code.items body _ _ _ Close c.in_ok-push-in-Capture.ensures two (ap Open c.in_ok-copy-in-Capture.ensures) whole)
    c.push-in-Capture-2.ensures
