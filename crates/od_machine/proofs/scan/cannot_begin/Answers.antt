use Rattle.std.proofs.Common.{◌≡◌, ◌<◌, Bool, true, false, length, not, refl, sym, ◌∙◌, ap, arith}
use Rattle.std.specs.Prelude.{slice_get, Some}
use Rattle.std.proofs.lemmas.Option.{slice_get_read}
use Rattle.od_machine.specs.Inputs.{given}
use Rattle.od_machine.specs.declared.instruction.Instruction.TheVariants.{Take, Open}
use Rattle.od_machine.proofs.Visiting.{no_begin, begin_behind}
use Rattle.od_machine.proofs.scan.cannot_begin.Goals as goal

unset : (b : Bool) → not b ≡ true → b ≡ false
unset true h = sym h
unset false h = refl

pub returns-in-Take-clause-never : goal.returns-in-Take-clause-never
returns-in-Take-clause-never c = λ h tokens labels.
    let code = c.args.code.now in
    let pc = c.loop-instruction.instruction-index in
    let inside : pc < length code = omega arith in
    let here : slice_get code pc ≡ Some (Take c.in-Take.row) = slice_get_read code (length code) pc c.instruction-item.result refl inside c.instruction-item.is ∙ ap Some c.in-Take.is in
    c.loop-instruction.invariant tokens labels
    (no_begin (given tokens c.args.rows.now labels) code pc c.in-Take.row c.args.at here (sym c.holds.ensures ∙ unset c.holds.result h))

pub loop-instruction-preserved : goal.loop-instruction-preserved
loop-instruction-preserved c = λ tokens labels none.
    let code = c.args.code.now in
    let pc = c.loop-instruction.instruction-index in
    let inside : pc < length code = omega arith in
    let here : slice_get code pc ≡ Some (Open c.in-Open.field-0) = slice_get_read code (length code) pc c.instruction-item.result refl inside c.instruction-item.is ∙ ap Some c.in-Open.is in
    c.loop-instruction.invariant tokens labels
    (begin_behind (given tokens c.args.rows.now labels) code pc c.args.at c.in-Open.field-0 here none)
