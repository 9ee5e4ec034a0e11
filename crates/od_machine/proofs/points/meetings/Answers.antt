use Rattle.std.proofs.Common.{◌≡◌, ◌<◌, length, refl, sym, ◌∙◌, ap, arith, inl, inr}
use Rattle.std.specs.Prelude.{Some, slice_get}
use Rattle.std.proofs.lemmas.Bool.{cases_lt}
use Rattle.std.proofs.lemmas.Option.{slice_get_within, slice_get_read}
use Rattle.od_machine.specs.Points.{target_of}
use Rattle.od_machine.specs.declared.instruction.Instruction.{Instruction}
use Rattle.od_machine.proofs.points.meetings.Goals as goal

pub loop-pc-preserved : goal.loop-pc-preserved
loop-pc-preserved c =
    let code = c.args.code.now in
    let pc = c.loop-pc.pc in
    let inv = c.loop-pc.invariant in
    let inside : pc < length code = omega arith in
    let here : slice_get code pc ≡ Some c.index-code-pc.result = slice_get_read code (length code) pc c.index-code-pc.result refl inside c.index-code-pc.is in (
      c.note_target.ensures.len ∙ inv.0,
      λ k to x lt e t.
          elim (cases_lt k pc) [
            | inl before ↦ c.note_target.ensures.kept to (inv.1 k to x before e t)
            | inr ge ↦
                let same : k ≡ pc = omega arith in
                let is : slice_get code k ≡ Some c.index-code-pc.result = ap (slice_get code) same ∙ here in
                let read : x ≡ c.index-code-pc.result = cc in
                c.note_target.ensures.noted to
                (c.target_of.ensures ∙ sym (ap (target_of c.index-code-pc.result) same) ∙ sym (ap (λ (z : Instruction). target_of z k) read) ∙ t)
          ],
      λ k h.
          elim (c.note_target.ensures.only k h) [
            | inl to ↦ (pc, c.index-code-pc.result, here, sym c.target_of.ensures ∙ to)
            | inr before ↦ inv.2 k before
          ],
    )

pub returns-clause-targets : goal.returns-clause-targets
returns-clause-targets c = λ pc to x e t.
    let inside : pc < length c.args.code.now = slice_get_within c.args.code.now pc x e in
    c.loop-pc.invariant.1 pc to x (omega arith) e t
