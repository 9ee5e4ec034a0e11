-- Lemmas on visits of states, and on marks that are taken off.
use Rattle.std.proofs.Common.{◌≡◌, ℕ, ◌+◌, ◌*◌, ◌<◌, ◌≤◌, Bool, true, false, List, [], ◌∷◌, length, refl, ◌∙◌, ap, inl, inr, arith}
use Rattle.std.specs.Prelude.{Option, Some, None, ◌&&◌, nat_lt, if◌then◌else◌, option_map, slice_get}
use Rattle.std.specs.Option.{option_or}
use Rattle.std.proofs.lemmas.Option.{slice_get_past}
use Rattle.od_matching.specs.Matching.First.{Ending, open_capture}
use Rattle.od_machine.specs.Found.{ClearsPlace}
use Rattle.od_machine.specs.Machine.{Input, State, state, weight, run, first_success}
use Rattle.od_machine.specs.Search.{index, FailFrom}
use Rattle.od_machine.specs.declared.instruction.Instruction.{Instruction}
use Rattle.od_machine.specs.declared.instruction.Instruction.TheVariants.{Take, Open}
use Rattle.od_machine.specs.declared.points.Points.{Points}
use Rattle.od_machine.proofs.Runs.{run_visit}
use Rattle.od_machine.proofs.Search.{side-lt, fail_at}

pub past : (w : Input) (code : List Instruction) (s : State) → length code ≤ s.pc → run w code s ≡ None
past w code s h = run_visit w code s None (slice_get_past code s.pc h)

-- where an instruction takes a token that does not stand there, no way goes on
pub no_begin : (w : Input) (code : List Instruction) (pc n at : ℕ) → slice_get code pc ≡ Some (Take n) → w.holds n at ≡ false → run w code (state pc false at) ≡ None
no_begin w code pc n at e h =
    run_visit w code (state pc false at) (Some (Take n)) e
    ∙ ap (λ (c : Bool). first_success (run w code) (if c then state (pc + 1) true (at + 1) ∷ [] else [])) (ap (λ (c : Bool). nat_lt at w.length && c) h ∙ no (nat_lt at w.length))
  where
    no : (b : Bool) → (b && false) ≡ false
    no true = refl
    no false = refl

-- a capture that begins is passed
pub begin_behind : (w : Input) (code : List Instruction) (pc at : ℕ) (name : List ℕ) → slice_get code pc ≡ Some (Open name) → run w code (state (pc + 1) false at) ≡ None
    → run w code (state pc false at) ≡ None
begin_behind w code pc at name e none =
    run_visit w code (state pc false at) (Some (Open name)) e
    ∙ ap (λ (o : Option Ending). option_map (open_capture name at) (option_or o None)) none

-- once the marks of a place are off, what is marked from there on fails
pub fail_cleared : (w : Input) (code : List Instruction) (points : Points) (at : ℕ) (old new : List Bool) → FailFrom w code points (at + 1) old → ClearsPlace (2 * points.count) at old new → FailFrom w code points at new
fail_cleared w code points at old new f clears =
    fail_at w code points at new
    (λ s marked ok.
    f s
    (record {
      slot = marked.slot;
      meets = marked.meets;
      from = marked.from;
      within = marked.within;
      mark = (clears (index points.count marked.slot s) marked.mark).0;
    })
    ok)
    (λ s slot few here mark.
    let width : ℕ = 2 * points.count in
    let side : weight s.taken points.count + slot < width = side-lt s.taken points.count slot few in
    let e : index points.count slot s ≡ at * width + (weight s.taken points.count + slot) = ap (λ (z : ℕ). z * width + (weight s.taken points.count + slot)) here in
    let next : (at + 1) * width ≡ at * width + width = omega arith in
    elim (clears (index points.count slot s) mark).1 [ inl lt ↦ absurd (omega (arith, e)) | inr le ↦ absurd (omega (arith, e, next, side)) ])
