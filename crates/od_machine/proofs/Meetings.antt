-- Meeting points and their numbers, and the stretches between them.
use Rattle.std.proofs.Common.{◌≡◌, ℕ, zero, suc, ◌+◌, ◌-◌, ◌<◌, ◌≤◌, Bool, true, false, List, [], ◌∷◌, ◌++◌, length, map, refl, sym, ◌∙◌, ap, arith, get_or, sum, subst}
use Rattle.std.specs.Prelude.{Option, Some, None, is_some, slice_get, slice_index_or, if◌then◌else◌, ◌==◌}
use Rattle.std.proofs.lemmas.List.Sums.{sum_by-cons}
use Rattle.od_machine.specs.Machine.{Input, State, state, fits_row, peeks, in_turn, targets, follow}
use Rattle.od_machine.specs.Points.{target_of, MeetAtTargets, numbered_from, AreNumbered, stretch, runs, AreMeetingPoints}
use Rattle.od_machine.specs.declared.instruction.Instruction.{Instruction}
use Rattle.od_machine.specs.declared.instruction.Instruction.TheVariants.{Take, Jump, Peek, AtFirst, AtLast, Split, Skip, Turn, Turned, Again, Open, Close, Fail, Match}

-- the meeting points have the numbers from k on, in order
abbrev pub AreNumberedFrom : ℕ → List (Option ℕ) → Type 0
AreNumberedFrom k [] = Unit {0}
AreNumberedFrom k (None ∷ slots) = AreNumberedFrom k slots
AreNumberedFrom k (Some n ∷ slots) = (n ≡ k) × AreNumberedFrom (k + 1) slots

numbers : (k : ℕ) (meets : List Bool) → AreNumberedFrom k (numbered_from k meets)
numbers k [] = tt
numbers k (true ∷ meets) = (refl, numbers (k + 1) meets)
numbers k (false ∷ meets) = numbers k meets

pub numbered_at : (slots : List (Option ℕ)) → AreNumbered slots → AreNumberedFrom 0 slots
numbered_at slots e = subst (AreNumberedFrom 0) (sym e) (numbers 0 (map is_some slots))

meets_of : (k : ℕ) (meets : List Bool) → map is_some (numbered_from k meets) ≡ meets
meets_of k [] = refl
meets_of k (true ∷ meets) = ap (λ z. true ∷ z) (meets_of (k + 1) meets)
meets_of k (false ∷ meets) = ap (λ z. false ∷ z) (meets_of k meets)

-- the numbers that are given are in order
pub numbered : (slots : List (Option ℕ)) (meets : List Bool) → slots ≡ numbered_from 0 meets → AreNumbered slots
numbered slots meets e = e ∙ ap (numbered_from 0) (sym (meets_of 0 meets) ∙ sym (ap (map is_some) e))

pub length-numbered : (k : ℕ) (meets : List Bool) → length (numbered_from k meets) ≡ length meets
length-numbered k [] = refl
length-numbered k (true ∷ meets) = ap suc (length-numbered (k + 1) meets)
length-numbered k (false ∷ meets) = ap suc (length-numbered k meets)

-- a meeting point is the next one from itself
pub stretch_at : (k : ℕ) (meets : List Bool) (pc : ℕ) → slice_index_or meets pc true ≡ true → stretch (numbered_from k meets) pc ≡ 0
stretch_at k [] pc e = refl
stretch_at k (true ∷ meets) (suc pc) e = stretch_at (k + 1) meets pc e
stretch_at k (false ∷ meets) (suc pc) e = stretch_at k meets pc e
stretch_at k (true ∷ meets) zero e = refl
stretch_at k (false ∷ meets) zero e = absurd (let q : false ≡ true = e in cc)

-- an instruction with a number is a meeting point
pub meets_at : (k : ℕ) (meets : List Bool) (pc n : ℕ) → slice_get (numbered_from k meets) pc ≡ Some (Some n) → slice_index_or meets pc false ≡ true
meets_at k [] pc n e = absurd (cc)
meets_at k (true ∷ meets) zero n e = refl
meets_at k (false ∷ meets) zero n e = absurd (cc)
meets_at k (true ∷ meets) (suc pc) n e = meets_at (k + 1) meets pc n e
meets_at k (false ∷ meets) (suc pc) n e = meets_at k meets pc n e

-- the numbered meeting points are those of the code
pub meeting_points : (code : List Instruction) (meets : List Bool) (slots : List (Option ℕ)) → slots ≡ numbered_from 0 meets → length meets ≡ length code → MeetAtTargets code meets
    → AreMeetingPoints code slots
meeting_points code meets slots e l h = record {
  size = ap length e ∙ length-numbered 0 meets ∙ l;
  targets = λ pc to x here leads. ap (λ (z : List (Option ℕ)). stretch z to) e ∙ stretch_at 0 meets to (h pc to x here leads);
}

-- before an instruction that is no meeting point the stretch is longer by one than behind it
pub stretch_none : (slots : List (Option ℕ)) (pc : ℕ) → slice_get slots pc ≡ Some None → stretch slots pc ≡ suc (stretch slots (suc pc))
stretch_none [] pc e = absurd (cc)
stretch_none (slot ∷ slots) (suc pc) e = stretch_none slots pc e
stretch_none (None ∷ slots) zero e = refl
stretch_none (Some n ∷ slots) zero e = absurd (cc)

-- the run of the meeting point with a number
pub run_at : (k : ℕ) (slots : List (Option ℕ)) (pc n : ℕ) → AreNumberedFrom k slots → slice_get slots pc ≡ Some (Some n)
    → (k ≤ n) × (n < k + length (runs slots)) × (get_or (runs slots) (n - k) 0 ≡ suc (stretch slots (suc pc)))
run_at k [] pc n h e = absurd (cc)
run_at k (None ∷ slots) zero n h e = absurd (cc)
run_at k (Some m ∷ slots) zero n h e =
    let q : m ≡ n = cc in
    let p : m ≡ k = h.0 in (
      omega arith,
      omega arith,
      ap (λ (z : ℕ). get_or (suc (stretch slots zero) ∷ runs slots) z 0) (let r : n - k ≡ 0 = omega arith in r),
    )
run_at k (None ∷ slots) (suc pc) n h e = run_at k slots pc n h e
run_at k (Some m ∷ slots) (suc pc) n h e =
    let r = run_at (k + 1) slots pc n h.1 e in
    let low : k + 1 ≤ n = r.0 in
    let high : n < k + 1 + length (runs slots) = r.1 in (
      omega arith,
      omega arith,
      ap (λ (z : ℕ). get_or (suc (stretch slots zero) ∷ runs slots) z 0) (let q : n - k ≡ suc (n - (k + 1)) = omega arith in q) ∙ r.2,
    )

-- no two meeting points have one number
pub same_slot : (k : ℕ) (slots : List (Option ℕ)) (pc pc' n : ℕ) → AreNumberedFrom k slots → slice_get slots pc ≡ Some (Some n) → slice_get slots pc' ≡ Some (Some n) → pc ≡ pc'
same_slot k [] pc pc' n h e e' = absurd (cc)
same_slot k (slot ∷ slots) zero zero n h e e' = refl
same_slot k (None ∷ slots) zero (suc pc') n h e e' = absurd (cc)
same_slot k (None ∷ slots) (suc pc) zero n h e e' = absurd (cc)
same_slot k (None ∷ slots) (suc pc) (suc pc') n h e e' = ap suc (same_slot k slots pc pc' n h e e')
same_slot k (Some m ∷ slots) zero (suc pc') n h e e' =
    let q : m ≡ n = cc in
    let p : m ≡ k = h.0 in
    let low : k + 1 ≤ n = (run_at (k + 1) slots pc' n h.1 e').0 in
    absurd (omega arith)
same_slot k (Some m ∷ slots) (suc pc) zero n h e e' =
    let q : m ≡ n = cc in
    let p : m ≡ k = h.0 in
    let low : k + 1 ≤ n = (run_at (k + 1) slots pc n h.1 e).0 in
    absurd (omega arith)
same_slot k (Some m ∷ slots) (suc pc) (suc pc') n h e e' = ap suc (same_slot (k + 1) slots pc pc' n h.1 e e')

-- the runs and what stands before the first of them are all instructions
pub whole : (slots : List (Option ℕ)) → stretch slots zero + sum (runs slots) ≡ length slots
whole [] = refl
whole (None ∷ slots) = let r : stretch slots zero + sum (runs slots) ≡ length slots = whole slots in omega arith
whole (Some n ∷ slots) =
    let r : stretch slots zero + sum (runs slots) ≡ length slots = whole slots in
    let q : sum (suc (stretch slots zero) ∷ runs slots) ≡ suc (stretch slots zero) + sum (runs slots) = sum_by-cons (λ (z : ℕ). z) (suc (stretch slots zero)) (runs slots) in
    omega arith

-- no more meeting points than instructions
pub length-runs : (slots : List (Option ℕ)) → length (runs slots) ≤ length slots
length-runs [] = omega arith
length-runs (None ∷ slots) = omega (arith, length-runs slots)
length-runs (Some n ∷ slots) = omega (arith, length-runs slots)

-- so they are all of the code
pub whole_code : (code : List Instruction) (slots : List (Option ℕ)) → AreMeetingPoints code slots → stretch slots 0 + sum (runs slots) ≡ length code
whole_code code slots h = whole slots ∙ h.size

pub length-runs_code : (code : List Instruction) (slots : List (Option ℕ)) → AreMeetingPoints code slots → length (runs slots) ≤ length code
length-runs_code code slots h = omega (arith, length-runs slots, h.size)

-- what states lead through before ways can meet
abbrev pub ahead_of : List (Option ℕ) → List State → ℕ
ahead_of slots [] = 0
ahead_of slots (s ∷ list) = stretch slots s.pc + ahead_of slots list

ahead-append : (slots : List (Option ℕ)) (a b : List State) → ahead_of slots (a ++ b) ≡ ahead_of slots a + ahead_of slots b
ahead-append slots [] b = omega arith
ahead-append slots (s ∷ a) b = omega (arith, ahead-append slots a b)

ahead-if : (slots : List (Option ℕ)) (pc : ℕ) (b : Bool) (s : State) → s.pc ≡ pc → ahead_of slots (if b then s ∷ [] else []) ≤ stretch slots pc
ahead-if slots pc true s e = let q : stretch slots s.pc ≡ stretch slots pc = ap (stretch slots) e in omega arith
ahead-if slots pc false s e = omega arith

ahead-targets : (slots : List (Option ℕ)) (f : ℕ → ℕ → Bool) (pc i n : ℕ) → stretch slots pc ≡ 0 → ahead_of slots (targets f pc i n) ≡ 0
ahead-targets slots f pc i zero h = refl
ahead-targets slots f pc i (suc n) h =
    let here : List State = if f i (i + suc n) then state pc true (i + suc n) ∷ [] else [] in
    let a : ahead_of slots (here ++ targets f pc i n) ≡ ahead_of slots here + ahead_of slots (targets f pc i n) = ahead-append slots here (targets f pc i n) in
    let b : ahead_of slots here ≤ stretch slots pc = ahead-if slots pc (f i (i + suc n)) (state pc true (i + suc n)) refl in
    let c : ahead_of slots (targets f pc i n) ≡ 0 = ahead-targets slots f pc i n h in
    omega arith

ahead-turn : (slots : List (Option ℕ)) (lazy : Bool) (s s' : State) (n : ℕ) → stretch slots s.pc + stretch slots s'.pc ≤ n → ahead_of slots (in_turn lazy s s') ≤ n
ahead-turn slots true s s' n h = omega arith
ahead-turn slots false s s' n h = omega arith

-- what follows an instruction leads through no more than the next one does
pub ahead-follow : (w : Input) (slots : List (Option ℕ)) (x : Instruction) (pc at : ℕ) (b : Bool) → ((to : ℕ) → target_of x pc ≡ Some to → stretch slots to ≡ 0)
    → ahead_of slots (follow w x pc b at) ≤ stretch slots (pc + 1)
ahead-follow w slots (Take n) pc at b h = ahead-if slots (pc + 1) (fits_row w n at) (state (pc + 1) true (at + 1)) refl
ahead-follow w slots (Jump name) pc at b h =
    let q : ahead_of slots (targets (w.is_span name) (pc + 1) at (w.length - at)) ≡ 0 = ahead-targets slots (w.is_span name) (pc + 1) at (w.length - at) (h (pc + 1) refl) in
    omega arith
ahead-follow w slots (Peek ahead positive n) pc at b h = ahead-if slots (pc + 1) (peeks w n ahead positive at) (state (pc + 1) b at) refl
ahead-follow w slots AtFirst pc at b h = ahead-if slots (pc + 1) (at == 0) (state (pc + 1) b at) refl
ahead-follow w slots AtLast pc at b h = ahead-if slots (pc + 1) (at == w.length) (state (pc + 1) b at) refl
ahead-follow w slots (Split n) pc at b h = let q : stretch slots (pc + 1 + n) ≡ 0 = h (pc + 1 + n) refl in omega arith
ahead-follow w slots (Skip n) pc at b h = let q : stretch slots (pc + 1 + n) ≡ 0 = h (pc + 1 + n) refl in omega arith
ahead-follow w slots (Turn lazy n) pc at b h =
    let q : stretch slots (pc + 1 + n) ≡ 0 = h (pc + 1 + n) refl in
    ahead-turn slots lazy (state (pc + 1) false at) (state (pc + 1 + n) b at) (stretch slots (pc + 1)) (omega arith)
ahead-follow w slots Turned pc at b h = ahead-if slots (pc + 1) b (state (pc + 1) b at) refl
ahead-follow w slots (Again lazy n) pc at true h =
    let q : stretch slots (pc - n) ≡ 0 = h (pc - n) refl in
    ahead-turn slots lazy (state (pc - n) false at) (state (pc + 1) true at) (stretch slots (pc + 1)) (omega arith)
ahead-follow w slots (Again lazy n) pc at false h = omega arith
ahead-follow w slots (Open name) pc at b h = omega arith
ahead-follow w slots Close pc at b h = omega arith
ahead-follow w slots Fail pc at b h = omega arith
ahead-follow w slots Match pc at b h = omega arith
