-- A run looks at an instruction, and goes on from the states that follow.
use Rattle.std.proofs.Common.{◌≡◌, ℕ, zero, suc, ◌+◌, ◌-◌, ◌*◌, ◌<◌, ◌≤◌, Bool, true, false, List, [], ◌∷◌, ◌++◌, length, refl, ◌∙◌, ap, arith}
use Rattle.std.proofs.lemmas.Bool.{ltb-true}
use Rattle.std.proofs.lemmas.Option.{slice_get_within}
use Rattle.std.proofs.Math.Nat.{mul-le-mul_right}
use Rattle.std.specs.Prelude.{Option, Some, None, if◌then◌else◌, ◌==◌, ◌&&◌, slice_get}
use Rattle.std.specs.Option.{option_or}
use Rattle.od_matching.specs.Matching.First.{Ending}
use Rattle.od_machine.specs.Machine.{Input, fits_row, peeks, State, state, in_turn, targets, follow, first_success, made, visit, run_within, measure, run}
use Rattle.od_machine.specs.declared.instruction.Instruction.{Instruction}
use Rattle.od_machine.specs.declared.instruction.Instruction.TheVariants.{Take, Jump, Peek, AtFirst, AtLast, Split, Skip, Turn, Turned, Again, Open, Close, Fail, Match}

-- a later place outweighs the rest
pub farther : (l i j n a b : ℕ) → i < j → j ≤ l → a ≤ n + 1 + n → (l - j) * (2 * (n + 1)) + a < (l - i) * (2 * (n + 1)) + b
farther l i j n a b lt le small =
    let h : suc (l - j) * (2 * (n + 1)) ≤ (l - i) * (2 * (n + 1)) = mul-le-mul_right (2 * (n + 1)) (omega arith) in
    omega (arith, h)

pub left_of : (a b : Bool) → (a && b) ≡ true → a ≡ true
left_of true b e = refl
left_of false b e = e

module _ (w : Input) (code : List Instruction) where
  abbrev pub Lower : ℕ → List State → Type 0
  Lower m [] = Unit {0}
  Lower m (s ∷ rest) = (measure w code s < m) × Lower m rest

  Lower-append : (m : ℕ) (a b : List State) → Lower m a → Lower m b → Lower m (a ++ b)
  Lower-append m [] b h g = g
  Lower-append m (s ∷ a) b h g = (h.0, Lower-append m a b h.1 g)

  Lower-if : (m : ℕ) (b : Bool) (s : State) → (b ≡ true → measure w code s < m) → Lower m (if b then s ∷ [] else [])
  Lower-if m true s h = (h refl, tt)
  Lower-if m false s h = tt

  Lower-turn : (m : ℕ) (lazy : Bool) (s s' : State) → measure w code s < m → measure w code s' < m → Lower m (in_turn lazy s s')
  Lower-turn m true s s' h g = (g, (h, tt))
  Lower-turn m false s s' h g = (h, (g, tt))

  forward : (pc pc' at : ℕ) (b : Bool) → pc < length code → pc < pc' → measure w code (state pc' b at) < measure w code (state pc b at)
  unfolding measure
  forward pc pc' at b h lt = omega arith

  begins : (pc pc' at : ℕ) (b : Bool) → pc < length code → pc < pc' → measure w code (state pc' false at) < measure w code (state pc b at)
  unfolding measure
  begins pc pc' at true h lt = omega arith
  begins pc pc' at false h lt = omega arith

  back : (pc pc' at : ℕ) → measure w code (state pc' false at) < measure w code (state pc true at)
  unfolding measure
  back pc pc' at = omega arith

  takes : (pc pc' at at' : ℕ) (b : Bool) → pc < pc' → pc < length code → at < at' → at' ≤ w.length → measure w code (state pc' true at') < measure w code (state pc b at)
  unfolding measure
  takes pc pc' at at' b lp h lt le = farther w.length at at' (length code) _ _ lt le (omega arith)

  Lower-targets : (f : ℕ → ℕ → Bool) (pc at : ℕ) (b : Bool) (n : ℕ) → pc < length code → n ≤ w.length - at → Lower (measure w code (state pc b at)) (targets f (pc + 1) at n)
  Lower-targets f pc at b zero h le = tt
  Lower-targets f pc at b (suc n) h le =
      Lower-append _ (if f at (at + suc n) then state (pc + 1) true (at + suc n) ∷ [] else []) (targets f (pc + 1) at n)
      (Lower-if _ (f at (at + suc n)) (state (pc + 1) true (at + suc n)) (λ e. takes pc (pc + 1) at (at + suc n) b (omega arith) h (omega arith) (omega arith)))
      (Lower-targets f pc at b n h (omega arith))

  -- what follows a state is lower
  pub follow_lower : (x : Instruction) (pc at : ℕ) (b : Bool) → pc < length code → Lower (measure w code (state pc b at)) (follow w x pc b at)
  follow_lower (Take n) pc at b h = Lower-if _ (fits_row w n at) _ (λ e. let lt : at < w.length = ltb-true at w.length (left_of _ _ e) in takes pc (pc + 1) at (at + 1) b (omega arith) h (omega arith) (omega arith))
  follow_lower (Jump name) pc at b h = Lower-targets (w.is_span name) pc at b (w.length - at) h (omega arith)
  follow_lower (Peek ahead positive n) pc at b h = Lower-if _ (peeks w n ahead positive at) _ (λ e. forward pc (pc + 1) at b h (omega arith))
  follow_lower AtFirst pc at b h = Lower-if _ (at == 0) _ (λ e. forward pc (pc + 1) at b h (omega arith))
  follow_lower AtLast pc at b h = Lower-if _ (at == w.length) _ (λ e. forward pc (pc + 1) at b h (omega arith))
  follow_lower (Split n) pc at b h = (forward pc (pc + 1) at b h (omega arith), (forward pc (pc + 1 + n) at b h (omega arith), tt))
  follow_lower (Skip n) pc at b h = (forward pc (pc + 1 + n) at b h (omega arith), tt)
  follow_lower (Turn lazy n) pc at b h = Lower-turn _ lazy _ _ (begins pc (pc + 1) at b h (omega arith)) (forward pc (pc + 1 + n) at b h (omega arith))
  follow_lower Turned pc at b h = Lower-if _ b _ (λ e. forward pc (pc + 1) at b h (omega arith))
  follow_lower (Again lazy n) pc at true h = Lower-turn _ lazy _ _ (back pc (pc - n) at) (forward pc (pc + 1) at true h (omega arith))
  follow_lower (Again lazy n) pc at false h = tt
  follow_lower (Open name) pc at b h = (forward pc (pc + 1) at b h (omega arith), tt)
  follow_lower Close pc at b h = (forward pc (pc + 1) at b h (omega arith), tt)
  follow_lower Fail pc at b h = tt
  follow_lower Match pc at b h = tt

  first_success_same : (go go' : State → Option Ending) (m : ℕ) (list : List State) → Lower m list → ((s : State) → measure w code s < m → go s ≡ go' s)
      → first_success go list ≡ first_success go' list
  first_success_same go go' m [] h e = refl
  first_success_same go go' m (s ∷ rest) h e = ap (λ o. option_or o (first_success go rest)) (e s h.0) ∙ ap (option_or (go' s)) (first_success_same go go' m rest h.1 e)

  visit_same : (go go' : State → Option Ending) (s : State) (o : Option Instruction) → slice_get code s.pc ≡ o → ((s' : State) → measure w code s' < measure w code s → go s' ≡ go' s') → visit w go o s ≡ visit w go' o s
  visit_same go go' s None h e = refl
  visit_same go go' s (Some x) h e = ap (made x s.at) (first_success_same go go' (measure w code s) _ (follow_lower x s.pc s.at s.taken (slice_get_within code s.pc x h)) e)

  -- more steps than the measure change nothing
  stable : (n m : ℕ) (s : State) → measure w code s < n → measure w code s < m → run_within w code n s ≡ run_within w code m s
  unfolding run_within
  stable zero m s h g = absurd (omega arith)
  stable (suc n) zero s h g = absurd (omega arith)
  stable (suc n) (suc m) s h g = visit_same (run_within w code n) (run_within w code m) s (slice_get code s.pc) refl (λ s' lt. stable n m s' (omega arith) (omega arith))

  pub run_visit : (s : State) (o : Option Instruction) → slice_get code s.pc ≡ o → run w code s ≡ visit w (run w code) o s
  unfolding run run_within
  run_visit s o e =
      ap (λ z. visit w (run_within w code (measure w code s)) z s) e
      ∙ visit_same (run_within w code (measure w code s)) (run w code) s o e (λ s' lt. stable (measure w code s) (suc (measure w code s')) s' lt (omega arith))
