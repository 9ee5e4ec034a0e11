-- How many steps may still be taken falls with each step.
use Rattle.std.proofs.Common.{◌≡◌, ℕ, zero, suc, ◌+◌, ◌-◌, ◌*◌, ◌<◌, ◌≤◌, Bool, true, false, not, List, [], ◌∷◌, ◌++◌, length, take, drop, map, set, get_or, sum, refl, sym, ◌∙◌, ap, inl, inr, ◌⊎◌, arith, length-append}
use Rattle.std.specs.Prelude.{Option, Some, None, slice_get}
use Rattle.std.proofs.Math.Nat.{mul-le-mul_right}
use Rattle.std.proofs.lemmas.List.{get_or_append_left, get_or-append-add, take_at, drop_at, drop-drop}
use Rattle.std.proofs.lemmas.List.Sums.{sum_by-cons, sum_by-append}
use Rattle.od_machine.specs.Dues.{repeated, unset_weight, place_weights, owed, led_through, due, work_left}
use Rattle.od_machine.specs.Machine.{Input, State, weight, follow}
use Rattle.od_machine.specs.Points.{target_of, stretch, runs}
use Rattle.od_machine.specs.Search.{index, thread, state_of, TakesMark}
use Rattle.od_machine.specs.declared.instruction.Instruction.{Instruction}
use Rattle.od_machine.specs.declared.points.Points.{Points}
use Rattle.od_machine.specs.declared.thread.Thread.{Thread}
use Rattle.od_machine.proofs.Meetings.{numbered_at, run_at, stretch_none, ahead_of, ahead-follow}
use Rattle.od_machine.proofs.Search.{slot-lt, side-lt}

sum-cons : (n : ℕ) (ns : List ℕ) → sum (n ∷ ns) ≡ n + sum ns
sum-cons n ns = sum_by-cons (λ (z : ℕ). z) n ns

sum-append : (a b : List ℕ) → sum (a ++ b) ≡ sum a + sum b
sum-append a b = sum_by-append (λ (z : ℕ). z) a b

weight-le : (b : Bool) (n : ℕ) → weight b n ≤ n
weight-le true n = omega arith
weight-le false n = omega arith

-- a mark that is set takes its weight
weight-set : (ns : List ℕ) (marks : List Bool) (n : ℕ) → n < length marks → get_or marks n false ≡ false → unset_weight ns (set marks n true) + get_or ns n 0 ≡ unset_weight ns marks
weight-set [] marks n h e = refl
weight-set (w ∷ ns) [] n h e = absurd (omega arith)
weight-set (w ∷ ns) (mark ∷ marks) zero h e =
    let q : weight (not mark) w ≡ w = ap (λ (b : Bool). weight (not b) w) e in
    omega arith
weight-set (w ∷ ns) (mark ∷ marks) (suc n) h e = omega (arith, weight-set ns marks n (omega arith) e)

-- no more than all weights
weight-all : (ns : List ℕ) (marks : List Bool) → unset_weight ns marks ≤ sum ns
weight-all [] marks = omega arith
weight-all (w ∷ ns) [] = omega arith
weight-all (w ∷ ns) (mark ∷ marks) = omega (arith, weight-all ns marks, weight-le (not mark) w, sum-cons w ns)

-- marks that are taken off bring no more than their weights
weight-off : (ns : List ℕ) (old new : List Bool) (from many : ℕ) → length new ≡ length old → ((n : ℕ) → (n < from) ⊎ (from + many ≤ n) → get_or new n false ≡ get_or old n false)
    → unset_weight ns new ≤ unset_weight ns old + sum (take many (drop from ns))
weight-off [] old new from many len others = omega arith
weight-off (w ∷ ns) [] [] from many len others = omega arith
weight-off (w ∷ ns) (x ∷ xs) [] from many len others = absurd (omega arith)
weight-off (w ∷ ns) [] (y ∷ ys) from many len others = absurd (omega arith)
weight-off (w ∷ ns) (x ∷ xs) (y ∷ ys) (suc from) many len others =
    let rest = weight-off ns xs ys from many (omega arith) (λ n out. others (suc n) (elim out [ inl lt ↦ inl (omega arith) | inr ge ↦ inr (omega arith) ])) in
    let same : weight (not y) w ≡ weight (not x) w = ap (λ (b : Bool). weight (not b) w) (others 0 (inl (omega arith))) in
    omega (arith, rest, same)
weight-off (w ∷ ns) (x ∷ xs) (y ∷ ys) zero zero len others =
    let rest : unset_weight ns ys ≤ unset_weight ns xs + 0 = weight-off ns xs ys zero zero (omega arith) (λ n out. others (suc n) (inr (omega arith))) in
    let same : weight (not y) w ≡ weight (not x) w = ap (λ (b : Bool). weight (not b) w) (others 0 (inr (omega arith))) in
    omega (arith, rest, same)
weight-off (w ∷ ns) (x ∷ xs) (y ∷ ys) zero (suc many) len others =
    let rest : unset_weight ns ys ≤ unset_weight ns xs + sum (take many ns) =
    weight-off ns xs ys zero many (omega arith) (λ n out. others (suc n) (elim out [ inl lt ↦ absurd (omega arith) | inr ge ↦ inr (omega arith) ])) in
    omega (arith, rest, weight-le (not y) w, sum-cons w (take many ns))

-- a row that is repeated
sum-repeated : (n : ℕ) (row : List ℕ) → sum (repeated n row) ≡ n * sum row
sum-repeated zero row = omega arith
sum-repeated (suc n) row = omega (arith, sum-append row (repeated n row), sum-repeated n row)

-- the element of a row
repeated-at : (n : ℕ) (row : List ℕ) (k i : ℕ) → k < n → i < length row → get_or (repeated n row) (k * length row + i) 0 ≡ get_or row i 0
repeated-at zero row k i h g = absurd (omega arith)
repeated-at (suc n) row zero i h g = ap (λ (z : ℕ). get_or (row ++ repeated n row) z 0) (let q : 0 * length row + i ≡ i = omega arith in q) ∙ get_or_append_left row (repeated n row) 0 i g
repeated-at (suc n) row (suc k) i h g =
    ap (λ (z : ℕ). get_or (row ++ repeated n row) z 0) (let q : suc k * length row + i ≡ length row + (k * length row + i) = omega arith in q)
    ∙ get_or-append-add row (repeated n row) (k * length row + i) 0 ∙ repeated-at n row k i (omega arith) g

take-nil : (n : ℕ) → take {A = ℕ} n [] ≡ []
take-nil zero = refl
take-nil (suc n) = refl

drop-nil : (n : ℕ) → drop {A = ℕ} n [] ≡ []
drop-nil zero = refl
drop-nil (suc n) = refl

-- one row of them at most
row-le : (n : ℕ) (row : List ℕ) (k : ℕ) → sum (take (length row) (drop (k * length row) (repeated n row))) ≤ sum row
row-le zero row k =
    let q : sum (take (length row) (drop (k * length row) [])) ≡ 0 = ap (λ (z : List ℕ). sum (take (length row) z)) (drop-nil (k * length row)) ∙ ap sum (take-nil (length row)) in
    omega arith
row-le (suc n) row zero =
    let all : List ℕ = row ++ repeated n row in
    let q : sum (take (length row) (drop (0 * length row) all)) ≡ sum row =
    ap (λ (z : ℕ). sum (take (length row) (drop z all))) (let z : 0 * length row ≡ 0 = omega arith in z) ∙ ap sum (take_at row (repeated n row) (length row) refl) in
    omega arith
row-le (suc n) row (suc k) =
    let all : List ℕ = row ++ repeated n row in
    let e : drop (suc k * length row) all ≡ drop (k * length row) (repeated n row) =
    ap (λ (z : ℕ). drop z all) (let z : suc k * length row ≡ length row + k * length row = omega arith in z)
    ∙ sym (drop-drop (k * length row) (length row) all) ∙ ap (drop (k * length row)) (drop_at row (repeated n row) (length row) refl) in
    let q : sum (take (length row) (drop (suc k * length row) all)) ≡ sum (take (length row) (drop (k * length row) (repeated n row))) = ap (λ (z : List ℕ). sum (take (length row) z)) e in
    omega (arith, q, row-le n row k)

module _ (points : Points) (tokens : ℕ) where
  width : length (place_weights points) ≡ 2 * points.count
  width = omega (arith, length-append (runs points.slots) (runs points.slots), points.counted)

  -- the weight of a meeting point's mark
  weight-at : (s : State) (slot : ℕ) → s.at ≤ tokens → slice_get points.slots s.pc ≡ Some (Some slot)
      → get_or (repeated (tokens + 1) (place_weights points)) (index points.count slot s) 0 ≡ suc (stretch points.slots (suc s.pc))
  weight-at s slot h e =
      let ns : List ℕ = runs points.slots in
      let row : List ℕ = ns ++ ns in
      let r = run_at 0 points.slots s.pc slot (numbered_at points.slots points.numbered) e in
      let few : slot < length ns = let q : slot < 0 + length ns = r.1 in omega arith in
      let run : get_or ns slot 0 ≡ suc (stretch points.slots (suc s.pc)) = ap (λ (z : ℕ). get_or ns z 0) (let q : slot ≡ slot - 0 = omega arith in q) ∙ r.2 in
      let i : ℕ = weight s.taken points.count + slot in
      ap (λ (z : ℕ). get_or (repeated (tokens + 1) row) (s.at * z + i) 0) (sym width)
      ∙ repeated-at (tokens + 1) row s.at i (omega arith) (inside s.taken slot few)
      ∙ side s.taken slot few ∙ run
    where
      inside : (b : Bool) (slot : ℕ) → slot < length (runs points.slots) → weight b points.count + slot < length (place_weights points)
      inside true slot few = omega (arith, width, points.counted)
      inside false slot few = omega (arith, width, points.counted)

      side : (b : Bool) (slot : ℕ) → slot < length (runs points.slots) → get_or (place_weights points) (weight b points.count + slot) 0 ≡ get_or (runs points.slots) slot 0
      side true slot few =
          ap (λ (z : ℕ). get_or (place_weights points) (z + slot) 0) points.counted ∙ get_or-append-add (runs points.slots) (runs points.slots) slot 0
      side false slot few =
          ap (λ (z : ℕ). get_or (place_weights points) z 0) (let q : 0 + slot ≡ slot = omega arith in q) ∙ get_or_append_left (runs points.slots) (runs points.slots) 0 slot few

  -- at first
  pub owed-start : (marks : List Bool) → owed points tokens marks ≤ (tokens + 1) * (2 * sum (runs points.slots))
  unfolding owed
  owed-start marks =
      let row : List ℕ = place_weights points in
      let a : sum row ≡ 2 * sum (runs points.slots) = omega (arith, sum-append (runs points.slots) (runs points.slots)) in
      let b : (tokens + 1) * sum row ≡ (tokens + 1) * (2 * sum (runs points.slots)) = ap (λ (z : ℕ). (tokens + 1) * z) a in
      omega (arith, weight-all (repeated (tokens + 1) row) marks, sum-repeated (tokens + 1) row, b)

  -- once the marks of a place are off
  pub owed-off : (old new : List Bool) (at : ℕ) → length new ≡ length old
      → ((n : ℕ) → (n < at * (2 * points.count)) ⊎ (at * (2 * points.count) + 2 * points.count ≤ n) → get_or new n false ≡ get_or old n false)
      → owed points tokens new ≤ owed points tokens old + 2 * sum (runs points.slots)
  unfolding owed
  owed-off old new at len others =
      let row : List ℕ = place_weights points in
      let all : List ℕ = repeated (tokens + 1) row in
      let count : ℕ = 2 * points.count in
      let a : sum row ≡ 2 * sum (runs points.slots) = omega (arith, sum-append (runs points.slots) (runs points.slots)) in
      let off : unset_weight all new ≤ unset_weight all old + sum (take count (drop (at * count) all)) = weight-off all old new (at * count) count len others in
      let few : sum (take (length row) (drop (at * length row) all)) ≤ sum row = row-le (tokens + 1) row at in
      let same : sum (take (length row) (drop (at * length row) all)) ≡ sum (take count (drop (at * count) all)) = ap (λ (z : ℕ). sum (take z (drop (at * z) all))) width in
      omega (arith, off, few, same, a)

  -- what is left once a state was taken up, which pays for what it leads through
  spent : (s : State) (slot : Option ℕ) (old new : List Bool) → s.at ≤ tokens → (tokens + 1) * (2 * points.count) ≤ length old → slice_get points.slots s.pc ≡ Some slot
      → TakesMark points.count slot s true old new → owed points tokens new + suc (stretch points.slots (suc s.pc)) ≤ owed points tokens old + stretch points.slots s.pc
  unfolding owed
  spent s None old new h room e t =
      let q : stretch points.slots s.pc ≡ suc (stretch points.slots (suc s.pc)) = stretch_none points.slots s.pc e in
      let p : owed points tokens new ≡ owed points tokens old = ap (owed points tokens) t.1 in
      omega arith
  spent s (Some slot) old new h room e t =
      let all : List ℕ = repeated (tokens + 1) (place_weights points) in
      let n : ℕ = index points.count slot s in
      let inside : n < length old = below s.taken slot (slot-lt points s.pc slot e) in
      let set' : unset_weight all (set old n true) + get_or all n 0 ≡ unset_weight all old = weight-set all old n inside t.0 in
      let same : unset_weight all new ≡ unset_weight all (set old n true) = ap (unset_weight all) t.1 in
      omega (arith, set', same, weight-at s slot h e)
    where
      below : (b : Bool) (slot : ℕ) → slot < points.count → s.at * (2 * points.count) + (weight b points.count + slot) < length old
      below b slot few =
          let le : (s.at + 1) * (2 * points.count) ≤ (tokens + 1) * (2 * points.count) = mul-le-mul_right (2 * points.count) (omega arith) in
          let side : weight b points.count + slot < 2 * points.count = side-lt b points.count slot few in
          omega (arith, le, side, room)

  led-push : (n : ℕ) (list : List State) (ts : List Thread) → led_through points (map (thread n) list ++ ts) ≡ ahead_of points.slots list + led_through points ts
  led-push n [] ts = omega arith
  led-push n (s ∷ list) ts = omega (arith, led-push n list ts)

  -- a state that is taken up is a step
  pub due-visit : (w : Input) (x : Instruction) (t : Thread) (ts ts' : List Thread) (slot : Option ℕ) (m : ℕ) (old new : List Bool) → t.at ≤ tokens → (tokens + 1) * (2 * points.count) ≤ length old
      → slice_get points.slots t.pc ≡ Some slot → TakesMark points.count slot (state_of t) true old new → ((to : ℕ) → target_of x t.pc ≡ Some to → stretch points.slots to ≡ 0)
      → ts' ≡ map (thread m) (follow w x t.pc t.taken t.at) ++ ts → due points tokens new ts' < due points tokens old (t ∷ ts)
  due-visit w x t ts ts' slot m old new h room e takes leads ets =
      let list : List State = follow w x t.pc t.taken t.at in
      let pushed : led_through points ts' ≡ ahead_of points.slots list + led_through points ts = ap (led_through points) ets ∙ led-push m list ts in
      let followed : ahead_of points.slots list ≤ stretch points.slots (t.pc + 1) = ahead-follow w points.slots x t.pc t.at t.taken leads in
      let next : stretch points.slots (t.pc + 1) ≡ stretch points.slots (suc t.pc) = ap (stretch points.slots) (let q : t.pc + 1 ≡ suc t.pc = omega arith in q) in
      omega (arith, pushed, followed, next, spent (state_of t) slot old new h room e takes)

  -- and work that is done
  pub work-visit : (old new : List Bool) (ts ts' : List Thread) (t : Thread) → due points tokens new ts' < due points tokens old (t ∷ ts) → length ts' ≤ length ts + (tokens + 2)
      → work_left points tokens new ts' < work_left points tokens old (t ∷ ts)
  work-visit old new ts ts' t lt few =
      let le : (due points tokens new ts' + 1) * (tokens + 3) ≤ due points tokens old (t ∷ ts) * (tokens + 3) = mul-le-mul_right (tokens + 3) (omega arith) in
      omega (arith, le)

  -- so is a thread that is dropped
  pub work-drop : (marks : List Bool) (ts : List Thread) (t : Thread) → work_left points tokens marks ts < work_left points tokens marks (t ∷ ts)
  work-drop marks ts t =
      let le : due points tokens marks ts * (tokens + 3) ≤ due points tokens marks (t ∷ ts) * (tokens + 3) = mul-le-mul_right (tokens + 3) (omega arith) in
      omega (arith, le)
