-- Each step of the search keeps what the threads have to say.
use Rattle.std.proofs.Common.{◌≡◌, ℕ, zero, suc, ◌+◌, ◌-◌, ◌*◌, ◌<◌, ◌≤◌, ◌⊎◌, ◌≢◌, Bool, true, false, List, [], ◌∷◌, ◌++◌, length, take, map, refl, sym, ◌∙◌, ap, subst, inl, inr, arith, length-append}
use Rattle.std.proofs.lemmas.Option.{slice_get_within}
use Rattle.std.proofs.lemmas.List.{take-append-le, length-take-le, get_or-set_other}
use Rattle.std.proofs.Math.Nat.{mul-le-mul_right}
use Rattle.std.proofs.lemmas.Bool.{cases_eq, cases_lt, ltb-true}
use Rattle.std.specs.Prelude.{Option, Some, None, IfSome, option_map, slice_get, slice_index_or, if◌then◌else◌, ◌==◌}
use Rattle.std.specs.Option.{option_or}
use Rattle.od_matching.specs.Matching.First.{Ending, accept, opened, open_capture}
use Rattle.od_machine.specs.Machine.{Input, fits_row, peeks, State, state, in_turn, targets, follow, first_success, made, weight, measure, run}
use Rattle.od_machine.specs.Search.{state_of, thread, name_in, act, replay, events_of, index, TakesMark, Fits, Inside, pending, Succeeds, Below, Marked, FailFrom, Searching}
use Rattle.od_machine.specs.Points.{runs}
use Rattle.od_machine.specs.declared.points.Points.{Points}
use Rattle.od_machine.proofs.Meetings.{numbered_at, run_at, same_slot}
use Rattle.od_machine.proofs.Runs.{farther, left_of, Lower, follow_lower, run_visit}
use Rattle.od_machine.specs.declared.instruction.Instruction.{Instruction}
use Rattle.od_machine.specs.declared.instruction.Instruction.TheVariants.{Take, Jump, Peek, AtFirst, AtLast, Split, Skip, Turn, Turned, Again, Open, Close, Fail, Match}
use Rattle.od_machine.specs.declared.thread.Thread.{Thread}
use Rattle.od_machine.specs.declared.thread.Event.{Event}
use Rattle.od_machine.specs.declared.thread.Event.TheVariants.{Opened, Closed}

or_none : (o : Option Ending) → option_or o None ≡ o
or_none None = refl
or_none (Some x) = refl

or_assoc : (a b c : Option Ending) → option_or (option_or a b) c ≡ option_or a (option_or b c)
or_assoc None b c = refl
or_assoc (Some x) b c = refl

map_or : (f : Ending → Ending) (a b : Option Ending) → option_map f (option_or a b) ≡ option_or (option_map f a) (option_map f b)
map_or f None b = refl
map_or f (Some x) b = refl

module _ (code : List Instruction) where
  replay-none : (es : List Event) → replay code es None ≡ None
  unfolding replay
  replay-none [] = refl
  replay-none (e ∷ es) = ap (option_map (act code e)) (replay-none es)

  replay-or : (es : List Event) (a b : Option Ending) → replay code es (option_or a b) ≡ option_or (replay code es a) (replay code es b)
  unfolding replay
  replay-or [] a b = refl
  replay-or (e ∷ es) a b = ap (option_map (act code e)) (replay-or es a b) ∙ map_or (act code e) (replay code es a) (replay code es b)

  replay-append : (es fs : List Event) (o : Option Ending) → replay code (es ++ fs) o ≡ replay code es (replay code fs o)
  unfolding replay
  replay-append [] fs o = refl
  replay-append (e ∷ es) fs o = ap (option_map (act code e)) (replay-append es fs o)

  pub replay-push : (es : List Event) (e : Event) (o : Option Ending) → replay code (es ++ e ∷ []) o ≡ replay code es (option_map (act code e) o)
  unfolding replay
  replay-push es e o = replay-append es (e ∷ []) o

  pub replay-nil : (o : Option Ending) → replay code [] o ≡ o
  unfolding replay
  replay-nil o = refl

  pub replay-some : (es : List Event) (o : Ending) → (o' : Ending) × (replay code es (Some o) ≡ Some o')
  unfolding replay
  replay-some [] o = (o, refl)
  replay-some (e ∷ es) o = let r = replay-some es o in (act code e r.0, ap (option_map (act code e)) r.1)

  opened_end : (name : List ℕ) (i end : ℕ) (captures : _) (ends : List ℕ) → (opened name i end captures ends).end ≡ end
  opened_end name i end captures [] = refl
  opened_end name i end captures (j ∷ ends) = refl

  act_end : (e : Event) (o : Ending) → (act code e o).end ≡ o.end
  act_end (Opened pc at) o = opened_end (name_in (slice_get code pc)) at o.end o.captures o.ends
  act_end (Closed at) o = refl

  -- events leave the end of a way where it is
  pub replay-end : (es : List Event) (o : Ending) → (replay-some es o).0.end ≡ o.end
  unfolding replay replay-some
  replay-end [] o = refl
  replay-end (e ∷ es) o = act_end e (replay-some es o).0 ∙ replay-end es o

  -- what an instruction makes of the rest is what it leaves on the trail
  pub made_events : (x : Instruction) (pc at : ℕ) (o : Option Ending) → slice_get code pc ≡ Some x → x ≢ Match → made x at o ≡ replay code (events_of x pc at) o
  unfolding replay
  made_events (Open name) pc at o e ne = ap (λ z. option_map (open_capture (name_in z) at) o) (sym e)
  made_events Close pc at o e ne = refl
  made_events Match pc at o e ne = absurd (ne refl)
  made_events (Take n) pc at o e ne = refl
  made_events (Jump n) pc at o e ne = refl
  made_events (Peek a p n) pc at o e ne = refl
  made_events AtFirst pc at o e ne = refl
  made_events AtLast pc at o e ne = refl
  made_events (Split n) pc at o e ne = refl
  made_events (Skip n) pc at o e ne = refl
  made_events (Turn l n) pc at o e ne = refl
  made_events Turned pc at o e ne = refl
  made_events (Again l n) pc at o e ne = refl
  made_events Fail pc at o e ne = refl

-- places have different marks
apart : (n a b p q : ℕ) → p < n → q < n → a * n + p ≡ b * n + q → a < b → ⊥
apart n a b p q hp hq e lt =
    let h : suc a * n ≤ b * n = mul-le-mul_right n lt in
    omega (arith, h)

-- a place's marks: those with no token taken before the others
sides : (x y : Bool) (count m k : ℕ) → m < count → k < count → weight x count + m ≡ weight y count + k → (x ≡ y) × (m ≡ k)
sides true true count m k h g e = (refl, omega arith)
sides false false count m k h g e = (refl, omega arith)
sides true false count m k h g e = absurd (omega arith)
sides false true count m k h g e = absurd (omega arith)

-- a mark's number lies among those of its place
pub side-lt : (x : Bool) (count m : ℕ) → m < count → weight x count + m < 2 * count
side-lt true count m h = omega arith
side-lt false count m h = omega arith

same_mark : (count m k : ℕ) (s t : State) → m < count → k < count → index count m s ≡ index count k t → (s.at ≡ t.at) × (s.taken ≡ t.taken) × (m ≡ k)
same_mark count m k s t hm hk e =
    let ls : weight s.taken count + m < 2 * count = side-lt s.taken count m hm in
    let lt : weight t.taken count + k < 2 * count = side-lt t.taken count k hk in
    let there : s.at ≡ t.at =
    elim (cases_lt s.at t.at) [
      | inl before ↦ absurd (apart (2 * count) s.at t.at (weight s.taken count + m) (weight t.taken count + k) ls lt e before)
      | inr le ↦
          elim (cases_lt t.at s.at) [
            | inl after ↦ absurd (apart (2 * count) t.at s.at (weight t.taken count + k) (weight s.taken count + m) lt ls (sym e) after)
            | inr ge ↦ let q : s.at ≡ t.at = omega arith in q
          ]
    ] in
    let row : s.at * (2 * count) ≡ t.at * (2 * count) = ap (λ (z : ℕ). z * (2 * count)) there in
    let r = sides s.taken t.taken count m k hm hk (let q : weight s.taken count + m ≡ weight t.taken count + k = omega (arith, e, row) in q) in
    (there, r.0, r.1)

-- the meeting point with a number, which is below their count
pub slot-lt : (points : Points) (pc slot : ℕ) → slice_get points.slots pc ≡ Some (Some slot) → slot < points.count
slot-lt points pc slot e =
    let r = run_at 0 points.slots pc slot (numbered_at points.slots points.numbered) e in
    let h : slot < 0 + length (runs points.slots) = r.1 in
    omega (arith, points.counted)

pub slot-few : (points : Points) (pc : ℕ) (slot : Option ℕ) → slice_get points.slots pc ≡ Some slot → IfSome slot (λ n. n < points.count)
slot-few points pc None e = tt
slot-few points pc (Some slot) e = slot-lt points pc slot e

-- a state that is not taken up leaves the marks as they are
pub same_marks : (count : ℕ) (slot : Option ℕ) (s : State) (old new : List Bool) → TakesMark count slot s false old new → new ≡ old
same_marks count None s old new h = h.1
same_marks count (Some slot) s old new h = h.1

-- states where ways can meet have different marks
same_state : (points : Points) (m k : ℕ) (s t : State) → slice_get points.slots s.pc ≡ Some (Some m) → slice_get points.slots t.pc ≡ Some (Some k) → index points.count m s ≡ index points.count k t → s ≡ t
same_state points m k s t es et e =
    let r = same_mark points.count m k s t (slot-lt points s.pc m es) (slot-lt points t.pc k et) e in
    let there : slice_get points.slots t.pc ≡ Some (Some m) = et ∙ ap (λ (z : ℕ). Some (Some z)) (sym r.2) in
    let p : s.pc ≡ t.pc = same_slot 0 points.slots s.pc t.pc m (numbered_at points.slots points.numbered) es there in
    ap (λ z. state z s.taken s.at) p ∙ ap (λ z. state t.pc z s.at) r.1 ∙ ap (λ z. state t.pc t.taken z) r.0

module _ (w : Input) (code : List Instruction) where
  -- the trail may grow past what the threads share
  pending_longer : (trail more : List Event) (ts : List Thread) → Fits (length trail) ts → pending w code (trail ++ more) ts ≡ pending w code trail ts
  unfolding pending
  pending_longer trail more [] h = refl
  pending_longer trail more (t ∷ ts) h =
      ap (λ z. option_or (replay code z (run w code (state_of t))) (pending w code z ts)) (take-append-le t.events trail more h.0)

  pending_push : (trail : List Event) (list : List State) (ts : List Thread)
      → pending w code trail (map (thread (length trail)) list ++ ts) ≡ option_or (replay code trail (first_success (run w code) list)) (pending w code trail ts)
  unfolding pending
  pending_push trail [] ts = ap (λ z. option_or z (pending w code trail ts)) (sym (replay-none code trail))
  pending_push trail (s ∷ list) ts =
      ap (λ z. option_or (replay code z (run w code s)) (pending w code z (map (thread (length trail)) list ++ ts))) (take_all trail)
      ∙ ap (option_or (replay code trail (run w code s))) (pending_push trail list ts)
      ∙ sym (or_assoc (replay code trail (run w code s)) (replay code trail (first_success (run w code) list)) (pending w code trail ts))
      ∙ ap (λ z. option_or z (pending w code trail ts)) (sym (replay-or code trail (run w code s) (first_success (run w code) list)))
    where
      take_all : (xs : List Event) → take (length xs) xs ≡ xs
      take_all [] = refl
      take_all (x ∷ xs) = ap (λ z. x ∷ z) (take_all xs)

  Below_past : (m n : ℕ) (list : List State) (ts : List Thread) → Lower w code m list → Below w code m ts → Below w code m (map (thread n) list ++ ts)
  Below_past m n [] ts h b = b
  Below_past m n (s ∷ list) ts h b = (h.0, inr (Below_past m n list ts h.1 b))

  Below_front : (m n : ℕ) (list : List State) (ts : List Thread) (o : Ending) → Lower w code m list → first_success (run w code) list ≡ Some o → Below w code m (map (thread n) list ++ ts)
  Below_front m n [] ts o h e = absurd (let p : None ≡ Some o = e in cc)
  Below_front m n (s ∷ list) ts o h e = (h.0, go (run w code s) refl e (λ r. Below_front m n list ts o h.1 r))
    where
      go : (x : Option Ending) → run w code s ≡ x → option_or x (first_success (run w code) list) ≡ Some o
          → (first_success (run w code) list ≡ Some o → Below w code m (map (thread n) list ++ ts)) → Succeeds w code s ⊎ Below w code m (map (thread n) list ++ ts)
      go (Some y) q r ih = inl (y, q)
      go None q r ih = inr (ih r)

  Fits-weaken : (m n : ℕ) (ts : List Thread) → m ≤ n → Fits m ts → Fits n ts
  Fits-weaken m n [] le h = tt
  Fits-weaken m n (t ∷ ts) le h = (let a : t.events ≤ m = h.0 in omega arith, h.1)

  Fits-push : (n : ℕ) (list : List State) (ts : List Thread) → Fits n ts → Fits n (map (thread n) list ++ ts)
  Fits-push n [] ts h = h
  Fits-push n (s ∷ list) ts h = (omega arith, Fits-push n list ts h)

  Lower-weaken : (m n : ℕ) (list : List State) → m ≤ n → Lower w code m list → Lower w code n list
  Lower-weaken m n [] le h = tt
  Lower-weaken m n (s ∷ list) le h = (let a : measure w code s < m = h.0 in omega arith, Lower-weaken m n list le h.1)

  some_or_none : (s : State) → Succeeds w code s ⊎ (run w code s ≡ None)
  some_or_none s = go (run w code s) refl
    where
      go : (x : Option Ending) → run w code s ≡ x → Succeeds w code s ⊎ (run w code s ≡ None)
      go None e = inr e
      go (Some o) e = inl (o, e)

  some_front : (ext : List Event) (fs : Option Ending) (o : Ending) → replay code ext fs ≡ Some o → (o' : Ending) × (fs ≡ Some o')
  some_front ext None o e = absurd (let p : None ≡ Some o = sym (replay-none code ext) ∙ e in cc)
  some_front ext (Some x) o e = (x, refl)

  -- the states stand at places from a to the sentence's end
  abbrev AllAt : ℕ → List State → Type 0
  AllAt a [] = Unit {0}
  AllAt a (s ∷ list) = (a ≤ s.at) × (s.at ≤ w.length) × AllAt a list

  AllAt-append : (a : ℕ) (xs ys : List State) → AllAt a xs → AllAt a ys → AllAt a (xs ++ ys)
  AllAt-append a [] ys h g = g
  AllAt-append a (s ∷ xs) ys h g = (h.0, h.1, AllAt-append a xs ys h.2 g)

  AllAt-if : (a : ℕ) (b : Bool) (s : State) → (b ≡ true → (a ≤ s.at) × (s.at ≤ w.length)) → AllAt a (if b then s ∷ [] else [])
  AllAt-if a true s h = let r = h refl in (r.0, r.1, tt)
  AllAt-if a false s h = tt

  AllAt-turn : (a : ℕ) (lazy : Bool) (s s' : State) → a ≤ s.at → s.at ≤ w.length → a ≤ s'.at → s'.at ≤ w.length → AllAt a (in_turn lazy s s')
  AllAt-turn a true s s' h g h' g' = (h', g', (h, g, tt))
  AllAt-turn a false s s' h g h' g' = (h, g, (h', g', tt))

  AllAt-targets : (f : ℕ → ℕ → Bool) (a pc at n : ℕ) → a ≤ at → n ≤ w.length - at → AllAt a (targets f pc at n)
  AllAt-targets f a pc at zero h g = tt
  AllAt-targets f a pc at (suc n) h g =
      AllAt-append a (if f at (at + suc n) then state pc true (at + suc n) ∷ [] else []) (targets f pc at n)
      (AllAt-if a (f at (at + suc n)) (state pc true (at + suc n)) (λ e. (omega arith, omega arith))) (AllAt-targets f a pc at n h (omega arith))

  follow_inside : (x : Instruction) (a pc at : ℕ) (b : Bool) → a ≤ at → at ≤ w.length → AllAt a (follow w x pc b at)
  follow_inside (Take n) a pc at b g h = AllAt-if a (fits_row w n at) _ (λ e. let lt : at < w.length = ltb-true at w.length (left_of _ _ e) in (omega arith, omega arith))
  follow_inside (Jump name) a pc at b g h = AllAt-targets (w.is_span name) a (pc + 1) at (w.length - at) g (omega arith)
  follow_inside (Peek ahead positive n) a pc at b g h = AllAt-if a (peeks w n ahead positive at) _ (λ e. (g, h))
  follow_inside AtFirst a pc at b g h = AllAt-if a (at == 0) _ (λ e. (g, h))
  follow_inside AtLast a pc at b g h = AllAt-if a (at == w.length) _ (λ e. (g, h))
  follow_inside (Split n) a pc at b g h = (g, h, (g, h, tt))
  follow_inside (Skip n) a pc at b g h = (g, h, tt)
  follow_inside (Turn lazy n) a pc at b g h = AllAt-turn a lazy _ _ g h g h
  follow_inside Turned a pc at b g h = AllAt-if a b _ (λ e. (g, h))
  follow_inside (Again lazy n) a pc at true g h = AllAt-turn a lazy _ _ g h g h
  follow_inside (Again lazy n) a pc at false g h = tt
  follow_inside (Open name) a pc at b g h = (g, h, tt)
  follow_inside Close a pc at b g h = (g, h, tt)
  follow_inside Fail a pc at b g h = tt
  follow_inside Match a pc at b g h = tt

  Inside-push : (a n : ℕ) (list : List State) (ts : List Thread) → AllAt a list → Inside a w.length ts → Inside a w.length (map (thread n) list ++ ts)
  Inside-push a n [] ts h g = g
  Inside-push a n (s ∷ list) ts h g = (h.0, h.1, Inside-push a n list ts h.2 g)

  -- a state at a later place has the lower measure
  later : (s t : State) → t.at < s.at → s.at ≤ w.length → measure w code s < measure w code t
  unfolding measure
  later s t lt le = farther w.length t.at s.at (length code) _ _ lt le (small s.taken s.pc)
    where
      small : (b : Bool) (pc : ℕ) → weight b (length code + 1) + (length code - pc) ≤ length code + 1 + length code
      small true pc = omega arith
      small false pc = omega arith

module _ (w : Input) (code : List Instruction) (points : Points) where
  -- the first thread fails
  pub drop_dead : (a : ℕ) (goal : Option Ending) (seen : List Bool) (trail : List Event) (t : Thread) (ts : List Thread) → Searching w code points a goal seen trail (t ∷ ts)
      → run w code (state_of t) ≡ None → Searching w code points a goal seen (take t.events trail) ts
  unfolding pending
  drop_dead a goal seen trail t ts d e =
      let tr : List Event = take t.events trail in
      let none : replay code tr (run w code (state_of t)) ≡ None = ap (replay code tr) e ∙ replay-none code tr in
      record {
        value = sym (ap (λ z. option_or z (pending w code tr ts)) none) ∙ d.value;
        covers = λ s marked ok.
            let b = d.covers s marked ok in
            elim b.1 [ inl g ↦ absurd (let p : None ≡ Some g.0 = sym e ∙ g.1 in cc) | inr h ↦ h ];
        fits = subst (λ (n : ℕ). Fits n ts) (sym (length-take-le t.events trail d.fits.0)) d.fits.1;
        inside = d.inside.2;
      }

  -- the first thread's state was marked before
  pub drop_seen : (a : ℕ) (goal : Option Ending) (seen : List Bool) (trail : List Event) (t : Thread) (ts : List Thread) → Searching w code points a goal seen trail (t ∷ ts)
      → Marked w code points a seen (state_of t) → Searching w code points a goal seen (take t.events trail) ts
  drop_seen a goal seen trail t ts d marked =
      elim (some_or_none w code (state_of t)) [
        | inl g ↦ let b = d.covers (state_of t) marked g in let lt : measure w code (state_of t) < measure w code (state_of t) = b.0 in absurd (omega arith)
        | inr e ↦ drop_dead a goal seen trail t ts d e
      ]

  -- so it was not taken up
  pub drop_marked : (a : ℕ) (goal : Option Ending) (seen seen' : List Bool) (trail : List Event) (t : Thread) (ts : List Thread) (slot : Option ℕ) → Searching w code points a goal seen trail (t ∷ ts)
      → slice_get points.slots t.pc ≡ Some slot → TakesMark points.count slot (state_of t) false seen seen' → Searching w code points a goal seen' (take t.events trail) ts
  drop_marked a goal seen seen' trail t ts None d e h = absurd (let q : false ≡ true = h.0 in cc)
  drop_marked a goal seen seen' trail t ts (Some slot) d e h =
      subst (λ (z : List Bool). Searching w code points a goal z (take t.events trail) ts) (sym h.1)
      (drop_seen a goal seen trail t ts d (record { slot = slot; meets = e; from = d.inside.0; within = d.inside.1; mark = h.0 }))

  -- the first thread gives way to what follows it, and no other state is marked
  go_past : (a : ℕ) (goal : Option Ending) (seen seen' : List Bool) (trail : List Event) (t : Thread) (ts : List Thread) (x : Instruction) → Searching w code points a goal seen trail (t ∷ ts)
      → slice_get code t.pc ≡ Some x → x ≢ Match → ((s : State) → Marked w code points a seen' s → Marked w code points a seen s ⊎ (s ≡ state_of t))
      → Searching w code points a goal seen' (take t.events trail ++ events_of x t.pc t.at)
      (map (thread (length (take t.events trail ++ events_of x t.pc t.at))) (follow w x t.pc t.taken t.at) ++ ts)
  unfolding pending
  go_past a goal seen seen' trail t ts x d e ne kept =
      let tr : List Event = take t.events trail in
      let ext : List Event = events_of x t.pc t.at in
      let n : ℕ = length (tr ++ ext) in
      let list : List State = follow w x t.pc t.taken t.at in
      let fs : Option Ending = first_success (run w code) list in
      let s : State = state_of t in
      let le : t.events ≤ length trail = d.fits.0 in
      let tr_len : length tr ≡ t.events = length-take-le t.events trail le in
      let fits_tr : Fits (length tr) ts = subst (λ (m : ℕ). Fits m ts) (sym tr_len) d.fits.1 in
      let in_code : t.pc < length code = slice_get_within code t.pc x e in
      let lower : Lower w code (measure w code s) list = follow_lower w code x t.pc t.at t.taken in_code in
      let runs : run w code s ≡ replay code ext fs = run_visit w code s (Some x) e ∙ made_events code x t.pc t.at fs e ne in
      let whole : replay code tr (run w code s) ≡ replay code (tr ++ ext) fs = ap (replay code tr) runs ∙ sym (replay-append code tr ext fs) in
      let here : (m : ℕ) → measure w code s ≤ m → Succeeds w code s → Below w code m (map (thread n) list ++ ts) = λ m up ok.
      let f : (o' : Ending) × (fs ≡ Some o') = some_front w code ext fs ok.0 (sym runs ∙ ok.1) in
      Below_front w code m n list ts f.0 (Lower-weaken w code (measure w code s) m list up lower) f.1 in
      let old : (m : ℕ) → Below w code m (t ∷ ts) → Below w code m (map (thread n) list ++ ts) = λ m b.
      let lt : measure w code s < m = b.0 in
      elim b.1 [
        | inl ok ↦ here m (omega arith) ok
        | inr under ↦ Below_past w code m n list ts (Lower-weaken w code (measure w code s) m list (omega arith) lower) under
      ] in
      record {
        value =
            pending_push w code (tr ++ ext) list ts
            ∙ ap (option_or (replay code (tr ++ ext) fs)) (pending_longer w code tr ext ts fits_tr)
            ∙ ap (λ z. option_or z (pending w code tr ts)) (sym whole)
            ∙ d.value;
        covers = λ s' marked ok.
            elim (kept s' marked) [
              | inl before ↦ old (measure w code s') (d.covers s' before ok)
              | inr same ↦ here (measure w code s') (let q : measure w code s' ≡ measure w code s = ap (measure w code) same in omega arith) (subst (Succeeds w code) same ok)
            ];
        fits = Fits-push w code n list ts (Fits-weaken w code (length tr) n ts (let q : n ≡ length tr + length ext = length-append tr ext in omega arith) fits_tr);
        inside = Inside-push w code a n list ts (follow_inside w code x a t.pc t.at t.taken d.inside.0 d.inside.1) d.inside.2;
      }

  -- what is marked once the first thread is taken up
  marked_kept : (a : ℕ) (seen seen' : List Bool) (s : State) (slot : Option ℕ) → slice_get points.slots s.pc ≡ Some slot → TakesMark points.count slot s true seen seen'
      → (s' : State) → Marked w code points a seen' s' → Marked w code points a seen s' ⊎ (s' ≡ s)
  marked_kept a seen seen' s None e h s' marked = inl (subst (λ (z : List Bool). Marked w code points a z s') h.1 marked)
  marked_kept a seen seen' s (Some slot) e h s' marked =
      let n : ℕ = index points.count slot s in
      let n' : ℕ = index points.count marked.slot s' in
      elim (cases_eq n' n) [
        | inl same ↦ inr (same_state points marked.slot slot s' s marked.meets e same)
        | inr other ↦ inl (record {
          slot = marked.slot;
          meets = marked.meets;
          from = marked.from;
          within = marked.within;
          mark = sym (get_or-set_other seen n n' true false other) ∙ sym (ap (λ (z : List Bool). slice_index_or z n' false) h.1) ∙ marked.mark;
        })
      ]

  -- the first thread gives way to what follows it
  pub go_on : (a : ℕ) (goal : Option Ending) (seen seen' : List Bool) (trail trail' : List Event) (t : Thread) (ts ts' : List Thread) (x : Instruction) (slot : Option ℕ) (m : ℕ)
      → Searching w code points a goal seen trail (t ∷ ts) → slice_get code t.pc ≡ Some x → x ≢ Match → slice_get points.slots t.pc ≡ Some slot → TakesMark points.count slot (state_of t) true seen seen'
      → trail' ≡ take t.events trail ++ events_of x t.pc t.at → m ≡ length trail' → ts' ≡ map (thread m) (follow w x t.pc t.taken t.at) ++ ts
      → Searching w code points a goal seen' trail' ts'
  go_on a goal seen seen' trail trail' t ts ts' x slot m d e ne here h et em ets =
      let list : List State = follow w x t.pc t.taken t.at in
      let s = go_past a goal seen seen' trail t ts x d e ne (marked_kept a seen seen' (state_of t) slot here h) in
      let whole : m ≡ length (take t.events trail ++ events_of x t.pc t.at) = em ∙ ap length et in
      subst (λ (z : List Thread). Searching w code points a goal seen' trail' z) (sym ets)
      (subst (λ (z : ℕ). Searching w code points a goal seen' trail' (map (thread z) list ++ ts)) (sym whole)
      (subst (λ (z : List Event). Searching w code points a goal seen' z (map (thread (length (take t.events trail ++ events_of x t.pc t.at))) list ++ ts)) (sym et) s))

  -- the first thread is at the end
  pub found : (a : ℕ) (goal : Option Ending) (seen : List Bool) (trail : List Event) (t : Thread) (ts : List Thread) → Searching w code points a goal seen trail (t ∷ ts)
      → slice_get code t.pc ≡ Some Match → goal ≡ replay code (take t.events trail) (accept t.at)
  unfolding pending
  found a goal seen trail t ts d e =
      let tr : List Event = take t.events trail in
      let o : Ending = record { end = t.at; captures = []; ends = [] } in
      let r : (o' : Ending) × (replay code tr (Some o) ≡ Some o') = replay-some code tr o in
      let runs : replay code tr (run w code (state_of t)) ≡ Some r.0 = ap (replay code tr) (run_visit w code (state_of t) (Some Match) e) ∙ r.1 in
      sym d.value ∙ ap (λ z. option_or z (pending w code tr ts)) runs ∙ sym r.1

  -- no thread is left
  pub exhausted : (a : ℕ) (goal : Option Ending) (seen : List Bool) (trail : List Event) → Searching w code points a goal seen trail [] → goal ≡ None
  unfolding pending
  exhausted a goal seen trail d = sym d.value

  pub begin : (seen : List Bool) (i : ℕ) → i ≤ w.length → FailFrom w code points i seen → Searching w code points i (run w code (state 0 false i)) seen [] (thread 0 (state 0 false i) ∷ [])
  unfolding pending replay
  begin seen i h failed = record {
    value = or_none (run w code (state 0 false i));
    covers = λ s marked ok. absurd (failed s marked ok);
    fits = (omega arith, tt);
    inside = (omega arith, h, tt);
  }

  -- once the first thread is at the end, whatever is marked behind it fails
  pub fail_behind : (a : ℕ) (goal : Option Ending) (seen : List Bool) (trail : List Event) (t : Thread) (ts : List Thread) → Searching w code points a goal seen trail (t ∷ ts)
      → FailFrom w code points (t.at + 1) seen
  fail_behind a goal seen trail t ts d s marked ok =
      let b = d.covers s (record { slot = marked.slot; meets = marked.meets; from = (let x : t.at + 1 ≤ s.at = marked.from in let y : a ≤ t.at = d.inside.0 in omega arith); within = marked.within; mark = marked.mark }) ok in
      let high : measure w code (state_of t) < measure w code s = b.0 in
      let low : measure w code s < measure w code (state_of t) = later w code s (state_of t) (let x : t.at + 1 ≤ s.at = marked.from in omega arith) marked.within in
      omega arith

  pub fail_weaker : (a b : ℕ) (seen : List Bool) → a ≤ b → FailFrom w code points a seen → FailFrom w code points b seen
  fail_weaker a b seen le f s marked ok = f s (record { slot = marked.slot; meets = marked.meets; from = (let x : b ≤ s.at = marked.from in omega arith); within = marked.within; mark = marked.mark }) ok

  -- nothing is marked at the place itself
  pub fail_at : (a : ℕ) (seen : List Bool) → FailFrom w code points (a + 1) seen
      → ((s : State) (slot : ℕ) → slot < points.count → s.at ≡ a → slice_index_or seen (index points.count slot s) false ≡ true → ⊥) → FailFrom w code points a seen
  fail_at a seen f clear s marked ok =
      elim (cases_lt a s.at) [
        | inl lt ↦ f s (record { slot = marked.slot; meets = marked.meets; from = (omega arith); within = marked.within; mark = marked.mark }) ok
        | inr le ↦ absurd (clear s marked.slot (slot-lt points s.pc marked.slot marked.meets) (let x : a ≤ s.at = marked.from in omega arith) marked.mark)
      ]
