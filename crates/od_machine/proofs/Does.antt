-- Instructions that stand one after another do what the trials of their pieces do.
use Rattle.std.proofs.Common.{◌≡◌, ℕ, zero, suc, ◌+◌, ◌-◌, ◌<◌, ◌≤◌, Bool, true, false, List, [], ◌∷◌, ◌++◌, length, refl, sym, ◌∙◌, ap, subst, inl, inr, arith}
use Rattle.std.proofs.lemmas.Bool.{ltb-true, lt-ltb, cases_lt}
use Rattle.std.specs.Prelude.{Option, Some, None, if◌then◌else◌, nat_lt, nat_le, ◌==◌, option_map, slice_get}
use Rattle.std.specs.Option.{option_or}
use Rattle.od_matching.specs.Matching.First.{Ending, Continuation, Trial, close, open_capture, first_one, first_test, first_down, first_jump, first_never, first_then, first_or, first_took, first_named, first_times, prefer, first_further, first_endless}
use Rattle.od_matching.specs.Matching.Derives.{first_turns}
use Rattle.od_machine.specs.Machine.{Input, fits_row, peeks, State, state, in_turn, targets, first_success, run}
use Rattle.od_machine.specs.Code.{turns_code, endless_code, times_code, repeat_code}
use Rattle.od_machine.proofs.Runs.{run_visit, left_of}
use Rattle.od_machine.specs.declared.instruction.Instruction.{Instruction}
use Rattle.od_machine.specs.declared.instruction.Instruction.TheVariants.{Take, Jump, Peek, AtFirst, AtLast, Split, Skip, Turned, Again, Open, Close, Fail}

-- whether a token was taken, once the way has gone from i to j
abbrev pub after : Bool → ℕ → ℕ → Bool
after b i j = if nat_lt i j then true else b

after_lt : (b : Bool) (i j : ℕ) → i < j → after b i j ≡ true
after_lt b i j lt = ap (λ (c : Bool). if c then true else b) (lt-ltb i j lt)

after_stays : (b : Bool) (i : ℕ) → after b i i ≡ b
after_stays b i = go (nat_lt i i) refl
  where
    go : (c : Bool) → nat_lt i i ≡ c → (if c then true else b) ≡ b
    go true e = let lt : i < i = ltb-true i i e in absurd (omega arith)
    go false e = refl

after_after : (b : Bool) (i j m : ℕ) → i ≤ j → j ≤ m → after (after b i j) j m ≡ after b i m
after_after b i j m h g =
    elim (cases_lt i j) [
      | inl lt ↦ ap (λ (c : Bool). after c j m) (after_lt b i j lt) ∙ at_true j m ∙ sym (after_lt b i m (omega arith))
      | inr le ↦
          let e : j ≡ i = omega arith in
          subst (λ (z : ℕ). after (after b i z) z m ≡ after b i m) (sym e) (ap (λ (c : Bool). after c i m) (after_stays b i))
    ]
  where
    at_true : (x y : ℕ) → after true x y ≡ true
    at_true x y = elim (nat_lt x y) as (λ c. (if c then true else true) ≡ true) [ true ↦ refl | false ↦ refl ]

or_none : (o : Option Ending) → option_or o None ≡ o
or_none None = refl
or_none (Some x) = refl

-- the instructions stand from the place pc on, up to the place end
abbrev pub Stands : List Instruction → ℕ → List Instruction → ℕ → Type 0
Stands code pc [] end = pc ≡ end
Stands code pc (x ∷ xs) end = (slice_get code pc ≡ Some x) × Stands code (pc + 1) xs end

pub Stands-append : (code : List Instruction) (pc end : ℕ) (a b : List Instruction) → Stands code pc (a ++ b) end → (mid : ℕ) × Stands code pc a mid × Stands code mid b end
Stands-append code pc end [] b h = (pc, refl, h)
Stands-append code pc end (x ∷ a) b h =
    let r = Stands-append code (pc + 1) end a b h.1 in (r.0, (h.0, r.1), r.2)

pub Stands-length : (code : List Instruction) (pc end : ℕ) (a : List Instruction) → Stands code pc a end → pc + length a ≡ end
Stands-length code pc end [] h = let e : pc ≡ end = h in omega arith
Stands-length code pc end (x ∷ a) h = let e : (pc + 1) + length a ≡ end = Stands-length code (pc + 1) end a h.1 in omega arith

module _ (w : Input) (code : List Instruction) where
  -- from each place on, the run from `end` is what follows
  abbrev pub Goes : ℕ → Bool → ℕ → Continuation → Type 0
  Goes end b i k = (j : ℕ) → i ≤ j → j ≤ w.length → run w code (state end (after b i j) j) ≡ k j

  abbrev pub Does : ℕ → ℕ → Trial → Type 0
  Does pc end f = (k : Continuation) (b : Bool) (i : ℕ) → i ≤ w.length → Goes end b i k → run w code (state pc b i) ≡ f k i

  goes_here : (end : ℕ) (b : Bool) (i : ℕ) (k : Continuation) → i ≤ w.length → Goes end b i k → run w code (state end b i) ≡ k i
  goes_here end b i k h g = ap (λ (c : Bool). run w code (state end c i)) (sym (after_stays b i)) ∙ g i (omega arith) h

  goes_later : (end : ℕ) (b : Bool) (i j : ℕ) (k : Continuation) → i ≤ j → Goes end b i k → Goes end (after b i j) j k
  goes_later end b i j k h g = λ m le inside. ap (λ (c : Bool). run w code (state end c m)) (after_after b i j m h le) ∙ g m (omega arith) inside

  pub does-stays : (pc end : ℕ) → pc ≡ end → Does pc end (λ k i. k i)
  does-stays pc end e k b i h g = ap (λ (z : ℕ). run w code (state z b i)) e ∙ goes_here end b i k h g

  pub does-one : (pc n : ℕ) → slice_get code pc ≡ Some (Take n) → Does pc (pc + 1) (first_one (fits_row w n))
  does-one pc n e k b i h g = run_visit w code (state pc b i) (Some (Take n)) e ∙ go (fits_row w n i) refl
    where
      go : (c : Bool) → fits_row w n i ≡ c → first_success (run w code) (if c then state (pc + 1) true (i + 1) ∷ [] else []) ≡ (if c then k (i + 1) else None)
      go false q = refl
      go true q =
          let lt : i < w.length = ltb-true i w.length (left_of _ _ q) in
          or_none _ ∙ ap (λ (c : Bool). run w code (state (pc + 1) c (i + 1))) (sym (after_lt b i (i + 1) (omega arith))) ∙ g (i + 1) (omega arith) (omega arith)

  tested : (pc : ℕ) (k : Continuation) (b : Bool) (i : ℕ) (c : Bool) → i ≤ w.length → Goes (pc + 1) b i k
      → first_success (run w code) (if c then state (pc + 1) b i ∷ [] else []) ≡ (if c then k i else None)
  tested pc k b i false h g = refl
  tested pc k b i true h g = or_none _ ∙ goes_here (pc + 1) b i k h g

  pub does-look : (pc n : ℕ) (ahead positive : Bool) → slice_get code pc ≡ Some (Peek ahead positive n) → Does pc (pc + 1) (first_test (peeks w n ahead positive))
  does-look pc n ahead positive e k b i h g = run_visit w code (state pc b i) (Some (Peek ahead positive n)) e ∙ tested pc k b i (peeks w n ahead positive i) h g

  pub does-first : (pc : ℕ) → slice_get code pc ≡ Some AtFirst → Does pc (pc + 1) (first_test (λ i. i == 0))
  does-first pc e k b i h g = run_visit w code (state pc b i) (Some AtFirst) e ∙ tested pc k b i (i == 0) h g

  pub does-last : (pc : ℕ) → slice_get code pc ≡ Some AtLast → Does pc (pc + 1) (first_test (λ i. i == w.length))
  does-last pc e k b i h g = run_visit w code (state pc b i) (Some AtLast) e ∙ tested pc k b i (i == w.length) h g

  downs : (pc : ℕ) (f : ℕ → ℕ → Bool) (k : Continuation) (b : Bool) (i n : ℕ) (c : Bool) → i + suc n ≤ w.length → Goes (pc + 1) b i k
      → first_success (run w code) (targets f (pc + 1) i n) ≡ first_down f k i n
      → first_success (run w code) ((if c then state (pc + 1) true (i + suc n) ∷ [] else []) ++ targets f (pc + 1) i n)
      ≡ option_or (if c then k (i + suc n) else None) (first_down f k i n)
  downs pc f k b i n false h g rest = rest
  downs pc f k b i n true h g rest =
      let here : run w code (state (pc + 1) true (i + suc n)) ≡ k (i + suc n) =
      ap (λ (c : Bool). run w code (state (pc + 1) c (i + suc n))) (sym (after_lt b i (i + suc n) (omega arith))) ∙ g (i + suc n) (omega arith) h in
      ap (λ o. option_or o (first_success (run w code) (targets f (pc + 1) i n))) here ∙ ap (option_or (k (i + suc n))) rest

  down : (pc : ℕ) (f : ℕ → ℕ → Bool) (k : Continuation) (b : Bool) (i n : ℕ) → i + n ≤ w.length → Goes (pc + 1) b i k
      → first_success (run w code) (targets f (pc + 1) i n) ≡ first_down f k i n
  down pc f k b i zero h g = refl
  down pc f k b i (suc n) h g = downs pc f k b i n (f i (i + suc n)) h g (down pc f k b i n (omega arith) g)

  pub does-jump : (pc : ℕ) (name : List ℕ) → slice_get code pc ≡ Some (Jump name) → Does pc (pc + 1) (first_jump w.length (w.is_span name))
  does-jump pc name e k b i h g = run_visit w code (state pc b i) (Some (Jump name)) e ∙ down pc (w.is_span name) k b i (w.length - i) (omega arith) g

  pub does-never : (pc end : ℕ) → slice_get code pc ≡ Some Fail → Does pc end first_never
  does-never pc end e k b i h g = run_visit w code (state pc b i) (Some Fail) e

  pub does-then : (pc mid end : ℕ) (f f' : Trial) → Does pc mid f → Does mid end f' → Does pc end (first_then f f')
  does-then pc mid end f f' d d' k b i h g = d (f' k) b i h (λ j le inside. d' k (after b i j) j inside (goes_later end b i j k le g))

  pub does-skip : (pc n end : ℕ) → slice_get code pc ≡ Some (Skip n) → pc + 1 + n ≡ end → Does pc end (λ k i. k i)
  does-skip pc n end e q k b i h g =
      run_visit w code (state pc b i) (Some (Skip n)) e ∙ or_none _ ∙ ap (λ (z : ℕ). run w code (state z b i)) q ∙ goes_here end b i k h g

  pub does-or : (pc n mid other end : ℕ) (f f' : Trial) → slice_get code pc ≡ Some (Split n) → pc + 1 + n ≡ other
      → Does (pc + 1) mid f → Does mid end (λ k i. k i) → Does other end f' → Does pc end (first_or f f')
  does-or pc n mid other end f f' e q d s d' k b i h g =
      let x : run w code (state (pc + 1) b i) ≡ f k i = d k b i h (λ j le inside. s k (after b i j) j inside (goes_later end b i j k le g)) in
      let y : run w code (state (pc + 1 + n) b i) ≡ f' k i = ap (λ (z : ℕ). run w code (state z b i)) q ∙ d' k b i h g in
      run_visit w code (state pc b i) (Some (Split n)) e ∙ ap (λ o. option_or o (option_or (run w code (state (pc + 1 + n) b i)) None)) x
      ∙ ap (option_or (f k i)) (or_none _ ∙ y)

  pub does-named : (pc mid : ℕ) (name : List ℕ) (f : Trial) → slice_get code pc ≡ Some (Open name) → Does (pc + 1) mid f → slice_get code mid ≡ Some Close
      → Does pc (mid + 1) (first_named name f)
  does-named pc mid name f e d e' k b i h g =
      run_visit w code (state pc b i) (Some (Open name)) e
      ∙ ap (option_map (open_capture name i)) (or_none _ ∙ d (λ j. option_map (close j) (k j)) b i h
      (λ j le inside. run_visit w code (state mid (after b i j) j) (Some Close) e' ∙ ap (option_map (close j)) (or_none _ ∙ g j le inside)))

  turned : (lazy : Bool) (s s' : State) (x y : Option Ending) → run w code s ≡ x → run w code s' ≡ y → first_success (run w code) (in_turn lazy s s') ≡ prefer lazy x y
  turned true s s' x y e q = ap (λ o. option_or o (option_or (run w code s) None)) q ∙ ap (option_or y) (or_none _ ∙ e)
  turned false s s' x y e q = ap (λ o. option_or o (option_or (run w code s') None)) e ∙ ap (option_or x) (or_none _ ∙ q)

  -- what a turn that took no token comes to
  gate : (pc mid : ℕ) (i j : ℕ) (k : Continuation) (c : Bool) → nat_lt i j ≡ c → slice_get code mid ≡ Some Turned
      → (i < j → run w code (state (mid + 1) true j) ≡ k j) → run w code (state mid (if c then true else false) j) ≡ (if c then k j else None)
  gate pc mid i j k true q e g = run_visit w code (state mid true j) (Some Turned) e ∙ or_none _ ∙ g (ltb-true i j q)
  gate pc mid i j k false q e g = run_visit w code (state mid false j) (Some Turned) e

  goes_past : (end : ℕ) (b : Bool) (i j : ℕ) (k : Continuation) → i < j → Goes end b i k → Goes end true j k
  goes_past end b i j k lt g = λ m le inside. ap (λ (c : Bool). run w code (state end c m)) (same m le) ∙ g m (omega arith) inside
    where
      at_true : (x y : ℕ) → after true x y ≡ true
      at_true x y = elim (nat_lt x y) as (λ c. (if c then true else true) ≡ true) [ true ↦ refl | false ↦ refl ]

      same : (m : ℕ) → j ≤ m → after true j m ≡ after b i m
      same m le = at_true j m ∙ sym (after_lt b i m (omega arith))

  module _ (lazy : Bool) (body : List Instruction) (f : Trial) (does : (pc mid : ℕ) → Stands code pc body mid → Does pc mid f) where
    pub does-further : (n pc end : ℕ) → Stands code pc (turns_code lazy body n) end → Does pc end (first_further lazy f n)
    does-further zero pc end s k b i h g = does-stays pc end s k b i h g
    does-further (suc n) pc end s k b i h g =
        let r = Stands-append code (pc + 1) end body (Turned ∷ turns_code lazy body n) s.1 in
        let mid : ℕ = r.0 in
        let len : (pc + 1) + length body ≡ mid = Stands-length code (pc + 1) mid body r.1 in
        let len' : (mid + 1) + length (turns_code lazy body n) ≡ end = Stands-length code (mid + 1) end (turns_code lazy body n) r.2.1 in
        let leave : run w code (state (pc + 1 + (length body + (1 + length (turns_code lazy body n)))) b i) ≡ k i =
        ap (λ (z : ℕ). run w code (state z b i)) (let q : pc + 1 + (length body + (1 + length (turns_code lazy body n))) ≡ end = omega arith in q) ∙ goes_here end b i k h g in
        let turn : run w code (state (pc + 1) false i) ≡ first_then (first_took f) (first_further lazy f n) k i =
        does (pc + 1) mid r.1 (λ j. if nat_lt i j then first_further lazy f n k j else None) false i h
        (λ j le inside. gate pc mid i j (first_further lazy f n k) (nat_lt i j) refl r.2.0
        (λ lt. does-further n (mid + 1) end r.2.1 k true j inside (goes_past end b i j k lt g))) in
        run_visit w code (state pc b i) _ s.0 ∙ turned lazy _ _ _ _ turn leave

    pub does-times : (n pc end : ℕ) (rest : List Instruction) (f' : Trial) → ((from : ℕ) → Stands code from rest end → Does from end f')
        → Stands code pc (times_code body n rest) end → Does pc end (first_times f n f')
    does-times zero pc end rest f' d s = d pc s
    does-times (suc n) pc end rest f' d s =
        let r = Stands-append code pc end body (times_code body n rest) s in
        does-then pc r.0 end f (first_times f n f') (does pc r.0 r.1) (does-times n r.0 end rest f' d r.2)

    -- the choice of an endless repeat, before its first further turn and after each
    module _ (pc mid : ℕ) (stands : Stands code (pc + 1) body mid) (again : slice_get code mid ≡ Some (Again lazy (length body))) where
      choice : (m : ℕ) (k : Continuation) (b : Bool) (i : ℕ) → i ≤ w.length → w.length - i < m → Goes (mid + 1) b i k
          → first_success (run w code) (in_turn lazy (state (pc + 1) false i) (state (mid + 1) b i)) ≡ first_further lazy f m k i
      choice zero k b i h lt g = absurd (omega arith)
      choice (suc m) k b i h lt g =
          let turn : run w code (state (pc + 1) false i) ≡ first_then (first_took f) (first_further lazy f m) k i =
          does (pc + 1) mid stands (λ j. if nat_lt i j then first_further lazy f m k j else None) false i h
          (λ j le inside. gate_again i j k (nat_lt i j) refl m (λ up. choice m k true j inside (omega arith) (goes_past (mid + 1) b i j k up g))) in
          turned lazy _ _ _ _ turn (goes_here (mid + 1) b i k h g)
        where
          len : (pc + 1) + length body ≡ mid
          len = Stands-length code (pc + 1) mid body stands

          gate_again : (i j : ℕ) (k : Continuation) (c : Bool) → nat_lt i j ≡ c → (m : ℕ)
              → (i < j → first_success (run w code) (in_turn lazy (state (pc + 1) false j) (state (mid + 1) true j)) ≡ first_further lazy f m k j)
              → run w code (state mid (if c then true else false) j) ≡ (if c then first_further lazy f m k j else None)
          gate_again i j k true q m g =
              run_visit w code (state mid true j) _ again
              ∙ ap (λ (z : ℕ). first_success (run w code) (in_turn lazy (state z false j) (state (mid + 1) true j))) (let q : mid - length body ≡ pc + 1 = omega (arith, len) in q)
              ∙ g (ltb-true i j q)
          gate_again i j k false q m g = run_visit w code (state mid false j) _ again

    pub does-endless : (pc end : ℕ) → Stands code pc (endless_code lazy body) end → Does pc end (first_endless w.length lazy f)
    does-endless pc end s k b i h g =
        let r = Stands-append code (pc + 1) end body (Again lazy (length body) ∷ []) s.1 in
        let mid : ℕ = r.0 in
        let e : mid + 1 ≡ end = r.2.1 in
        let len : (pc + 1) + length body ≡ mid = Stands-length code (pc + 1) mid body r.1 in
        run_visit w code (state pc b i) _ s.0
        ∙ ap (λ (z : ℕ). first_success (run w code) (in_turn lazy (state (pc + 1) false i) (state z b i))) (let q : pc + 1 + (length body + 1) ≡ mid + 1 = omega arith in q)
        ∙ choice pc mid r.1 r.2.0 (suc (w.length - i)) k b i h (omega arith) (subst (λ (z : ℕ). Goes z b i k) (sym e) g)

  pub does-repeat : (lazy : Bool) (body : List Instruction) (f : Trial) → ((pc mid : ℕ) → Stands code pc body mid → Does pc mid f)
      → (least : ℕ) (most : Option ℕ) (pc end : ℕ) → Stands code pc (repeat_code lazy body least most) end → Does pc end (first_turns w.length lazy f least most)
  does-repeat lazy body f d least None pc end s k b i h g =
      does-times lazy body f d least pc end (endless_code lazy body) (first_endless w.length lazy f) (λ from t. does-endless lazy body f d from end t) s k b i h g
  does-repeat lazy body f d least (Some most) pc end s k b i h g = go (nat_le least most) s
    where
      go : (c : Bool) → Stands code pc (if c then times_code body least (turns_code lazy body (most - least)) else Fail ∷ []) end
          → run w code (state pc b i) ≡ (if c then first_times f least (first_further lazy f (most - least)) k i else None)
      go true t = does-times lazy body f d least pc end (turns_code lazy body (most - least)) (first_further lazy f (most - least)) (λ from u. does-further lazy body f d (most - least) from end u) t k b i h g
      go false t = does-never pc end t.0 k b i h g

  -- up to the same place
  pub along : (pc end end' : ℕ) (f : Trial) → end ≡ end' → Does pc end f → Does pc end' f
  along pc end end' f e d = subst (λ (z : ℕ). Does pc z f) e d

  -- the same trial, by another test
  pub does-one_as : (pc n : ℕ) (test : ℕ → Bool) → ((i : ℕ) → fits_row w n i ≡ test i) → slice_get code pc ≡ Some (Take n) → Does pc (pc + 1) (first_one test)
  does-one_as pc n test same e k b i h g = does-one pc n e k b i h g ∙ ap (λ (c : Bool). if c then k (i + 1) else None) (same i)

  pub does-look_as : (pc n : ℕ) (ahead positive : Bool) (test : ℕ → Bool) → ((i : ℕ) → peeks w n ahead positive i ≡ test i)
      → slice_get code pc ≡ Some (Peek ahead positive n) → Does pc (pc + 1) (first_test test)
  does-look_as pc n ahead positive test same e k b i h g = does-look pc n ahead positive e k b i h g ∙ ap (λ (c : Bool). if c then k i else None) (same i)
