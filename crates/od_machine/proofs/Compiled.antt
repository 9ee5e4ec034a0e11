-- The program of a pattern finds the preferred way through it, where the rows tell of its constraints.
use Rattle.std.proofs.Common.{◌≡◌, ℕ, zero, suc, ◌+◌, ◌≤◌, Bool, true, false, List, [], ◌∷◌, ◌++◌, length, refl, ap, subst, arith, append_assoc, length-append}
use Rattle.std.specs.Prelude.{Some, not, slice_get}
use Rattle.od_matching.specs.Matching.First.{Trial, accept}
use Rattle.od_matching.specs.Matching.Derives.{World, fits_token, holds_before, looks, first, first_order, first_of}
use Rattle.od_asked.specs.Asked.{Asked, asked_surface, asked_surfaces}
use Rattle.od_machine.specs.Machine.{fits_row, peeks, state, run}
use Rattle.od_machine.specs.Code.{constraints, code_of, code_in_order, code_one_of, program_of}
use Rattle.od_machine.specs.Inputs.{Tells, input_of}
use Rattle.od_machine.proofs.Runs.{run_visit}
use Rattle.od_machine.proofs.Does.{Stands, Stands-append, Stands-length, Does, after, along, does-stays, does-one_as, does-look_as, does-first, does-last, does-jump, does-never, does-then, does-skip, does-or, does-named, does-repeat}
use Rattle.od_machine.specs.declared.instruction.Instruction.{Instruction}
use Rattle.od_machine.specs.declared.instruction.Instruction.TheVariants.{Skip, Close, Match}
use Rattle.od_pattern.specs.declared.pattern.Constraint.{Constraint}
use Rattle.od_pattern.specs.declared.pattern.Surface.{Surface, Row_of-Surface, end_of-Surface, more_of-Surface}
use Rattle.od_pattern.specs.declared.pattern.Surface.TheVariants.{Token, Label, Look, First, Last, Seq', Alt', Repeat', Capture'}

module _ (u : World) (h : ℕ → ℕ → Bool) where
  -- the rows tell of the constraints of both lists
  pub Tells-append : (n : ℕ) (a b : List Asked) → Tells u h n (a ++ b) → Tells u h n a × Tells u h (n + length a) b
  Tells-append n [] b t = (tt, subst (λ (z : ℕ). Tells u h z b) (let q : n ≡ n + 0 = omega arith in q) t)
  Tells-append n (c ∷ a) b t =
      let r = Tells-append (suc n) a b t.1 in
      ((t.0, r.0), subst (λ (z : ℕ). Tells u h z b) (let q : suc n + length a ≡ n + suc (length a) = omega arith in q) r.1)

  same_before : (n : ℕ) (c : Constraint) → ((i : ℕ) → fits_row (input_of u h) n i ≡ fits_token u c i) → (i : ℕ) → holds_before (fits_row (input_of u h) n) i ≡ holds_before (fits_token u c) i
  same_before n c e zero = refl
  same_before n c e (suc i) = e i

  same_look : (n : ℕ) (c : Constraint) (ahead positive : Bool) → ((i : ℕ) → fits_row (input_of u h) n i ≡ fits_token u c i)
      → (i : ℕ) → peeks (input_of u h) n ahead positive i ≡ looks u c ahead positive i
  same_look n c true true e i = e i
  same_look n c true false e i = ap not (e i)
  same_look n c false true e i = same_before n c e i
  same_look n c false false e i = ap not (same_before n c e i)

  module _ (code : List Instruction) where
    abbrev DoesAs : ℕ → ℕ → Trial → Type 0
    DoesAs pc end f = Does (input_of u h) code pc end f

    mutual
      unfolding asked_surface asked_surfaces first first_order first_of code_of code_in_order code_one_of

      -- the instructions of a pattern do what the pattern does
      pub does : (n : ℕ) (p : Surface) → Tells u h n (asked_surface p) → (pc end : ℕ) → Stands code pc (code_of n p) end → DoesAs pc end (first u p)
      does n (Token c) t pc end s = along (input_of u h) code pc (pc + 1) end _ s.1 (does-one_as (input_of u h) code pc n (fits_token u c) t.0 s.0)
      does n (Label name) t pc end s = along (input_of u h) code pc (pc + 1) end _ s.1 (does-jump (input_of u h) code pc name s.0)
      does n (Look ahead positive c) t pc end s =
          along (input_of u h) code pc (pc + 1) end _ s.1 (does-look_as (input_of u h) code pc n ahead positive (looks u c ahead positive) (same_look n c ahead positive t.0) s.0)
      does n First t pc end s = along (input_of u h) code pc (pc + 1) end _ s.1 (does-first (input_of u h) code pc s.0)
      does n Last t pc end s = along (input_of u h) code pc (pc + 1) end _ s.1 (does-last (input_of u h) code pc s.0)
      does n (Seq' v row) t pc end s = does_in_order n row t pc end s
      does n (Alt' v row) t pc end s = does_one_of n row t pc end s
      does n (Repeat' v (more_of-Surface body end_of-Surface) turns) t pc end s =
          does-repeat (input_of u h) code turns.lazy (code_of n body) (first u body) (λ a b r. does n body t a b r) turns.least turns.most pc end s
      does n (Capture' name v (more_of-Surface body end_of-Surface)) t pc end s =
          let r = Stands-append code (pc + 1) end (code_of n body) (Close ∷ []) s.1 in
          along (input_of u h) code pc (r.0 + 1) end _ r.2.1 (does-named (input_of u h) code pc r.0 name (first u body) s.0 (does n body t (pc + 1) r.0 r.1) r.2.0)

      does_in_order : (n : ℕ) {m : _} (row : Row_of-Surface m) → Tells u h n (asked_surfaces row) → (pc end : ℕ) → Stands code pc (code_in_order n row) end → DoesAs pc end (first_order u row)
      does_in_order n end_of-Surface t pc end s = does-stays (input_of u h) code pc end s
      does_in_order n (more_of-Surface p rest) t pc end s =
          let both = Tells-append n (asked_surface p) (asked_surfaces rest) t in
          let r = Stands-append code pc end (code_of n p) (code_in_order (n + constraints p) rest) s in
          does-then (input_of u h) code pc r.0 end (first u p) (first_order u rest) (does n p both.0 pc r.0 r.1) (does_in_order (n + constraints p) rest both.1 r.0 end r.2)

      does_one_of : (n : ℕ) {m : _} (row : Row_of-Surface m) → Tells u h n (asked_surfaces row) → (pc end : ℕ) → Stands code pc (code_one_of n row) end → DoesAs pc end (first_of u row)
      does_one_of n end_of-Surface t pc end s = does-never (input_of u h) code pc end s.0
      does_one_of n (more_of-Surface p rest) t pc end s =
          let both = Tells-append n (asked_surface p) (asked_surfaces rest) t in
          let others = code_one_of (n + constraints p) rest in
          let r = Stands-append code (pc + 1) end (code_of n p) (Skip (length others) ∷ others) s.1 in
          let mid : ℕ = r.0 in
          let len : (pc + 1) + length (code_of n p) ≡ mid = Stands-length code (pc + 1) mid (code_of n p) r.1 in
          let len' : (mid + 1) + length others ≡ end = Stands-length code (mid + 1) end others r.2.1 in
          does-or (input_of u h) code pc (length (code_of n p) + 1) mid (mid + 1) end (first u p) (first_of u rest) s.0 (omega arith)
          (does n p both.0 (pc + 1) mid r.1) (does-skip (input_of u h) code mid (length others) end r.2.0 (omega arith)) (does_one_of (n + constraints p) rest both.1 (mid + 1) end r.2.1)

slice_get-seam : (pre : List Instruction) (x : Instruction) (post : List Instruction) → slice_get (pre ++ x ∷ post) (length pre) ≡ Some x
slice_get-seam [] x post = refl
slice_get-seam (y ∷ pre) x post = slice_get-seam pre x post

-- instructions stand where they are put
stands_in : (pre code post : List Instruction) → Stands (pre ++ (code ++ post)) (length pre) code (length pre + length code)
stands_in pre [] post = omega arith
stands_in pre (x ∷ code) post =
    let whole : (pre ++ x ∷ []) ++ (code ++ post) ≡ pre ++ ((x ∷ code) ++ post) = append_assoc pre (x ∷ []) (code ++ post) in
    let len : length (pre ++ x ∷ []) ≡ length pre + 1 = length-append pre (x ∷ []) in (
      slice_get-seam pre x (code ++ post),
      subst (λ (z : List Instruction). Stands z (length pre + 1) code (length pre + suc (length code))) whole
          (subst (λ (z : ℕ). Stands ((pre ++ x ∷ []) ++ (code ++ post)) (length pre + 1) code z) (let q : length pre + 1 + length code ≡ length pre + suc (length code) = omega arith in q)
          (subst (λ (z : ℕ). Stands ((pre ++ x ∷ []) ++ (code ++ post)) z code (z + length code)) len (stands_in (pre ++ x ∷ []) code post))),
    )

-- the program's run from its beginning is the preferred way
pub started : (u : World) (h : ℕ → ℕ → Bool) (p : Surface) (i : ℕ) → Tells u h 0 (asked_surface p) → i ≤ u.length
    → run (input_of u h) (program_of p) (state 0 false i) ≡ first u p accept i
unfolding program_of
started u h p i t le =
    let n : ℕ = length (code_of 0 p) in
    let at_end : slice_get (program_of p) n ≡ Some Match = slice_get-seam (code_of 0 p) Match [] in
    let s : Stands (program_of p) 0 (code_of 0 p) n = subst (λ (z : ℕ). Stands (program_of p) 0 (code_of 0 p) z) (let q : 0 + n ≡ n = omega arith in q) (stands_in [] (code_of 0 p) (Match ∷ [])) in
    does u h (program_of p) 0 p t 0 n s accept false i le (λ j le' inside. run_visit (input_of u h) (program_of p) (state n (after false i j) j) (Some Match) at_end)
