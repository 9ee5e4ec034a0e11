-- Lemmas on matches and their captures, and on the table.
use Rattle.std.proofs.Common.{◌≡◌, ℕ, zero, suc, ◌+◌, ◌*◌, ◌^◌, ◌<◌, ◌≤◌, Bool, true, false, List, [], ◌∷◌, ◌++◌, length, append_assoc, map, drop, refl, sym, ◌∙◌, ap, subst, arith}
use Rattle.std.specs.Prelude.{Option, Some, None, nat_lt, ◌&&◌, slice_get, slice_index_or}
use Rattle.std.specs.List.{range_with_len}
use Rattle.std.proofs.lemmas.Bool.{ltb-true}
use Rattle.std.proofs.Math.Nat.{mul-le-mul_right}
use Rattle.od_asked.specs.Holds.{holds}
use Rattle.od_matching.specs.Matching.First.{Ending, accept}
use Rattle.od_matching.specs.Matching.Derives.{World, first}
use Rattle.od_matching.specs.Matching.Scan.{world_in, scan_at, match_of}
use Rattle.od_matching.proofs.Matching.Scans.{scan_idle, idle_empty, same_scans}
use Rattle.od_matching.proofs.Matching.Steps.{scans_at, scan_at-none, scan_at-some}
use Rattle.od_asked.specs.Asked.{Asked, at_tokens, at_edges, asked_surface}
use Rattle.od_asked.specs.Tables.{truths, RowsFit}
use Rattle.od_machine.specs.Code.{program_of}
use Rattle.od_machine.specs.Machine.{Input, state, run}
use Rattle.od_machine.specs.Inputs.{TellsOf, Tells, truth_in, holds_in, given}
use Rattle.od_machine.specs.Found.{Finds}
use Rattle.od_machine.proofs.Compiled.{started}
use Rattle.od_machine.specs.declared.instruction.Instruction.{Instruction}
use Rattle.od_extraction.specs.declared.mention.Match.{Match}
use Rattle.od_extraction.specs.declared.mention.Labelled.{Labelled}
use Rattle.od_pattern.specs.declared.pattern.Constraint.{Constraint}
use Rattle.od_pattern.specs.declared.pattern.Surface.{Surface}
use Rattle.od_document.specs.declared.sentence.Sentence.{Sentence}

pub table_fits : (tokens size : ℕ) → tokens ≤ 2000 → size < 2 ^ 32 → (tokens + 1) * size ≤ 2001 * 2 ^ 32
table_fits tokens size h g =
    let a : (tokens + 1) * size ≤ 2001 * size = mul-le-mul_right size (omega arith) in
    omega (arith, a)

-- a truth of a row
in_row : (f : ℕ → Bool) (a n i : ℕ) → i < n → slice_index_or (map f (range_with_len a n)) i false ≡ f (a + i)
in_row f a zero i h = absurd (omega arith)
in_row f a (suc n) zero h = ap f (let q : a ≡ a + 0 = omega arith in q)
in_row f a (suc n) (suc i) h = in_row f (a + 1) n i (omega arith) ∙ ap f (let q : a + 1 + i ≡ a + suc i = omega arith in q)

get_drop : {X : Type 0} (xs : List X) (n i : ℕ) → slice_get (drop n xs) i ≡ slice_get xs (n + i)
get_drop xs zero i = ap (slice_get xs) (let q : i ≡ 0 + i = omega arith in q)
get_drop [] (suc n) i = refl
get_drop (x ∷ xs) (suc n) i = get_drop xs n i ∙ ap (slice_get (x ∷ xs)) (let q : suc (n + i) ≡ suc n + i = omega arith in q)

module _ (s : Sentence) (labels : List Labelled) (rows : List (List Bool)) (first_row : ℕ) where
  fits_by : (n : ℕ) (c : Constraint) (i : ℕ) (b : Bool) → nat_lt i (length s.tokens) ≡ b → slice_get (drop first_row rows) n ≡ Some (truths s (at_tokens c))
      → (b && holds_in (drop first_row rows) n i) ≡ (b && holds s c i)
  fits_by n c i true e h = ap (λ z. truth_in z i) h ∙ in_row (holds s c) 0 (length s.tokens) i (ltb-true i (length s.tokens) e) ∙ ap (holds s c) (let q : 0 + i ≡ i = omega arith in q)
  fits_by n c i false e h = refl

  tells_of : (n : ℕ) (a : Asked) → slice_get (drop first_row rows) n ≡ Some (truths s a) → TellsOf (world_in s labels) (holds_in (drop first_row rows)) n a
  tells_of n (at_tokens c) h = λ i. fits_by n c i (nat_lt i (length s.tokens)) refl h
  tells_of n (at_edges value) h = tt

  tells : (n m : ℕ) (asked : List Asked) → m ≡ first_row + n → RowsFit rows s m asked → Tells (world_in s labels) (holds_in (drop first_row rows)) n asked
  tells n m [] e h = tt
  tells n m (a ∷ asked) e h = (
    tells_of n a (get_drop rows first_row n ∙ ap (slice_get rows) (sym e) ∙ h.0),
    tells (suc n) (suc m) asked (omega arith) h.1,
  )

  -- where the table has the rows of the pattern's constraints, its program finds the preferred ways
  pub finds_in : (p : Surface) (code : List Instruction) (tokens : ℕ) → code ≡ program_of p → length s.tokens ≡ tokens → RowsFit rows s first_row (asked_surface p)
      → Finds (given tokens (drop first_row rows) labels) code (world_in s labels) p
  finds_in p code tokens e l h = record {
    tokens = sym l;
    finds = λ i le.
        subst (λ (z : ℕ). run (given z (drop first_row rows) labels) code (state 0 false i) ≡ first (world_in s labels) p accept i) l
        (ap (λ (z : List Instruction). run (given (length s.tokens) (drop first_row rows) labels) z (state 0 false i)) e
        ∙ started (world_in s labels) (holds_in (drop first_row rows)) p i (tells 0 first_row (asked_surface p) (omega arith) h) le);
  }

module _ (w : Input) (code : List Instruction) (u : World) (p : Surface) (f : Finds w code u p) (old : List Match) (at : ℕ) (lt : at < w.length) where
  here : at < u.length
  here = subst (λ (z : ℕ). at < z) f.tokens lt

  first_is : (x : Option Ending) → run w code (state 0 false at) ≡ x → first u p accept at ≡ x
  first_is x e = sym (f.finds at (let h : at < u.length = here in omega arith)) ∙ e

  -- no way: the search goes on at the next place
  pub step_none : run w code (state 0 false at) ≡ None → old ++ scan_at u p (at + 1) ≡ old ++ scan_at u p at
  step_none e = ap (λ z. old ++ z) (sym (scan_at-none u p at here (first_is None e)))

  -- the preferred way takes no token
  pub step_empty : (o : Ending) → run w code (state 0 false at) ≡ Some o → o.end ≤ at → old ++ scan_at u p (at + 1) ≡ old ++ scan_at u p at
  step_empty o e le =
      let h : at < u.length = here in
      ap (λ z. old ++ z) (same_scans u p at _ _ (scan_idle u p at (scan_at u p (at + 1)) (idle_empty u p at o (omega arith) (first_is (Some o) e) le) (scans_at u p (at + 1))) (scans_at u p at))

  -- a match
  pub step_match : (o : Ending) → run w code (state 0 false at) ≡ Some o → (new : List Match) (end : ℕ) (captures : _) → o.end ≡ end → o.captures ≡ captures → at < end
      → new ≡ old ++ match_of at end captures ∷ [] → new ++ scan_at u p end ≡ old ++ scan_at u p at
  step_match o e new end captures ee ec lt' en =
      let m : Match = match_of at end captures in
      let same : match_of at o.end o.captures ≡ m = ap (λ (z : ℕ). match_of at z o.captures) ee ∙ ap (match_of at end) ec in
      let at_o : scan_at u p at ≡ m ∷ scan_at u p end =
      scan_at-some u p at o here (first_is (Some o) e) (omega (arith, ee)) ∙ ap (λ (z : Match). z ∷ scan_at u p o.end) same ∙ ap (λ (z : ℕ). m ∷ scan_at u p z) ee in
      ap (λ z. z ++ scan_at u p end) en ∙ append_assoc old (m ∷ []) (scan_at u p end) ∙ ap (λ z. old ++ z) (sym at_o)
