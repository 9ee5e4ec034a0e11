-- A set of spots that is closed under the moves has all that the path leads to.
use Rattle.std.proofs.Common.{◌≡◌, ℕ, zero, suc, ◌+◌, ◌-◌, ◌<◌, ◌≤◌, ◌⊎◌, Bool, true, false, List, [], ◌∷◌, ◌++◌, length, refl, sym, ◌∙◌, ap, subst, inl, inr, arith, length-append}
use Rattle.std.proofs.lemmas.Bool.{and_parts, ltb-true, le-leb}
use Rattle.std.specs.Prelude.{◌&&◌, nat_le, nat_lt, if◌then◌else◌, Option, Some, None, slice_get}
use Rattle.od_asked.specs.Asked.{asked_path, asked_paths, asked_label}
use Rattle.od_matching.specs.Matching.Reach.{Link, Crosses, Joined, Turned, Repeated, UpTo, governor, dependent, holds_there, leads, leads_on, leads_by}
use Rattle.od_matching.proofs.Matching.Spread.{Keeps, keeps_turned}
use Rattle.od_matching.proofs.Matching.Reaches.{turned_split}
use Rattle.od_document.specs.declared.token.Edge.{Edge}
use Rattle.od_document.specs.declared.sentence.Sentence.{Sentence}
use Rattle.od_pattern.specs.declared.pattern.Value.{Value}
use Rattle.od_pattern.specs.declared.path.Path as path
use Rattle.od_pattern.specs.declared.path.Path.{Path, Row_of-Path, end_of-Path, more_of-Path}
use Rattle.od_reach.specs.Moves.{Input, holds_in, allows, spot, over_edges, nexts, nexts_of, steps, In, Stands}
use Rattle.od_reach.specs.Code.{row_for, rows_of, turns_code, endless_code, times_code, repeat_code, code_of, code_in_order, code_one_of}
use Rattle.od_asked.specs.Tables.{RowsFit}
use Rattle.od_reach.specs.Moves.{input_of}
use Rattle.od_asked.proofs.Fits.{fit_left, fit_right}
use Rattle.od_reach.proofs.Keeping.{keeps}
use Rattle.od_reach.proofs.Spots.{label_row, token_row, in_so, in_edges}
use Rattle.od_reach.specs.declared.moves.Move.{Move}
use Rattle.od_reach.specs.declared.moves.Move.TheVariants.{Along, Against, Stay, Fork, Skip, Back, Fail}
use Rattle.od_reach.specs.declared.moves.Spot.{Spot}

pub stands_append : (code : List Move) (pc end : ℕ) (a b : List Move) → Stands code pc (a ++ b) end → (mid : ℕ) × Stands code pc a mid × Stands code mid b end
stands_append code pc end [] b h = (pc, refl, h)
stands_append code pc end (x ∷ a) b h = let r = stands_append code (pc + 1) end a b h.1 in (r.0, (h.0, r.1), r.2)

pub stands_length : (code : List Move) (pc end : ℕ) (a : List Move) → Stands code pc a end → pc + length a ≡ end
stands_length code pc end [] h = let e : pc ≡ end = h in omega arith
stands_length code pc end (x ∷ a) h = let e : (pc + 1) + length a ≡ end = stands_length code (pc + 1) end a h.1 in omega arith

module _ (s : Sentence) (rows : List (List Bool)) (code : List Move) where
  abbrev g : Input
  g = input_of s rows

  abbrev n : ℕ
  n = length s.tokens

  pub step_by : (x : Spot) (i : Move) (pc a : ℕ) → slice_get code pc ≡ Some i → In x (nexts g i pc a) → In x (steps g code (spot pc a))
  step_by x i pc a e h = subst (λ (z : Option Move). In x (nexts_of g z pc a)) (sym e) h

  abbrev pub ClosedSpots : (ℕ → ℕ → Type 0) → Type 0
  ClosedSpots M = (pc a q c : ℕ) → M pc a → In (spot q c) (steps g code (spot pc a)) → q ≤ length code → c < length s.tokens → M q c

  module _ (M : ℕ → ℕ → Type 0) (closed : ClosedSpots M) where
    abbrev Goes : List Move → Link → Type 0
    Goes part A = (pc end a b : ℕ) → Stands code pc part end → end ≤ length code → a < n → M pc a → A a b → M end b

    goes_label : (from to : Edge → ℕ) (value : Option Value) (k : ℕ) (i : Move) → RowsFit rows s k (asked_label value)
        → ((pc a : ℕ) → nexts g i pc a ≡ over_edges from to g (row_for k value) pc a (length s.edges)) → ((a b : ℕ) → a < n → Crosses from to value s.edges a b → b < n)
        → Goes (i ∷ []) (Crosses from to value s.edges)
    goes_label from to value k i fit is inside pc end a b st le lt m t =
        let e : pc + 1 ≡ end = st.1 in
        let place : t.place < length s.edges = below s.edges t.place t.edge t.is_there in
        let h : In (spot (pc + 1) (to t.edge)) (over_edges from to g (row_for k value) pc a (length s.edges)) =
        in_edges from to g (row_for k value) pc a (length s.edges) t.place t.edge place t.is_there (label_row rows s k value t.place t.edge fit t.is_there ∙ t.label) t.begins in
        let next : In (spot (pc + 1) (to t.edge)) (steps g code (spot pc a)) = step_by (spot (pc + 1) (to t.edge)) i pc a st.0 (subst (In (spot (pc + 1) (to t.edge))) (sym (is pc a)) h) in
        let there : M (pc + 1) (to t.edge) = closed pc a (pc + 1) (to t.edge) m next (omega arith) (subst (λ (z : ℕ). z < length s.tokens) (sym t.ends) (inside a b lt t)) in
        subst (λ (z : ℕ). M z b) e (subst (λ (z : ℕ). M (pc + 1) z) t.ends there)
      where
        below : (edges : List Edge) (i : ℕ) (edge : Edge) → slice_get edges i ≡ Some edge → i < length edges
        below [] i edge e = absurd (let q : ◌≡◌ {A = Option Edge} None (Some edge) = e in cc)
        below (x ∷ edges) zero edge e = omega arith
        below (x ∷ edges) (suc i) edge e = omega (arith, below edges i edge e)

    module _ (body : List Move) (A : Link) (inside : Keeps n A) (goes : Goes body A) where
      goes_times : (k : ℕ) (rest : List Move) (pc end a c : ℕ) → Stands code pc (times_code body k rest) end → end ≤ length code → a < n → M pc a → Turned A k a c
          → (mid : ℕ) × Stands code mid rest end × M mid c
      goes_times zero rest pc end a c st le lt m t = let same : c ≡ a = t in (pc, st, subst (λ (z : ℕ). M pc z) (sym same) m)
      goes_times (suc k) rest pc end a c st le lt m t =
          let q = stands_append code pc end body (times_code body k rest) st in
          let l : q.0 + length (times_code body k rest) ≡ end = stands_length code q.0 end (times_code body k rest) q.2 in
          goes_times k rest q.0 end t.0 c q.2 le (inside a t.0 lt t.1) (goes pc q.0 a t.0 q.1 (omega arith) lt m t.1) t.2

      goes_turns : (most k pc end a b : ℕ) → k ≤ most → Stands code pc (turns_code body most) end → end ≤ length code → a < n → M pc a → Turned A k a b → M end b
      goes_turns zero zero pc end a b up st le lt m t =
          let e : pc ≡ end = st in let same : b ≡ a = t in subst (λ (z : ℕ). M z b) e (subst (λ (z : ℕ). M pc z) (sym same) m)
      goes_turns zero (suc k) pc end a b up st le lt m t = absurd (omega arith)
      goes_turns (suc most) zero pc end a b up st le lt m t =
          let same : b ≡ a = t in
          let size : ℕ = length body + length (turns_code body most) in
          let l : (pc + 1) + length (body ++ turns_code body most) ≡ end = stands_length code (pc + 1) end (body ++ turns_code body most) st.1 in
          let e : pc + 1 + size ≡ end = let q = length-append body (turns_code body most) in omega arith in
          let there : M (pc + 1 + size) a = closed pc a (pc + 1 + size) a m (step_by (spot (pc + 1 + size) a) (Fork size) pc a st.0 (inr (inl refl))) (omega arith) lt in
          subst (λ (z : ℕ). M z b) e (subst (λ (z : ℕ). M (pc + 1 + size) z) (sym same) there)
      goes_turns (suc most) (suc k) pc end a b up st le lt m t =
          let size : ℕ = length body + length (turns_code body most) in
          let q = stands_append code (pc + 1) end body (turns_code body most) st.1 in
          let l : (pc + 1) + length body ≡ q.0 = stands_length code (pc + 1) q.0 body q.1 in
          let r : q.0 + length (turns_code body most) ≡ end = stands_length code q.0 end (turns_code body most) q.2 in
          let first : M (pc + 1) a = closed pc a (pc + 1) a m (step_by (spot (pc + 1) a) (Fork size) pc a st.0 (inl refl)) (omega arith) lt in
          goes_turns most k q.0 end t.0 b (omega arith) q.2 le (inside a t.0 lt t.1) (goes (pc + 1) q.0 a t.0 q.1 (omega arith) lt first t.1) t.2

      goes_endless : (k pc end a b : ℕ) → Stands code pc (endless_code body) end → end ≤ length code → a < n → M pc a → Turned A k a b → M end b
      goes_endless zero pc end a b st le lt m t =
          let same : b ≡ a = t in
          let size : ℕ = length body + 1 in
          let l : (pc + 1) + length (body ++ (Back size ∷ [])) ≡ end = stands_length code (pc + 1) end (body ++ (Back size ∷ [])) st.1 in
          let e : pc + 1 + size ≡ end = let q = length-append body (Back size ∷ []) in omega arith in
          let there : M (pc + 1 + size) a = closed pc a (pc + 1 + size) a m (step_by (spot (pc + 1 + size) a) (Fork size) pc a st.0 (inr (inl refl))) (omega arith) lt in
          subst (λ (z : ℕ). M z b) e (subst (λ (z : ℕ). M (pc + 1 + size) z) (sym same) there)
      goes_endless (suc k) pc end a b st le lt m t =
          let size : ℕ = length body + 1 in
          let q = stands_append code (pc + 1) end body (Back size ∷ []) st.1 in
          let l : (pc + 1) + length body ≡ q.0 = stands_length code (pc + 1) q.0 body q.1 in
          let r : q.0 + 1 ≡ end = q.2.1 in
          let first : M (pc + 1) a = closed pc a (pc + 1) a m (step_by (spot (pc + 1) a) (Fork size) pc a st.0 (inl refl)) (omega arith) lt in
          let after : M q.0 t.0 = goes (pc + 1) q.0 a t.0 q.1 (omega arith) lt first t.1 in
          let inner : t.0 < n = inside a t.0 lt t.1 in
          let back : M (q.0 - size) t.0 = closed q.0 t.0 (q.0 - size) t.0 after (step_by (spot (q.0 - size) t.0) (Back size) q.0 t.0 q.2.0 (inl refl)) (omega arith) inner in
          let e : q.0 - size ≡ pc = omega arith in
          goes_endless k pc end t.0 b st le inner (subst (λ (z : ℕ). M z t.0) e back) t.2

      bounded : (least most : ℕ) (pc end a b : ℕ) (c : Bool) → nat_le least most ≡ c → Stands code pc (if c then times_code body least (turns_code body (most - least)) else Fail ∷ []) end
          → end ≤ length code → a < n → M pc a → Repeated A least (Some most) a b → M end b
      bounded least most pc end a b true e st le lt m t =
          let low : least ≤ t.0 = t.1 in
          let high : t.0 ≤ most = t.2 in
          let q = turned_split A least (t.0 - least) t.0 a b (omega arith) t.3 in
          let r = goes_times least (turns_code body (most - least)) pc end a q.0 st le lt m q.1 in
          goes_turns (most - least) (t.0 - least) r.0 end q.0 b (omega arith) r.1 le (keeps_turned n A inside least a q.0 lt q.1) r.2 q.2
      bounded least most pc end a b false e st le lt m t =
          let low : least ≤ t.0 = t.1 in
          let high : t.0 ≤ most = t.2 in
          absurd (let p : true ≡ false = sym (le-leb least most (omega arith)) ∙ e in cc)

      pub goes_repeat : (least : ℕ) (most : Option ℕ) → Goes (repeat_code body least most) (Repeated A least most)
      goes_repeat least None pc end a b st le lt m t =
          let low : least ≤ t.0 = t.1 in
          let q = turned_split A least (t.0 - least) t.0 a b (omega arith) t.3 in
          let r = goes_times least (endless_code body) pc end a q.0 st le lt m q.1 in
          goes_endless (t.0 - least) r.0 end q.0 b r.1 le (keeps_turned n A inside least a q.0 lt q.1) r.2 q.2
      goes_repeat least (Some most) pc end a b st le lt m t = bounded least most pc end a b (nat_le least most) refl st le lt m t

    mutual
      unfolding leads leads_on leads_by code_of code_in_order code_one_of asked_path asked_paths

      pub goes : (k : ℕ) (p : Path) → RowsFit rows s k (asked_path p) → Goes (code_of k p) (leads s p)
      goes k (path.Along value) fit pc end a b st le lt m t =
          goes_label governor dependent value k (Along (row_for k value)) fit (λ pc a. refl) (λ a b h d. keeps s (path.Along value) a b h d) pc end a b st le lt m t
      goes k (path.Against value) fit pc end a b st le lt m t =
          goes_label dependent governor value k (Against (row_for k value)) fit (λ pc a. refl) (λ a b h d. keeps s (path.Against value) a b h d) pc end a b st le lt m t
      goes k (path.Filter c) fit pc end a b st le lt m t =
          let e : pc + 1 ≡ end = st.1 in
          let same : b ≡ a = t.1 in
          let there : M (pc + 1) a = closed pc a (pc + 1) a m (step_by (spot (pc + 1) a) (Stay k) pc a st.0 (in_so (holds_in rows k a) (spot (pc + 1) a) (token_row rows s k c a fit ∙ t.0))) (omega arith) lt in
          subst (λ (z : ℕ). M z b) e (subst (λ (z : ℕ). M (pc + 1) z) (sym same) there)
      goes k (path.Seq' v row) fit pc end a b st le lt m t = goes_on k row fit pc end a b st le lt m t
      goes k (path.Alt' v row) fit pc end a b st le lt m t = goes_by k row fit pc end a b st le lt m t
      goes k (path.Repeat' p (more_of-Path body end_of-Path) least most) fit pc end a b st le lt m t =
          goes_repeat (code_of k body) (leads s body) (keeps s body) (goes k body fit) least most pc end a b st le lt m t

      goes_on : (k : ℕ) {m : _} (row : Row_of-Path m) → RowsFit rows s k (asked_paths row) → Goes (code_in_order k row) (leads_on s row)
      goes_on k end_of-Path fit pc end a b st le lt m t =
          let e : pc ≡ end = st in let same : b ≡ a = t in subst (λ (z : ℕ). M z b) e (subst (λ (z : ℕ). M pc z) (sym same) m)
      goes_on k (more_of-Path p rest) fit pc end a b st le lt m t =
          let q = stands_append code pc end (code_of k p) (code_in_order (k + rows_of p) rest) st in
          let l : q.0 + length (code_in_order (k + rows_of p) rest) ≡ end = stands_length code q.0 end (code_in_order (k + rows_of p) rest) q.2 in
          goes_on (k + rows_of p) rest (fit_right rows s k (asked_path p) (asked_paths rest) fit) q.0 end t.0 b q.2 le (keeps s p a t.0 lt t.1)
          (goes k p (fit_left rows s k (asked_path p) (asked_paths rest) fit) pc q.0 a t.0 q.1 (omega arith) lt m t.1) t.2

      goes_by : (k : ℕ) {m : _} (row : Row_of-Path m) → RowsFit rows s k (asked_paths row) → Goes (code_one_of k row) (leads_by s row)
      goes_by k end_of-Path fit pc end a b st le lt m t = absurd t
      goes_by k (more_of-Path p rest) fit pc end a b st le lt m t =
          let later : List Move = code_one_of (k + rows_of p) rest in
          let size : ℕ = length (code_of k p) + 1 in
          let q = stands_append code (pc + 1) end (code_of k p) (Skip (length later) ∷ later) st.1 in
          let l : (pc + 1) + length (code_of k p) ≡ q.0 = stands_length code (pc + 1) q.0 (code_of k p) q.1 in
          let r : (q.0 + 1) + length later ≡ end = stands_length code (q.0 + 1) end later q.2.1 in
          elim t [
            | inl d ↦
                let first : M (pc + 1) a = closed pc a (pc + 1) a m (step_by (spot (pc + 1) a) (Fork size) pc a st.0 (inl refl)) (omega arith) lt in
                let after : M q.0 b = goes k p (fit_left rows s k (asked_path p) (asked_paths rest) fit) (pc + 1) q.0 a b q.1 (omega arith) lt first d in
                let there : M (q.0 + 1 + length later) b = closed q.0 b (q.0 + 1 + length later) b after (step_by (spot (q.0 + 1 + length later) b) (Skip (length later)) q.0 b q.2.0 (inl refl)) (omega arith) (keeps s p a b lt d) in
                subst (λ (z : ℕ). M z b) r there
            | inr d ↦
                let second : M (pc + 1 + size) a = closed pc a (pc + 1 + size) a m (step_by (spot (pc + 1 + size) a) (Fork size) pc a st.0 (inr (inl refl))) (omega arith) lt in
                let e : pc + 1 + size ≡ q.0 + 1 = omega arith in
                goes_by (k + rows_of p) rest (fit_right rows s k (asked_path p) (asked_paths rest) fit) (q.0 + 1) end a b q.2.1 le lt (subst (λ (z : ℕ). M z a) e second) d
          ]
