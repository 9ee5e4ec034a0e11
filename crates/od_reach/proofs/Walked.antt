-- Each step of the walk keeps what is known, and at its end the marks are the tokens to which the path leads.
use Rattle.std.proofs.Common.{◌≡◌, ℕ, zero, suc, ◌+◌, ◌*◌, ◌<◌, ◌≤◌, ◌⊎◌, ◌≢◌, Bool, true, false, not, List, [], ◌∷◌, ◌++◌, length, refl, sym, ◌∙◌, ap, subst, inl, inr, arith, get_or, set, cond, get_or-set_same, get_or-set_other, append_assoc, length-append}
use Rattle.std.proofs.lemmas.Bool.{cases_lt, cases_eq, both_ways}
use Rattle.std.proofs.lemmas.Option.{slice_get_past}
use Rattle.std.proofs.lemmas.List.{get_or_default}
use Rattle.std.proofs.lemmas.List.Sums.{sum_by-set}
use Rattle.std.proofs.Math.Nat.{mul-le-mul_right}
use Rattle.std.specs.Prelude.{Option, Some, None, slice_get, slice_index_or, count_by, sum_by, replicate}
use Rattle.od_asked.specs.Asked.{asked_path}
use Rattle.od_matching.proofs.Matching.Spread.{Under}
use Rattle.od_matching.specs.Matching.Reach.{Set, nodes, leads, reached}
use Rattle.od_matching.proofs.Matching.Reaches.{reached_from}
use Rattle.od_document.specs.declared.sentence.Sentence.{Sentence}
use Rattle.od_pattern.specs.declared.path.Path.{Path}
use Rattle.od_reach.specs.Moves.{Input, spot, if_so, nexts_of, steps, In, Stands}
use Rattle.od_reach.specs.Code.{code_of}
use Rattle.od_asked.specs.Tables.{RowsFit}
use Rattle.od_reach.specs.Moves.{input_of}
use Rattle.od_reach.specs.Walking.{number, Ends, Justified, Marked, Walking, starts_below, set_of}
use Rattle.od_reach.proofs.Spots.{in_left, in_right, in_cases, in_so, so_in}
use Rattle.od_reach.proofs.Goes.{goes}
use Rattle.od_reach.proofs.Comes.{comes}
use Rattle.od_reach.specs.declared.moves.Move.{Move}
use Rattle.od_reach.specs.declared.moves.Spot.{Spot}

apart : (n a b p q : ℕ) → p < n → q < n → a * n + p ≡ b * n + q → a < b → ⊥
apart n a b p q hp hq e lt =
    let le : (a + 1) * n ≤ b * n = mul-le-mul_right n (let h : a + 1 ≤ b = omega arith in h) in
    omega arith

same_number : (n : ℕ) (x y : Spot) → x.pc < n → y.pc < n → number n x ≡ number n y → (x.at ≡ y.at) × (x.pc ≡ y.pc)
same_number n x y hx hy e =
    elim (cases_lt x.at y.at) [
      | inl lt ↦ absurd (apart n x.at y.at x.pc y.pc hx hy e lt)
      | inr ge ↦
          elim (cases_lt y.at x.at) [
            | inl lt ↦ absurd (apart n y.at x.at y.pc x.pc hy hx (sym e) lt)
            | inr le ↦ let a : x.at ≡ y.at = omega arith in (a, (let r : y.at * n + x.pc ≡ y.at * n + y.pc = subst (λ (z : ℕ). z * n + x.pc ≡ y.at * n + y.pc) a e in omega arith))
          ]
    ]

-- a mark that is set leaves one fewer unset
pub count-set : (xs : List Bool) (n : ℕ) → n < length xs → get_or xs n false ≡ false → count_by not (set xs n true) + 1 ≡ count_by not xs
count-set xs n h e =
    let f : Bool → ℕ = λ x. cond (not x) 1 0 in
    let r : sum_by f (set xs n true) + f (get_or xs n false) ≡ sum_by f xs + f true = sum_by-set f xs n true false h in
    let q : f (get_or xs n false) ≡ 1 = ap f e in
    omega arith

pub read_at : (code : List Move) (pc : ℕ) (d : Move) → pc < length code → slice_get code pc ≡ Some (get_or code pc d)
read_at [] pc d h = absurd (omega arith)
read_at (x ∷ code) zero d h = refl
read_at (x ∷ code) (suc pc) d h = read_at code pc d (omega arith)

pub mark_at : (xs : List Bool) (n k : ℕ) (b v : Bool) → n ≡ k → n < length xs → b ≡ get_or xs n b → b ≡ v → get_or xs k false ≡ v
mark_at xs n k b v e h r t = ap (λ z. get_or xs z false) (sym e) ∙ get_or_default xs n false b h ∙ sym r ∙ t

pub progress : (a b t x y : ℕ) → a + 1 ≡ b → y ≤ x + (t + 2) → a * (t + 3) + y ≤ b * (t + 3) + x
progress a b t x y e h = subst (λ (z : ℕ). a * (t + 3) + y ≤ z * (t + 3) + x) e (omega arith)

module _ (g : Input) (code : List Move) (start : Set) where
  abbrev n : ℕ
  n = length code + 1

  -- the spot is the last one, or it was there before
  last_or : (x y : Spot) (ts : List Spot) → In x (ts ++ y ∷ []) → (y ≡ x) ⊎ In x ts
  last_or x y ts h = elim (in_cases x ts (y ∷ []) h) [ inl l ↦ inr l | inr r ↦ elim r [ inl e ↦ inl e | inr none ↦ absurd none ] ]

  -- a spot that is not among the marks is dropped
  pub drop_out : (marks : List Bool) (ts : List Spot) (y : Spot) → ((y.pc < n) × (y.at < g.tokens) → ⊥) → Walking g code start marks (ts ++ y ∷ []) → Walking g code start marks ts
  drop_out marks ts y out w = record {
    marked_is = w.marked_is;
    todo_is = λ pc a h. w.todo_is pc a (in_left (spot pc a) ts (y ∷ []) h);
    covered = λ pc a q c m i lq lc.
        elim (w.covered pc a q c m i lq lc) [
          | inl h ↦ inl h
          | inr h ↦ elim (last_or (spot q c) y ts h) [ inl e ↦ absurd (out (subst (λ (z : Spot). (z.pc < n) × (z.at < g.tokens)) (sym e) (lq, lc))) | inr l ↦ inr l ]
        ];
    starts = λ x e lx.
        elim (w.starts x e lx) [
          | inl h ↦ inl h
          | inr h ↦ elim (last_or (spot 0 x) y ts h) [ inl e2 ↦ absurd (out (subst (λ (z : Spot). (z.pc < n) × (z.at < g.tokens)) (sym e2) (omega arith, lx))) | inr l ↦ inr l ]
        ];
  }

  -- a spot that is marked is dropped
  pub drop_seen : (marks : List Bool) (ts : List Spot) (y : Spot) → Marked g code marks y.pc y.at → Walking g code start marks (ts ++ y ∷ []) → Walking g code start marks ts
  drop_seen marks ts y seen w = record {
    marked_is = w.marked_is;
    todo_is = λ pc a h. w.todo_is pc a (in_left (spot pc a) ts (y ∷ []) h);
    covered = λ pc a q c m i lq lc.
        elim (w.covered pc a q c m i lq lc) [
          | inl h ↦ inl h
          | inr h ↦ elim (last_or (spot q c) y ts h) [ inl e ↦ inl (subst (λ (z : Spot). Marked g code marks z.pc z.at) e seen) | inr l ↦ inr l ]
        ];
    starts = λ x e lx.
        elim (w.starts x e lx) [
          | inl h ↦ inl h
          | inr h ↦ elim (last_or (spot 0 x) y ts h) [ inl e2 ↦ inl (subst (λ (z : Spot). Marked g code marks z.pc z.at) e2 seen) | inr l ↦ inr l ]
        ];
  }

  module _ (marks : List Bool) (ts : List Spot) (y : Spot) (lt : y.pc < n) (room : number n y < length marks) where
    abbrev after : List Bool
    after = set marks (number n y) true

    set_here : Marked g code after y.pc y.at
    set_here = (lt, get_or-set_same marks (number n y) true false room)

    set_keeps : (pc a : ℕ) → Marked g code marks pc a → Marked g code after pc a
    set_keeps pc a m =
        elim (cases_eq (number n (spot pc a)) (number n y)) [
          | inl e ↦ (m.0, ap (λ (z : ℕ). get_or after z false) e ∙ set_here.1)
          | inr ne ↦ (m.0, get_or-set_other marks (number n y) (number n (spot pc a)) true false ne ∙ m.1)
        ]

    set_was : (pc a : ℕ) → Marked g code after pc a → ((y.at ≡ a) × (y.pc ≡ pc)) ⊎ Marked g code marks pc a
    set_was pc a m =
        elim (cases_eq (number n (spot pc a)) (number n y)) [
          | inl e ↦ inl (same_number n y (spot pc a) lt m.0 (sym e))
          | inr ne ↦ inr (m.0, sym (get_or-set_other marks (number n y) (number n (spot pc a)) true false ne) ∙ m.1)
        ]

    here : Walking g code start marks (ts ++ y ∷ []) → Justified g code start y.pc y.at
    here w = w.todo_is y.pc y.at (in_right y ts (y ∷ []) (inl refl))

    -- a spot is taken up: it is marked, and what follows it is to be taken up
    pub go_on : Walking g code start marks (ts ++ y ∷ []) → Walking g code start after (ts ++ steps g code y)
    go_on w = record {
      marked_is = λ pc a m.
          elim (set_was pc a m) [
            | inl e ↦ subst (λ (z : ℕ). Justified g code start z a) e.1 (subst (λ (z : ℕ). Justified g code start y.pc z) e.0 (here w))
            | inr old ↦ w.marked_is pc a old
          ];
      todo_is = λ pc a h.
          elim (in_cases (spot pc a) ts (steps g code y) h) [
            | inl l ↦ w.todo_is pc a (in_left (spot pc a) ts (y ∷ []) l)
            | inr r ↦ λ b j ends. here w b (suc j) (pc, a, r, ends)
          ];
      covered = λ pc a q c m i lq lc.
          elim (set_was pc a m) [
            | inl e ↦
                inr (in_right (spot q c) ts (steps g code y)
                (subst (λ (z : ℕ). In (spot q c) (steps g code (spot y.pc z))) (sym e.0) (subst (λ (z : ℕ). In (spot q c) (steps g code (spot z a))) (sym e.1) i)))
            | inr old ↦ moved q c (w.covered pc a q c old i lq lc)
          ];
      starts = λ x e lx. moved 0 x (w.starts x e lx);
    }
      where
        moved : (q c : ℕ) → Marked g code marks q c ⊎ In (spot q c) (ts ++ y ∷ []) → Marked g code after q c ⊎ In (spot q c) (ts ++ steps g code y)
        moved q c (inl m) = inl (set_keeps q c m)
        moved q c (inr h) =
            elim (last_or (spot q c) y ts h) [
              | inl e ↦ inl (subst (λ (z : Spot). Marked g code after z.pc z.at) e set_here)
              | inr l ↦ inr (in_left (spot q c) ts (steps g code y) l)
            ]

slice_get-seam : (pre : List Move) (x : Move) (post : List Move) → slice_get (pre ++ x ∷ post) (length pre) ≡ Some x
slice_get-seam [] x post = refl
slice_get-seam (y ∷ pre) x post = slice_get-seam pre x post

stands_in : (pre code : List Move) → Stands (pre ++ code) (length pre) code (length pre + length code)
stands_in pre [] = omega arith
stands_in pre (x ∷ code) =
    let whole : (pre ++ x ∷ []) ++ code ≡ pre ++ (x ∷ code) = append_assoc pre (x ∷ []) code in
    let len : length (pre ++ x ∷ []) ≡ length pre + 1 = length-append pre (x ∷ []) in (
      slice_get-seam pre x code,
      subst (λ (z : List Move). Stands z (length pre + 1) code (length pre + suc (length code))) whole
          (subst (λ (z : ℕ). Stands ((pre ++ x ∷ []) ++ code) (length pre + 1) code z) (let q : length pre + 1 + length code ≡ length pre + suc (length code) = omega arith in q)
          (subst (λ (z : ℕ). Stands ((pre ++ x ∷ []) ++ code) z code (z + length code)) len (stands_in (pre ++ x ∷ []) code))),
    )

pub stands_whole : (code : List Move) → Stands code 0 code (length code)
stands_whole code = subst (λ (z : ℕ). Stands code 0 code z) (let q : 0 + length code ≡ length code = omega arith in q) (stands_in [] code)

-- nothing follows behind the last move
at_end : (g : Input) (code : List Move) (b k to : ℕ) → Ends g code (length code) b k (length code) to → b ≡ to
at_end g code b zero to e = e.1
at_end g code b (suc k) to e =
    absurd (subst (λ (z : Option Move). In (spot e.0 e.1) (nexts_of g z (length code) to)) (slice_get_past code (length code) (let le : length code ≤ length code = omega arith in le)) e.2)

same_truth : (a b : Bool) → (a ≡ true → b ≡ true) → (b ≡ true → a ≡ true) → a ≡ b
same_truth true b f h = sym (f refl)
same_truth false true f h = h refl
same_truth false false f h = refl

-- at the walk's end the marks behind the last move are the tokens to which the path leads
pub walked : (s : Sentence) (rows : List (List Bool)) (p : Path) (code : List Move) (start : Set) (marks : List Bool) (first : ℕ)
    → code ≡ code_of first p → RowsFit rows s first (asked_path p) → Under (nodes s) start
    → Walking (input_of s rows) code start marks [] → (b : ℕ) → b < nodes s
    → slice_index_or marks (number (length code + 1) (spot (length code) b)) false ≡ reached s p start b
walked s rows p code start marks first e fit under w b lt =
    same_truth _ _
    (λ m.
    let r = w.marked_is (length code) b (omega arith, m) b zero (refl, refl) in
    let st : Stands code 0 (code_of first p) (length code) = subst (λ (z : List Move). Stands code 0 z (length code)) e (stands_whole code) in
    let x = comes s rows code (length code) b first p fit 0 (length code) r.2 r.0 st (omega arith) r.3 in
    let same : b ≡ x.to = at_end (input_of s rows) code b x.left x.to x.rest in
    (reached_from s p start b under).1 (r.0, r.1, subst (λ (z : ℕ). leads s p r.0 z) (sym same) x.leads_to))
    (λ t.
    let r = (reached_from s p start b under).0 t in
    let st : Stands code 0 (code_of first p) (length code) = subst (λ (z : List Move). Stands code 0 z (length code)) e (stands_whole code) in
    let closed : (pc a q c : ℕ) → Marked (input_of s rows) code marks pc a → In (spot q c) (steps (input_of s rows) code (spot pc a)) → q ≤ length code → c < length s.tokens → Marked (input_of s rows) code marks q c =
    λ pc a q c m i lq lc. elim (w.covered pc a q c m i (omega arith) lc) [ inl h ↦ h | inr none ↦ absurd none ] in
    let begin : Marked (input_of s rows) code marks 0 r.0 = elim (w.starts r.0 r.1 (under r.0 r.1)) [ inl h ↦ h | inr none ↦ absurd none ] in
    (goes s rows code (Marked (input_of s rows) code marks) closed first p fit 0 (length code) r.0 b st (omega arith) (under r.0 r.1) begin r.2).1)

all_false : (n i : ℕ) → slice_index_or (replicate n false) i false ≡ false
all_false zero i = refl
all_false (suc n) zero = refl
all_false (suc n) (suc i) = all_false n i

started : (start : Set) (m : ℕ) (x : Spot) → In x (starts_below start m) → (start x.at ≡ true) × (x.pc ≡ 0)
unfolding starts_below
started start zero x h = absurd h
started start (suc m) x h =
    elim (in_cases x (starts_below start m) (if_so (start m) (spot 0 m)) h) [
      | inl l ↦ started start m x l
      | inr r ↦
          let t = so_in (start m) (spot 0 m) x r in
          (subst (λ (z : Spot). start z.at ≡ true) t.1 t.0, sym (ap (λ (z : Spot). z.pc) t.1))
    ]

starting : (start : Set) (m x : ℕ) → x < m → start x ≡ true → In (spot 0 x) (starts_below start m)
unfolding starts_below
starting start zero x h e = absurd (omega arith)
starting start (suc m) x h e =
    elim (cases_lt x m) [
      | inl lt ↦ in_left (spot 0 x) (starts_below start m) (if_so (start m) (spot 0 m)) (starting start m x lt e)
      | inr ge ↦
          let same : x ≡ m = omega arith in
          in_right (spot 0 x) (starts_below start m) (if_so (start m) (spot 0 m))
          (subst (λ (z : ℕ). In (spot 0 z) (if_so (start m) (spot 0 m))) (sym same) (in_so (start m) (spot 0 m) (subst (λ (z : ℕ). start z ≡ true) same e)))
    ]

-- with no mark, and the starts to be taken up
pub begun : (g : Input) (code : List Move) (start : Set) (m size : ℕ) → g.tokens ≤ m → Walking g code start (replicate size false) (starts_below start m)
begun g code start m size le = record {
  marked_is = λ pc a h. absurd (both_ways _ (all_false size (number (length code + 1) (spot pc a))) h.1);
  todo_is = λ pc a h b j ends.
      let t = started start m (spot pc a) h in
      (a, t.0, j, subst (λ (z : ℕ). Ends g code (length code) b j z a) t.1 ends);
  covered = λ pc a q c h i lq lc. absurd (both_ways _ (all_false size (number (length code + 1) (spot pc a))) h.1);
  starts = λ x e lx. inr (starting start m x (omega arith) e);
}

pub under_length : (marks : List Bool) → Under (length marks) (set_of marks)
under_length [] k e = absurd (let q : false ≡ true = e in cc)
under_length (x ∷ marks) zero e = omega arith
under_length (x ∷ marks) (suc k) e = omega (arith, under_length marks k e)
