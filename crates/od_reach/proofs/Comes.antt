-- What the moves come to is what the path leads to.
use Rattle.std.proofs.Common.{◌≡◌, ℕ, zero, suc, ◌+◌, ◌-◌, ◌<◌, ◌≤◌, ◌⊎◌, Bool, true, false, List, [], ◌∷◌, ◌++◌, length, refl, sym, ◌∙◌, ap, subst, inl, inr, arith, length-append}
use Rattle.std.proofs.lemmas.Bool.{leb-true}
use Rattle.std.specs.Prelude.{nat_le, if◌then◌else◌, Option, Some, None, slice_get}
use Rattle.od_asked.specs.Asked.{asked_path, asked_paths, asked_label}
use Rattle.od_matching.specs.Matching.Reach.{Link, Crosses, Joined, Turned, Repeated, UpTo, governor, dependent, holds_there, leads, leads_on, leads_by}
use Rattle.od_matching.proofs.Matching.Spread.{turned_add}
use Rattle.od_document.specs.declared.token.Edge.{Edge}
use Rattle.od_document.specs.declared.sentence.Sentence.{Sentence}
use Rattle.od_pattern.specs.declared.pattern.Value.{Value}
use Rattle.od_pattern.specs.declared.path.Path as path
use Rattle.od_pattern.specs.declared.path.Path.{Path, Row_of-Path, end_of-Path, more_of-Path}
use Rattle.od_reach.specs.Moves.{Input, holds_in, allows, spot, over_edges, if_so, nexts, nexts_of, steps, In, Stands}
use Rattle.od_reach.specs.Code.{row_for, rows_of, turns_code, endless_code, times_code, repeat_code, code_of, code_in_order, code_one_of}
use Rattle.od_asked.specs.Tables.{RowsFit}
use Rattle.od_reach.specs.Moves.{input_of}
use Rattle.od_reach.specs.Walking as walking
use Rattle.od_asked.proofs.Fits.{fit_left, fit_right}
use Rattle.od_reach.proofs.Spots.{label_row, token_row, so_in, Came, came}
use Rattle.od_reach.proofs.Goes.{stands_append, stands_length}
use Rattle.od_reach.specs.declared.moves.Move.{Move}
use Rattle.od_reach.specs.declared.moves.Move.TheVariants.{Along, Against, Stay, Fork, Skip, Back, Fail}
use Rattle.od_reach.specs.declared.moves.Spot.{Spot}

module _ (s : Sentence) (rows : List (List Bool)) (code : List Move) where
  abbrev g : Input
  g = input_of s rows

  abbrev Ends : ℕ → ℕ → ℕ → ℕ → ℕ → Type 0
  Ends = walking.Ends (input_of s rows) code

  module _ (fin b : ℕ) where
    -- the rest of a run that has left a piece of the moves at its end
    pub record Left (A : Link) (end k a : ℕ) : Type 0 where
      pub to : ℕ
      pub left : ℕ
      pub fewer : left ≤ k
      pub leads_to : A a to
      pub rest : Ends fin b left end to

    abbrev Comes : List Move → Link → Type 0
    Comes part A = (pc end k a : ℕ) → Stands code pc part end → end ≤ fin → Ends fin b k pc a → Left A end k a

    -- the first move of a run that is not at its end
    pub record First (i : Move) (pc k a : ℕ) : Type 0 where
      pub left : ℕ
      pub fewer : k ≡ suc left
      pub q : ℕ
      pub c : ℕ
      pub goes : In (spot q c) (nexts g i pc a)
      pub rest : Ends fin b left q c

    begins : (i : Move) (pc k a : ℕ) → slice_get code pc ≡ Some i → pc < fin → Ends fin b k pc a → First i pc k a
    begins i pc zero a e lt r = absurd (let q : pc ≡ fin = r.0 in omega arith)
    begins i pc (suc k) a e lt r = record { left = k; fewer = refl; q = r.0; c = r.1; goes = subst (λ (z : Option Move). In (spot r.0 r.1) (nexts_of g z pc a)) e r.2; rest = r.3 }

    at_spot : (x : Spot) (k q c : ℕ) → x ≡ spot q c → Ends fin b k q c → Ends fin b k x.pc x.at
    at_spot x k q c e r = subst (λ (z : Spot). Ends fin b k z.pc z.at) (sym e) r

    comes_label : (from to : Edge → ℕ) (value : Option Value) (n : ℕ) (i : Move) → RowsFit rows s n (asked_label value)
        → ((pc a : ℕ) → nexts g i pc a ≡ over_edges from to g (row_for n value) pc a (length s.edges))
        → Comes (i ∷ []) (Crosses from to value s.edges)
    comes_label from to value n i fit is pc end k a st le r =
        let e : pc + 1 ≡ end = st.1 in
        let f = begins i pc k a st.0 (omega arith) r in
        let h : In (spot f.q f.c) (over_edges from to g (row_for n value) pc a (length s.edges)) = subst (In (spot f.q f.c)) (is pc a) f.goes in
        let t = came from to g (row_for n value) pc a (length s.edges) (spot f.q f.c) h in
        let less : k ≡ suc f.left = f.fewer in
        record {
          to = to t.edge;
          left = f.left;
          fewer = omega arith;
          leads_to = record { place = t.place; edge = t.edge; is_there = t.is_there; label = sym (label_row rows s n value t.place t.edge fit t.is_there) ∙ t.allowed; begins = t.begins; ends = refl };
          rest = subst (λ (z : ℕ). Ends fin b f.left z (to t.edge)) e (at_spot (spot (pc + 1) (to t.edge)) f.left f.q f.c t.spot_is f.rest);
        }

    module _ (body : List Move) (A : Link) (comes : Comes body A) where
      comes_times : (m : ℕ) (rest : List Move) (pc end k a : ℕ) → Stands code pc (times_code body m rest) end → end ≤ fin → Ends fin b k pc a
          → (mid : ℕ) × Stands code mid rest end × Left (Turned A m) mid k a
      comes_times zero rest pc end k a st le r = (pc, st, record { to = a; left = k; fewer = omega arith; leads_to = refl; rest = r })
      comes_times (suc m) rest pc end k a st le r =
          let q = stands_append code pc end body (times_code body m rest) st in
          let l : q.0 + length (times_code body m rest) ≡ end = stands_length code q.0 end (times_code body m rest) q.2 in
          let x = comes pc q.0 k a q.1 (omega arith) r in
          let y = comes_times m rest q.0 end x.left x.to q.2 le x.rest in
          let z = y.2 in
          let f1 : x.left ≤ k = x.fewer in
          let f2 : z.left ≤ x.left = z.fewer in
          (y.0, y.1, record { to = z.to; left = z.left; fewer = omega arith; leads_to = (x.to, x.leads_to, z.leads_to); rest = z.rest })

      -- a run that leaves the turns after some of them
      pub record Turns (most end k a : ℕ) : Type 0 where
        pub turns : ℕ
        pub up : turns ≤ most
        pub left : Left (Turned A turns) end k a

      comes_turns : (most pc end k a : ℕ) → Stands code pc (turns_code body most) end → end ≤ fin → Ends fin b k pc a → Turns most end k a
      comes_turns zero pc end k a st le r =
          let e : pc ≡ end = st in
          record { turns = zero; up = omega arith; left = record { to = a; left = k; fewer = omega arith; leads_to = refl; rest = subst (λ (z : ℕ). Ends fin b k z a) e r } }
      comes_turns (suc most) pc end k a st le r =
          let size : ℕ = length body + length (turns_code body most) in
          let q = stands_append code (pc + 1) end body (turns_code body most) st.1 in
          let l1 : (pc + 1) + length body ≡ q.0 = stands_length code (pc + 1) q.0 body q.1 in
          let l2 : q.0 + length (turns_code body most) ≡ end = stands_length code q.0 end (turns_code body most) q.2 in
          let f = begins (Fork size) pc k a st.0 (omega arith) r in
          let less : k ≡ suc f.left = f.fewer in
          elim f.goes [
            | inl e ↦
                let x = comes (pc + 1) q.0 f.left a q.1 (omega arith) (at_spot (spot (pc + 1) a) f.left f.q f.c e f.rest) in
                let y = comes_turns most q.0 end x.left x.to q.2 le x.rest in
                let z = y.left in
                let f1 : x.left ≤ f.left = x.fewer in
                let f2 : z.left ≤ x.left = z.fewer in
                let up : y.turns ≤ most = y.up in
                record { turns = suc y.turns; up = omega arith; left = record { to = z.to; left = z.left; fewer = omega arith; leads_to = (x.to, x.leads_to, z.leads_to); rest = z.rest } }
            | inr h ↦
                elim h [
                  | inl e ↦
                      let to_end : pc + 1 + size ≡ end = omega arith in
                      record {
                        turns = zero;
                        up = omega arith;
                        left = record { to = a; left = f.left; fewer = omega arith; leads_to = refl; rest = subst (λ (z : ℕ). Ends fin b f.left z a) to_end (at_spot (spot (pc + 1 + size) a) f.left f.q f.c e f.rest) };
                      }
                  | inr none ↦ absurd none
                ]
          ]

      -- by the number of moves
      comes_endless : (n pc end k a : ℕ) → k < n → Stands code pc (endless_code body) end → end ≤ fin → Ends fin b k pc a → (turns : ℕ) × Left (Turned A turns) end k a
      comes_endless zero pc end k a small st le r = absurd (omega arith)
      comes_endless (suc n) pc end k a small st le r =
          let size : ℕ = length body + 1 in
          let q = stands_append code (pc + 1) end body (Back size ∷ []) st.1 in
          let l1 : (pc + 1) + length body ≡ q.0 = stands_length code (pc + 1) q.0 body q.1 in
          let l2 : q.0 + 1 ≡ end = q.2.1 in
          let f = begins (Fork size) pc k a st.0 (omega arith) r in
          let less : k ≡ suc f.left = f.fewer in
          elim f.goes [
            | inl e ↦
                let x = comes (pc + 1) q.0 f.left a q.1 (omega arith) (at_spot (spot (pc + 1) a) f.left f.q f.c e f.rest) in
                let f1 : x.left ≤ f.left = x.fewer in
                let h = begins (Back size) q.0 x.left x.to q.2.0 (omega arith) x.rest in
                let less2 : x.left ≡ suc h.left = h.fewer in
                elim h.goes [
                  | inl e2 ↦
                      let to_fork : q.0 - size ≡ pc = omega arith in
                      let again : Ends fin b h.left pc x.to = subst (λ (z : ℕ). Ends fin b h.left z x.to) to_fork (at_spot (spot (q.0 - size) x.to) h.left h.q h.c e2 h.rest) in
                      let y = comes_endless n pc end h.left x.to (omega arith) st le again in
                      let z = y.1 in
                      let f2 : z.left ≤ h.left = z.fewer in
                      (suc y.0, record { to = z.to; left = z.left; fewer = omega arith; leads_to = (x.to, x.leads_to, z.leads_to); rest = z.rest })
                  | inr none ↦ absurd none
                ]
            | inr h ↦
                elim h [
                  | inl e ↦
                      let to_end : pc + 1 + size ≡ end = omega arith in (
                        zero,
                        record { to = a; left = f.left; fewer = omega arith; leads_to = refl; rest = subst (λ (z : ℕ). Ends fin b f.left z a) to_end (at_spot (spot (pc + 1 + size) a) f.left f.q f.c e f.rest) },
                      )
                  | inr none ↦ absurd none
                ]
          ]

      bounded : (least most : ℕ) (pc end k a : ℕ) (c : Bool) → nat_le least most ≡ c → Stands code pc (if c then times_code body least (turns_code body (most - least)) else Fail ∷ []) end
          → end ≤ fin → Ends fin b k pc a → Left (Repeated A least (Some most)) end k a
      bounded least most pc end k a true e st le r =
          let low : least ≤ most = leb-true least most e in
          let x = comes_times least (turns_code body (most - least)) pc end k a st le r in
          let y = x.2 in
          let z = comes_turns (most - least) x.0 end y.left y.to x.1 le y.rest in
          let w = z.left in
          let up : z.turns ≤ most - least = z.up in
          let f1 : y.left ≤ k = y.fewer in
          let f2 : w.left ≤ y.left = w.fewer in
          record {
            to = w.to;
            left = w.left;
            fewer = omega arith;
            leads_to = (least + z.turns, omega arith, omega arith, turned_add A least z.turns (least + z.turns) a y.to w.to refl y.leads_to w.leads_to);
            rest = w.rest;
          }
      bounded least most pc end k a false e st le r =
          let l : pc + 1 ≡ end = st.1 in
          let f = begins Fail pc k a st.0 (omega arith) r in
          absurd f.goes

      comes_repeat : (least : ℕ) (most : Option ℕ) → Comes (repeat_code body least most) (Repeated A least most)
      comes_repeat least None pc end k a st le r =
          let x = comes_times least (endless_code body) pc end k a st le r in
          let y = x.2 in
          let z = comes_endless (suc y.left) x.0 end y.left y.to (omega arith) x.1 le y.rest in
          let w = z.1 in
          let f1 : y.left ≤ k = y.fewer in
          let f2 : w.left ≤ y.left = w.fewer in
          record {
            to = w.to;
            left = w.left;
            fewer = omega arith;
            leads_to = (least + z.0, omega arith, tt, turned_add A least z.0 (least + z.0) a y.to w.to refl y.leads_to w.leads_to);
            rest = w.rest;
          }
      comes_repeat least (Some most) pc end k a st le r = bounded least most pc end k a (nat_le least most) refl st le r

    mutual
      unfolding leads leads_on leads_by code_of code_in_order code_one_of asked_path asked_paths

      pub comes : (n : ℕ) (p : Path) → RowsFit rows s n (asked_path p) → Comes (code_of n p) (leads s p)
      comes n (path.Along value) fit pc end k a st le r = comes_label governor dependent value n (Along (row_for n value)) fit (λ pc a. refl) pc end k a st le r
      comes n (path.Against value) fit pc end k a st le r = comes_label dependent governor value n (Against (row_for n value)) fit (λ pc a. refl) pc end k a st le r
      comes n (path.Filter c) fit pc end k a st le r =
          let e : pc + 1 ≡ end = st.1 in
          let f = begins (Stay n) pc k a st.0 (omega arith) r in
          let t = so_in (holds_in rows n a) (spot (pc + 1) a) (spot f.q f.c) f.goes in
          let less : k ≡ suc f.left = f.fewer in
          record {
            to = a;
            left = f.left;
            fewer = omega arith;
            leads_to = (sym (token_row rows s n c a fit) ∙ t.0, refl);
            rest = subst (λ (z : ℕ). Ends fin b f.left z a) e (at_spot (spot (pc + 1) a) f.left f.q f.c t.1 f.rest);
          }
      comes n (path.Seq' v row) fit pc end k a st le r = comes_on n row fit pc end k a st le r
      comes n (path.Alt' v row) fit pc end k a st le r = comes_by n row fit pc end k a st le r
      comes n (path.Repeat' p (more_of-Path body end_of-Path) least most) fit pc end k a st le r =
          comes_repeat (code_of n body) (leads s body) (comes n body fit) least most pc end k a st le r

      comes_on : (n : ℕ) {m : _} (row : Row_of-Path m) → RowsFit rows s n (asked_paths row) → Comes (code_in_order n row) (leads_on s row)
      comes_on n end_of-Path fit pc end k a st le r =
          let e : pc ≡ end = st in record { to = a; left = k; fewer = omega arith; leads_to = refl; rest = subst (λ (z : ℕ). Ends fin b k z a) e r }
      comes_on n (more_of-Path p rest) fit pc end k a st le r =
          let q = stands_append code pc end (code_of n p) (code_in_order (n + rows_of p) rest) st in
          let l : q.0 + length (code_in_order (n + rows_of p) rest) ≡ end = stands_length code q.0 end (code_in_order (n + rows_of p) rest) q.2 in
          let x = comes n p (fit_left rows s n (asked_path p) (asked_paths rest) fit) pc q.0 k a q.1 (omega arith) r in
          let y = comes_on (n + rows_of p) rest (fit_right rows s n (asked_path p) (asked_paths rest) fit) q.0 end x.left x.to q.2 le x.rest in
          let f1 : x.left ≤ k = x.fewer in
          let f2 : y.left ≤ x.left = y.fewer in
          record { to = y.to; left = y.left; fewer = omega arith; leads_to = (x.to, x.leads_to, y.leads_to); rest = y.rest }

      comes_by : (n : ℕ) {m : _} (row : Row_of-Path m) → RowsFit rows s n (asked_paths row) → Comes (code_one_of n row) (leads_by s row)
      comes_by n end_of-Path fit pc end k a st le r =
          let l : pc + 1 ≡ end = st.1 in
          let f = begins Fail pc k a st.0 (omega arith) r in
          absurd f.goes
      comes_by n (more_of-Path p rest) fit pc end k a st le r =
          let later : List Move = code_one_of (n + rows_of p) rest in
          let size : ℕ = length (code_of n p) + 1 in
          let q = stands_append code (pc + 1) end (code_of n p) (Skip (length later) ∷ later) st.1 in
          let l1 : (pc + 1) + length (code_of n p) ≡ q.0 = stands_length code (pc + 1) q.0 (code_of n p) q.1 in
          let l2 : (q.0 + 1) + length later ≡ end = stands_length code (q.0 + 1) end later q.2.1 in
          let f = begins (Fork size) pc k a st.0 (omega arith) r in
          let less : k ≡ suc f.left = f.fewer in
          elim f.goes [
            | inl e ↦
                let x = comes n p (fit_left rows s n (asked_path p) (asked_paths rest) fit) (pc + 1) q.0 f.left a q.1 (omega arith) (at_spot (spot (pc + 1) a) f.left f.q f.c e f.rest) in
                let f1 : x.left ≤ f.left = x.fewer in
                let h = begins (Skip (length later)) q.0 x.left x.to q.2.0 (omega arith) x.rest in
                let less2 : x.left ≡ suc h.left = h.fewer in
                elim h.goes [
                  | inl e2 ↦ record { to = x.to; left = h.left; fewer = omega arith; leads_to = inl x.leads_to; rest = subst (λ (z : ℕ). Ends fin b h.left z x.to) l2 (at_spot (spot (q.0 + 1 + length later) x.to) h.left h.q h.c e2 h.rest) }
                  | inr none ↦ absurd none
                ]
            | inr h ↦
                elim h [
                  | inl e ↦
                      let to_next : pc + 1 + size ≡ q.0 + 1 = omega arith in
                      let y = comes_by (n + rows_of p) rest (fit_right rows s n (asked_path p) (asked_paths rest) fit) (q.0 + 1) end f.left a q.2.1 le (subst (λ (z : ℕ). Ends fin b f.left z a) to_next (at_spot (spot (pc + 1 + size) a) f.left f.q f.c e f.rest)) in
                      let f1 : y.left ≤ f.left = y.fewer in
                      record { to = y.to; left = y.left; fewer = omega arith; leads_to = inr y.leads_to; rest = y.rest }
                  | inr none ↦ absurd none
                ]
          ]
