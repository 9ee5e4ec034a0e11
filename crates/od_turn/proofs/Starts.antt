-- The table as it is made, and the pass_count that are cut from the first seat.
use Rattle.std.proofs.Common.{All, ◌≡◌, ℕ, zero, suc, ◌+◌, ◌-◌, ◌^◌, ◌<◌, ◌≤◌, false, List, [], ◌∷◌, ◌++◌, map, length, Option, Some, refl, sym, ap, ◌∙◌, subst, arith, append-nil}
use mathlib.Core.Option.{some, some-injective, some-ne-none}
use lib.ListN.{get_elem?}
use Rattle.atomic_table.specs.Table.{opening}
use Rattle.atomic_table.specs.Seated.{TableId}
use Rattle.od_text.specs.Lists.{Each}
use Rattle.od_mark.specs.declared.mark.Mark.{Mark}
use Rattle.od_mark.specs.declared.origin.Origin.{Origin}
use Rattle.od_turn.specs.declared.view.PassView.{PassView}
use Rattle.od_turn.specs.declared.view.SeatView.{SeatView}
use Rattle.od_turn.specs.declared.view.Stage.TheVariants.{Idle}
use Rattle.od_turn.specs.declared.pass.Pass.{Pass}
use Rattle.od_turn.specs.Rule.{total, below, is_numbered, PassFits, SeatFits, IsOrderly, new_pass, new_passes, first_view}
use Rattle.od_turn.specs.Steps.{at_stage, kept_back, issued}
use Rattle.od_turn.specs.Passes.{pass_view, IsPassOf, IsNew, AreNew}
use Rattle.od_turn.proofs.Keeps.{below_more}
use Rattle.od_turn.proofs.Tells.{pass_stands}
use Rattle.od_turn.proofs.Alls.{each_all}

at_single : {A : Type 0} (a b : A) (j : ℕ) → get_elem? (a ∷ []) j ≡ some b → a ≡ b
at_single a b zero e = some-injective a b e
at_single a b (suc j) e = absurd (some-ne-none b (sym e))

pub new_passes-length : (o : Origin) (base : List Mark) (n k : ℕ) → length (new_passes o base n k) ≡ k
new_passes-length o base n zero = refl
new_passes-length o base n (suc k) = let h = new_passes-length o base (suc n) k in omega arith

new_passes-numbered : (o : Origin) (base : List Mark) (n k m : ℕ) → total (is_numbered m) (new_passes o base n k) + below m n ≡ below m (n + k)
new_passes-numbered o base n zero m = let e : below m n ≡ below m (n + 0) = ap (below m) (omega arith) in omega arith
new_passes-numbered o base n (suc k) m =
    let h = new_passes-numbered o base (suc n) k m in
    let more = below_more m n in
    let e : below m (suc n + k) ≡ below m (n + suc k) = ap (below m) (omega arith) in
    let d : below m (n + 1) ≡ below m (suc n) = ap (below m) (omega arith) in
    omega arith

new_passes-fit : (callers : ℕ) (o : Origin) (base : List Mark) (n k : ℕ) → 1 ≤ n → n + k ≤ callers + 1 → Each (PassFits callers o base) (new_passes o base n k)
new_passes-fit callers o base n zero a b = tt
new_passes-fit callers o base n (suc k) a b = (((a, omega arith), refl, ([], sym (append-nil base), tt)), new_passes-fit callers o base (suc n) k (omega arith) (omega arith))

pub opens : {V : Type 0} (marks : V → List Mark) (origin : V → Origin) (callers count : ℕ) (v x : V) (slots : List (Option V)) → x ≡ v → slots ≡ Some v ∷ [] → count ≡ length (marks v) → callers < 2 ^ 32
    → IsOrderly marks origin callers (origin x) (marks x) (opening (0 ∷ 0 ∷ count ∷ []) slots (first_view (origin x) (marks x) callers))
opens {V} marks origin callers count v x slots same filled long small = record {
  next = 0;
  serving = 0;
  log = marks x;
  busy = false;
  few = small;
  words = ap (λ (n : ℕ). 0 ∷ 0 ∷ n ∷ []) (long ∙ ap (λ (y : V). length (marks y)) (sym same));
  out = refl;
  each = λ t. omega arith;
  slot = (v, ap (map some) filled, ap marks (sym same), ap origin (sym same));
  turn = λ e. absurd (cc (e));
  seats = λ j d e. subst (SeatFits callers (origin x) false 0 (marks x)) (at_single (first_view (origin x) (marks x) callers) d j e) (new_passes-fit callers (origin x) (marks x) 1 callers (omega arith) (omega arith), tt);
  all = let h = new_passes-length (origin x) (marks x) 1 callers in omega arith;
  apart = λ n. let h = new_passes-numbered (origin x) (marks x) 1 callers n in let e : below n (1 + callers) ≡ below n (callers + 1) = ap (below n) (omega arith) in omega arith;
  added = ([], sym (append-nil (marks x)), tt);
}

-- the first of the passes that are left
pub new_passes-step : (o : Origin) (base : List Mark) (n callers : ℕ) → n ≤ callers → new_passes o base n ((callers + 1) - n) ≡ new_pass o base n ∷ new_passes o base (n + 1) ((callers + 1) - (n + 1))
new_passes-step o base n callers h = let k : ℕ = (callers + 1) - (n + 1) in
    ap (new_passes o base n) (let e : (callers + 1) - n ≡ suc k = omega arith in e) ∙ ap (λ (m : ℕ). new_pass o base n ∷ new_passes o base m k) (let e : suc n ≡ n + 1 = omega arith in e)

pub new_push : (o : Origin) (base : List Mark) (id : TableId) (n : ℕ) (ps : List Pass) (p : Pass) → AreNew o base id n ps → IsNew o base id (n + length ps) p → AreNew o base id n (ps ++ p ∷ [])
new_push o base id n [] p h k = (subst (λ (m : ℕ). IsNew o base id m p) (let e : n + 0 ≡ n = omega arith in e) k, tt)
new_push o base id n (q ∷ ps) p h k = (h.0, new_push o base id (suc n) ps p h.1 (subst (λ (m : ℕ). IsNew o base id m p) (let e : n + length (q ∷ ps) ≡ suc n + length ps = omega arith in e) k))

-- what a split of the first seat gives
pub issued_is : (v : SeatView) (k : PassView) (ks : List PassView) → v ≡ at_stage (k ∷ ks) Idle → issued v ≡ at_stage (k ∷ []) Idle
issued_is v k ks e = ap issued e

pub kept_is : (v : SeatView) (k : PassView) (ks : List PassView) → v ≡ at_stage (k ∷ ks) Idle → kept_back v ≡ at_stage ks Idle
kept_is v k ks e = ap kept_back e

-- a pass that was made of a badge with the first of the passes that are left
pub is_new : (o : Origin) (base : List Mark) (id : TableId) (n m : ℕ) (p : Pass) (v : SeatView) (ks : List PassView) → p.badge.table_id ≡ id → p.badge.views ≡ v ∷ [] → v ≡ at_stage (new_pass o base n ∷ ks) Idle → ks ≡ []
    → p.number ≡ n → p.known ≡ length base → n ≡ m → IsNew o base id m p
is_new o base id n m p v ks own views is last number known same =
    let e : p.badge.views ≡ at_stage (new_pass o base n ∷ []) Idle ∷ [] = views ∙ (ap (λ (u : SeatView). u ∷ []) is ∙ ap (λ (l : List PassView). at_stage (new_pass o base n ∷ l) Idle ∷ []) last) in
    subst (λ (k : ℕ). IsNew o base id k p) same
    (pass_stands id o p (new_pass o base n) own e (sym number) refl known, number, ap (λ (vs : List SeatView). (pass_view vs).seen) e)

pub none_left : (o : Origin) (base : List Mark) (n callers : ℕ) → n ≡ callers → new_passes o base (n + 1) ((callers + 1) - (n + 1)) ≡ []
none_left o base n callers e = ap (new_passes o base (n + 1)) (let z : (callers + 1) - (n + 1) ≡ 0 = omega arith in z)

each_ready : (o : Origin) (base : List Mark) (id : TableId) (n : ℕ) (ps : List Pass) → AreNew o base id n ps → Each (IsPassOf id o) ps
each_ready o base id n [] h = tt
each_ready o base id n (p ∷ ps) h = (h.0.0, each_ready o base id (suc n) ps h.1)

-- new passes can be used
pub new_ready : (o : Origin) (base : List Mark) (id : TableId) (n : ℕ) (ps : List Pass) → AreNew o base id n ps → All (IsPassOf id o) ps
new_ready o base id n ps h = each_all (IsPassOf id o) ps (each_ready o base id n ps h)
