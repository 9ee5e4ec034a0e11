-- The pass_count come together, and the last state of the table.
use Rattle.std.proofs.Common.{All, eqb, ne_eqb, ◌+◌, ◌≤◌, false, inl, inr, ◌≡◌, ℕ, ◌<◌, Bool, true, List, [], ◌∷◌, ◌++◌, length, Option, Some, refl, sym, ap, ◌∙◌, subst, arith, append_assoc}
use mathlib.Core.Logic.{dite}
use mathlib.Core.Option.{Option as Place, some}
use native.Mathlib.Decide.{ℕ_discrete}
use Rattle.std.proofs.lemmas.Bool.Decides.{nat_tests}
use lib.ListN.{get_elem?}
use Rattle.atomic_table.specs.Table.{Final, Seen, Me}
use Rattle.od_turn.specs.Steps.{at_stage}
use Rattle.atomic_table.specs.Seated.{TableId}
use Rattle.od_text.specs.Lists.{Each}
use Rattle.od_text.proofs.Lists.{Each-weaker, Each-both, Each-from_map}
use Rattle.od_mark.specs.declared.mark.Mark.{Mark}
use Rattle.od_mark.specs.declared.origin.Origin.{Origin}
use Rattle.od_turn.specs.declared.view.PassView.{PassView}
use Rattle.od_turn.specs.declared.view.SeatView.{SeatView}
use Rattle.od_turn.specs.declared.view.Stage.{Stage}
use Rattle.od_turn.specs.declared.view.Stage.TheVariants.{Idle, Waiting, InTurn}
use Rattle.od_turn.specs.declared.pass.Pass.{Pass}
use Rattle.od_turn.specs.Rule.{total, indicator, below, is_numbered, numbered, IsPassNumber, pass_count, Continues, NamesOther, NamesPass, PassFits, StageFits, IsInTurn, IsOrderly, IsLast}
use Rattle.od_turn.specs.Passes.{pass_view, IsFree, pass_views, AreFree, IsPassOf, BeginsIn, HasNumber, NamesOne}
use Rattle.od_turn.proofs.Alls.{all_each, each_all}
use Rattle.od_turn.proofs.Totals.{total_two, total_rest}
use Rattle.od_turn.proofs.Keeps.{other_seat, slot_there}

pub pass_views-snoc : (ps : List Pass) (p : Pass) → pass_views (ps ++ p ∷ []) ≡ pass_views ps ++ pass_view p.badge.views ∷ []
pass_views-snoc [] p = refl
pass_views-snoc (q ∷ ps) p = ap (λ ks. pass_view q.badge.views ∷ ks) (pass_views-snoc ps p)

pub pass_views-length : (ps : List Pass) → length (pass_views ps) ≡ length ps
pass_views-length [] = refl
pass_views-length (p ∷ ps) = let h = pass_views-length ps in omega arith

pub free_front : (id : TableId) (ps : List Pass) (p : Pass) → AreFree id (ps ++ p ∷ []) → AreFree id ps
free_front id [] p h = tt
free_front id (q ∷ ps) p h = (h.0, free_front id ps p h.1)

pub free_last : (id : TableId) (ps : List Pass) (p : Pass) → AreFree id (ps ++ p ∷ []) → (p.badge.table_id ≡ id) × IsFree p.badge.views
free_last id [] p h = h.0
free_last id (q ∷ ps) p h = free_last id ps p h.1

pub gather : (ps : List Pass) (p : Pass) (ks all : List PassView) → pass_views (ps ++ p ∷ []) ++ ks ≡ all → pass_views ps ++ (pass_view p.badge.views ∷ ks) ≡ all
gather ps p ks all e = sym (append_assoc (pass_views ps) (pass_view p.badge.views ∷ []) ks) ∙ (ap (λ l. l ++ ks) (sym (pass_views-snoc ps p)) ∙ e)

some_known : (busy : Bool) (serving : ℕ) (log : List Mark) (ks : List PassView) (st : Stage) → StageFits busy serving log ks st → IsInTurn st → 0 < length ks
some_known busy serving log ks Idle h i = absurd i
some_known busy serving log ks (Waiting t) h i = absurd i
some_known busy serving log ks (InTurn t held) h i = h.0

indicator_small : (b : Bool) → indicator b ≤ 1
indicator_small true = omega arith
indicator_small false = omega arith

numbered_few : (n : ℕ) (ps : List PassView) → total (is_numbered n) ps ≤ length ps
numbered_few n [] = omega arith
numbered_few n (p ∷ ps) = let h = numbered_few n ps in let b = indicator_small (eqb p.number n) in omega arith

number_below : (callers n : ℕ) → 1 ≤ n → n ≤ callers → below n (callers + 1) ≡ below n 1 + 1
number_below callers n low high = grind (arith, nat_tests)

pub closes : {V : Type 0} (marks : V → List Mark) (origin : V → Origin) (callers : ℕ) (o : Origin) (base : List Mark) (id : ℕ) (v : SeatView) (ws : List ℕ) (xs : List (Option V))
    → v.stage ≡ Idle → length v.passes ≡ callers → Final (Seen (IsOrderly marks origin callers o base) id v) ws xs
    → (x : V) × (get_elem? xs 0 ≡ some (Some x)) × IsLast callers o base v.passes (origin x) (marks x)
closes {V} marks origin callers o base id v ws xs idle whole final =
    let s = final.0 in let r = final.1.0 in let at = final.1.1 in
    let calm : r.busy ≡ true → ⊥ = λ busy. let h = r.turn busy in
    let n = other_seat s.views id h.0 v h.1 at h.2 h.3 (λ i. subst IsInTurn idle i) in
    let k = some_known r.busy r.serving r.log h.1.passes h.1.stage (r.seats h.0 h.1 h.2).1 h.3 in
    let two = total_two pass_count s.views id h.0 v h.1 n at h.2 in let all = r.all in omega arith in
    let there = slot_there marks origin callers o base r.busy r.log s.homes r.slot calm in
    let x : V = there.0 in (
      x,
      final.4 0 (Some x) (ap (λ (hs : List (Place (Option V))). get_elem? hs 0) there.1),
      record {
        origin = there.3;
        seen = subst (λ (l : List Mark). Each (PassFits callers o l) v.passes) (sym there.2) (r.seats id v at).0;
        numbers = λ n i.
            let rest = total_rest (numbered n) pass_count s.views id v (λ u. numbered_few n u.passes) at in
            let all = r.all in
            let one = r.apart n in
            let b = number_below callers n i.0 i.1 in
            omega arith;
        added = subst (Continues (NamesPass callers) base) (sym there.2) r.added;
      },
    )

pub shaped : {S : Type 0} (m : Me S SeatView) (ks : List PassView) → m.0 ≡ at_stage ks Idle → m.1 ≡ [] → m ≡ (at_stage m.0.passes Idle, [])
shaped {S} m ks e h = λ i. ((e ∙ ap (λ (v : SeatView). at_stage v.passes Idle) (sym e)) i, h i)

-- passes that can be used are free
pub passes_free : (id : TableId) (o : Origin) (ps : List Pass) → All (IsPassOf id o) ps → AreFree id ps
passes_free id o ps h = Each-weaker (IsPassOf id o) (λ p. (p.badge.table_id ≡ id) × IsFree p.badge.views) (λ p k. (k.0, k.1)) ps (all_each (IsPassOf id o) ps h)

-- what was found of the views holds of the passes
pub passes_begin : (id : TableId) (callers : ℕ) (o : Origin) (marks : List Mark) (ps : List Pass) → All (IsPassOf id o) ps → Each (PassFits callers o marks) (pass_views ps) → All (BeginsIn marks) ps
passes_begin id callers o marks ps h k = each_all (BeginsIn marks) ps (Each-both (IsPassOf id o) (λ p. PassFits callers o marks (pass_view p.badge.views)) (BeginsIn marks)
    (λ p i f. subst (λ (n : ℕ). Continues (NamesOther n) (pass_view p.badge.views).seen marks) i.2 f.2) ps (all_each (IsPassOf id o) ps h) (Each-from_map (PassFits callers o marks) (λ p. pass_view p.badge.views) ps k))

-- a number that one of the views has is that of a pass
has_number : (id : TableId) (o : Origin) (n : ℕ) (ps : List Pass) → Each (IsPassOf id o) ps → 1 ≤ total (is_numbered n) (pass_views ps) → HasNumber n ps
has_number id o n [] h least = absurd (omega arith)
has_number id o n (p ∷ ps) h least = dite (ℕ_discrete (pass_view p.badge.views).number n)
    (λ e. inl (sym h.0.2 ∙ e))
    (λ ne. let z : indicator (eqb (pass_view p.badge.views).number n) ≡ 0 = ap indicator (ne_eqb (pass_view p.badge.views).number n ne) in inr (has_number id o n ps h.1 (omega arith)))

-- marks that name a pass's number name one of the passes
pub marks_name : (id : TableId) (callers : ℕ) (o : Origin) (ps : List Pass) (base marks : List Mark) → All (IsPassOf id o) ps
    → ((n : ℕ) → IsPassNumber callers n → 1 ≤ total (is_numbered n) (pass_views ps)) → Continues (NamesPass callers) base marks → Continues (NamesOne ps) base marks
marks_name id callers o ps base marks h numbers c =
    (c.0, c.1, Each-weaker (NamesPass callers) (NamesOne ps) (λ m k. has_number id o m.caller ps (all_each (IsPassOf id o) ps h) (numbers m.caller k)) c.0 c.2)
