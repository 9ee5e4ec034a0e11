-- Texts that stand within no expansion.
use Rattle.std.proofs.Common.{◌≡◌, ℕ, zero, suc, ◌<◌, ◌≤◌, List, [], ◌∷◌, ◌++◌, length, map, take, drop, get_or, false, refl, sym, ap, ◌∙◌, subst, arith, Option, Some, None, Ok, Err, slice_get, drop-cons}
use Rattle.std.proofs.lemmas.List.{take-append-drop}
use Rattle.od_text.proofs.Lists.{EachPoint-at}
use Rattle.od_rule_text.specs.RuleFiles.{has_key}
use Rattle.od_rule_text.specs.declared.rule_file.KeyText.{KeyText}
use Rattle.od_rule_text.specs.Expansion.{Misfit, unknown, cycle, pieces, expanded}
use Rattle.od_rule_text.proofs.Meanings.{expands_as_meant}
use Rattle.od_expansion.specs.declared.bounded.Bounded.{Bounded}
use Rattle.od_expansion.specs.declared.expander.ExpansionFault.{ExpansionFault}
use Rattle.od_expansion.specs.declared.expander.ExpansionFault.TheVariants as fault
use Rattle.od_expansion.specs.declared.state.State.{State}
use Rattle.od_expansion.specs.declared.state.State.TheVariants.{Unseen}
use Rattle.od_expansion.specs.declared.walk.Stop.{Stop}
use Rattle.od_expansion.specs.declared.walk.Stop.TheVariants as stop
use Rattle.od_expansion.specs.Bounds.{IsText}
use Rattle.od_expansion.specs.Faults.{IsExpansionFault, IsFaultOf}
use Rattle.od_expansion.specs.Places.{Fails}
use Rattle.od_expansion.specs.Rest.{AreDistinct, IsAtRest}
use Rattle.od_expansion.specs.States.{place_of, is_open_state, is_open_at, IsKnownAt}
use Rattle.od_expansion.specs.Walks.{IsExpansion, IsStop}

closed_at : (states : List State) (o : Option ℕ) → ((place : ℕ) → is_open_state (slice_get states place) ≡ false) → is_open_at states o ≡ false
closed_at states None h = refl
closed_at states (Some place) h = h place

-- the first misfit of a whole text
whole_fails : (vars : List KeyText) (names : List (List ℕ)) (states : List State) (text : List ℕ) (misfit : Misfit) → IsAtRest vars names states → Fails vars names states (pieces 0 text) misfit → expanded vars text ≡ Err misfit
unfolding expanded
whole_fails vars names states text misfit rest h = h (length vars) vars [] (record {
  open_are = λ name. sym (closed_at states (place_of names name) rest.closed);
  agrees = λ name out. refl;
  few = omega arith;
  above = λ outer name is reach. absurd (cc);
})

-- told as a fault
pub fault_told : (vars : List KeyText) (names : List (List ℕ)) (states : List State) (text : List ℕ) (s : Stop) (f : ExpansionFault) → IsAtRest vars names states → IsStop (Fails vars names states (pieces 0 text)) s → IsFaultOf s f → IsExpansionFault vars text f
fault_told vars names states text stop.Unknown f rest h is = subst (IsExpansionFault vars text) (sym is) (whole_fails vars names states text unknown rest h)
fault_told vars names states text (stop.Cycle name) f rest h is = subst (IsExpansionFault vars text) (sym is) (whole_fails vars names states text (cycle name) rest h)
fault_told vars names states text stop.NoMemory f rest h is = subst (IsExpansionFault vars text) (sym is) tt

-- what was kept is the expansion
pub text_told : (vars : List KeyText) (text : List ℕ) (kept : Bounded) (told : List ℕ) → IsExpansion vars text kept → IsText kept (Some told) → (expanded vars text ≡ Ok told) × (length told ≤ 16384)
text_told vars text kept told e is =
    let t = is e.0 e.2 in
    subst (λ x. (expanded vars text ≡ Ok x) × (length x ≤ 16384)) (sym t.0) (expands_as_meant.given vars text e.0 e.1, t.1)

-- or it is too long
pub too_long : (vars : List KeyText) (text : List ℕ) (kept : Bounded) → IsExpansion vars text kept → IsText kept None → IsExpansionFault vars text fault.TooLong
too_long vars text kept e is = (e.0, expands_as_meant.given vars text e.0 e.1, is e.0 e.2)

-- ## Before the first text

-- all are unseen
abbrev pub fresh : List KeyText → List State
fresh vars = map (λ v. Unseen) vars

fresh_closed : (vars : List KeyText) (place : ℕ) → is_open_state (slice_get (fresh vars) place) ≡ false
fresh_closed [] place = refl
fresh_closed (v ∷ vars) zero = refl
fresh_closed (v ∷ vars) (suc place) = fresh_closed vars place

unseen_known : (all : List KeyText) (v : Option KeyText) → IsKnownAt all v (Some Unseen)
unseen_known all None = tt
unseen_known all (Some v) = tt

none_known : (all : List KeyText) (v : Option KeyText) → IsKnownAt all v None
none_known all None = tt
none_known all (Some v) = tt

fresh_known : (all vars : List KeyText) (v : Option KeyText) (place : ℕ) → IsKnownAt all v (slice_get (fresh vars) place)
fresh_known all [] v place = none_known all v
fresh_known all (w ∷ vars) v zero = unseen_known all v
fresh_known all (w ∷ vars) v (suc place) = fresh_known all vars v place

fresh_sized : (vars : List KeyText) → length (fresh vars) ≡ length vars
fresh_sized [] = refl
fresh_sized (v ∷ vars) = ap suc (fresh_sized vars)

pub fresh_rest : (vars : List KeyText) (names : List (List ℕ)) (states : List State) → names ≡ map (λ (v : KeyText). v.key) vars → states ≡ fresh vars → IsAtRest vars names states
fresh_rest vars names states are is = subst (IsAtRest vars names) (sym is) (record {
  ready = record { names_are = are; sized = fresh_sized vars; known = λ place. fresh_known vars vars (slice_get vars place) place };
  closed = fresh_closed vars;
})

-- a variable among others has another name than those before it
pub new_there : (items : List KeyText) (i : ℕ) (x : KeyText) → i < length items → x ≡ get_or items i x → AreDistinct items → has_key x.key (take i items) ≡ false
new_there items i x within is h =
    let rest : drop i items ≡ get_or items i x ∷ drop (suc i) items = drop-cons items i x within in
    let parts : items ≡ take i items ++ x ∷ drop (suc i) items = sym (take-append-drop i items) ∙ ap (λ ys. take i items ++ ys) (rest ∙ ap (λ y. y ∷ drop (suc i) items) (sym is)) in
    EachPoint-at (λ before v. has_key v.key before ≡ false) (take i items) x (drop (suc i) items) (subst AreDistinct parts h)
