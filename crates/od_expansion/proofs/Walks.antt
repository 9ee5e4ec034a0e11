-- A walk through a text, occurrence by occurrence.
use Rattle.std.proofs.Common.{◌≡◌, ℕ, zero, suc, ◌+◌, ◌<◌, ◌≤◌, List, [], ◌∷◌, ◌++◌, length, map, get_or, set, Bool, true, false, refl, sym, ap, ◌∙◌, subst, arith, append_assoc, append-nil, Option, Some, None, slice_get, position}
use Rattle.std.specs.Prelude.{◌==◌, ◌||◌, sum_by, nat_lt, if◌then◌else◌}
use Rattle.std.specs.List.{find, position_or_len}
use Rattle.std.specs.Str.{bytes_eq}
use Rattle.std.proofs.lemmas.Bool.{ltb-true, ltb-false, eqb-true, eqb-false}
use Rattle.std.proofs.lemmas.Slice.Eq.{bytes_eq-Decides}
use Rattle.std.proofs.lemmas.List.Folds.{find_at}
use Rattle.std.proofs.lemmas.List.Sums.{passes_at_first, sum_by-set}
use Rattle.std.proofs.lemmas.List.{length-set}
use Rattle.std.proofs.lemmas.Option.{slice_get_past, slice_get_within, get_or_from_slice_get}
use Rattle.od_names.proofs.Named.{position-map}
use Rattle.od_rule_text.specs.declared.rule_file.KeyText.{KeyText}
use Rattle.od_rule_text.specs.Expansion.{Piece, stays, occurs, pieces, Misfit, unknown, cycle, is_named}
use Rattle.od_rule_text.specs.Meanings.{Gives, nothing, byte, variable}
use Rattle.od_rule_text.proofs.Outcomes.{taken, same_some}
use Rattle.od_expansion.specs.declared.bounded.Bounded.{Bounded}
use Rattle.od_expansion.specs.declared.state.State.{State}
use Rattle.od_expansion.specs.declared.state.State.TheVariants.{Unseen, Open, Known}
use Rattle.od_expansion.specs.declared.walk.Stop.{Stop}
use Rattle.od_expansion.specs.declared.walk.Stop.TheVariants.{Unknown, Cycle, NoMemory}
use Rattle.od_expansion.specs.Bounds.{Holds}
use Rattle.od_expansion.specs.Occurrences.{Appends, HasOccurrence}
use Rattle.od_expansion.specs.States.{place_of, is_open_state, is_open_at, is_open, SameOpen, unseen, IsKnownAt, AreKnown}
use Rattle.od_expansion.specs.Places.{Fails}
use Rattle.od_expansion.specs.Walks.{IsReady, KeepsStates, IsExpansion, AppendsVariable, IsStop}
use Rattle.od_expansion.proofs.Derivations.{same_name}
use Rattle.od_expansion.proofs.Misfits.{fails_behind_bytes, fails_behind_known, fails_unknown, fails_cycle, fails_inside}

-- ## A write to one state

get_same : {X : Type 0} (xs : List X) (i : ℕ) (y : X) → i < length xs → slice_get (set xs i y) i ≡ Some y
get_same [] i y h = absurd (omega (arith, h))
get_same (x ∷ xs) zero y h = refl
get_same (x ∷ xs) (suc i) y h = get_same xs i y (omega arith)

get_other : {X : Type 0} (xs : List X) (i j : ℕ) (y : X) → (i ≡ j → ⊥) → slice_get (set xs i y) j ≡ slice_get xs j
get_other [] i j y apart = refl
get_other (x ∷ xs) zero zero y apart = absurd (apart refl)
get_other (x ∷ xs) zero (suc j) y apart = refl
get_other (x ∷ xs) (suc i) zero y apart = refl
get_other (x ∷ xs) (suc i) (suc j) y apart = get_other xs i j y (λ e. apart (omega (arith, e)))

-- ## Places of names

module _ (vars : List KeyText) (names : List (List ℕ)) (are : names ≡ map (λ (v : KeyText). v.key) vars) (name : List ℕ) where
  place_in_vars : place_of names name ≡ position (is_named name) vars
  place_in_vars = ap (position (λ other. bytes_eq other name)) are ∙ position-map (λ other. bytes_eq other name) (λ (v : KeyText). v.key) vars

  -- a place is that of the first variable of the name
  pub found_there : (place : ℕ) → place_of names name ≡ Some place → (find (is_named name) vars ≡ slice_get vars place) × (place < length vars)
  found_there place e =
      let first : ℕ = position_or_len (is_named name) vars in
      let t = taken (nat_lt first (length vars)) (Some first) place (sym place_in_vars ∙ e) in
      let same : first ≡ place = same_some (Some first) first place refl t.1 in
      (find_at (is_named name) vars ∙ ap (slice_get vars) same, omega (arith, ltb-true _ _ t.0, same))

  none_false : {A : Type 0} (t : Bool) (p : A) → (if t then Some p else None) ≡ None → t ≡ false
  none_false true p e = absurd (cc)
  none_false false p e = refl

  -- no place, no variable
  pub not_there : place_of names name ≡ None → find (is_named name) vars ≡ None
  not_there e =
      let first : ℕ = position_or_len (is_named name) vars in
      find_at (is_named name) vars ∙ slice_get_past vars first (ltb-false _ _ (none_false (nat_lt first (length vars)) first (sym place_in_vars ∙ e)))

-- the name that stands at a place
place_named : (names : List (List ℕ)) (name : List ℕ) (place : ℕ) → place_of names name ≡ Some place → get_or names place [] ≡ name
place_named names name place e =
    let first : ℕ = position_or_len (λ other. bytes_eq other name) names in
    let t = taken (nat_lt first (length names)) (Some first) place e in
    let same : first ≡ place = same_some (Some first) first place refl t.1 in
    same_name (get_or names place []) name (subst (λ k. bytes_eq (get_or names k []) name ≡ true) same (passes_at_first (λ other. bytes_eq other name) names [] (ltb-true _ _ t.0)))

-- ## What is under way

same_open_at : (before after : List State) (o : Option ℕ) → SameOpen before after → is_open_at after o ≡ is_open_at before o
same_open_at before after None h = refl
same_open_at before after (Some place) h = h place

-- pieces fail alike where the same is under way
fails_same : (vars : List KeyText) (names : List (List ℕ)) (before after : List State) (ps : List Piece) (misfit : Misfit) → SameOpen before after → Fails vars names after ps misfit → Fails vars names before ps misfit
fails_same vars names before after ps misfit same h d left within stands = h d left within (record {
  open_are = λ name. stands.open_are name ∙ sym (same_open_at before after (place_of names name) same);
  agrees = stands.agrees;
  few = stands.few;
  above = stands.above;
})

opens_at : (names : List (List ℕ)) (states : List State) (name other : List ℕ) (place : ℕ) (o : Option ℕ) → place_of names name ≡ Some place → place_of names other ≡ o → bytes_eq name other ≡ false →
    is_open_at (set states place Open) o ≡ is_open_at states o
opens_at names states name other place None there is apart = refl
opens_at names states name other place (Some p) there is apart =
    ap is_open_state (get_other states place p Open (λ same. false_true (sym apart ∙ equal (sym (place_named names name place there) ∙ ap (λ k. get_or names k []) same ∙ place_named names other p is))))
  where
    false_true : false ≡ true → ⊥
    false_true e = cc

    equal : name ≡ other → bytes_eq name other ≡ true
    equal e = (bytes_eq-Decides name other).1 e

opens_by : (names : List (List ℕ)) (states : List State) (name other : List ℕ) (place : ℕ) (t : Bool) → place < length states → place_of names name ≡ Some place → bytes_eq name other ≡ t →
    is_open names (set states place Open) other ≡ (t || is_open names states other)
opens_by names states name other place true within there e =
    let at : place_of names other ≡ Some place = ap (place_of names) (sym (same_name name other e)) ∙ there in
    ap (is_open_at (set states place Open)) at ∙ ap is_open_state (get_same states place Open within)
opens_by names states name other place false within there e = opens_at names states name other place (place_of names other) there refl e

-- the variable at a place is opened, and nothing else
opens : (names : List (List ℕ)) (states : List State) (name : List ℕ) (place : ℕ) → place < length states → place_of names name ≡ Some place →
    (other : List ℕ) → is_open names (set states place Open) other ≡ (bytes_eq name other || is_open names states other)
opens names states name place within there other = opens_by names states name other place (bytes_eq name other) within there refl

-- ## Occurrence by occurrence

-- how far the walk through a text has come
pub record Walked (vars : List KeyText) (names : List (List ℕ)) (text rest : List ℕ) (before after : List State) (out : Bounded) : Type 0 where
  pub front : List ℕ
  pub kept : Holds out front
  pub gives : (more : List ℕ) → Gives vars (pieces 0 rest) more → Gives vars (pieces 0 text) (front ++ more)
  pub fails : (misfit : Misfit) → Fails vars names after (pieces 0 rest) misfit → Fails vars names before (pieces 0 text) misfit

gives_bytes : (vars : List KeyText) (front : List ℕ) (ps : List Piece) (text : List ℕ) → Gives vars ps text → Gives vars (map stays front ++ ps) (front ++ text)
gives_bytes vars [] ps text g = g
gives_bytes vars (c ∷ front) ps text g = byte c (map stays front ++ ps) (front ++ text) (gives_bytes vars front ps text g)

module _ (vars : List KeyText) (names : List (List ℕ)) (text rest : List ℕ) (before states : List State) (out : Bounded) (w : Walked vars names text rest before states out) where
  -- behind an occurrence
  pub walked_more : (name behind : List ℕ) (mid new : Bounded) (after : List State) → HasOccurrence rest name behind out mid → AppendsVariable vars name mid new → KeepsStates vars states after →
      Walked vars names text behind before after new
  walked_more name behind mid new after o a k = record {
    front = w.front ++ (o.front ++ a.text);
    kept = subst (Holds new) (append_assoc w.front o.front a.text) (a.appends (w.front ++ o.front) (o.appends w.front w.kept));
    gives = λ more g.
        subst (Gives vars (pieces 0 text)) (ap (λ xs. w.front ++ xs) (sym (append_assoc o.front a.text more)) ∙ sym (append_assoc w.front (o.front ++ a.text) more))
        (w.gives (o.front ++ (a.text ++ more)) (subst (λ ps. Gives vars ps (o.front ++ (a.text ++ more))) (sym o.pieces_are)
        (gives_bytes vars o.front (occurs name ∷ pieces 0 behind) (a.text ++ more) (variable name a.variable (pieces 0 behind) a.text more a.there a.gives g))));
    fails = λ misfit h.
        w.fails misfit (subst (λ ps. Fails vars names states ps misfit) (sym o.pieces_are)
        (fails_behind_bytes vars names states o.front (occurs name ∷ pieces 0 behind) misfit
        (fails_behind_known vars names states name a.variable a.text (pieces 0 behind) misfit a.there a.gives (fails_same vars names states after (pieces 0 behind) misfit k.same_open h))));
  }

  -- at the end
  pub walked_end : (new : Bounded) → (pieces 0 rest ≡ map stays rest) × Appends rest out new → IsExpansion vars text new
  walked_end new h =
      let all : Gives vars (map stays rest) rest = subst (λ ps. Gives vars ps rest) (append-nil (map stays rest)) (subst (Gives vars (map stays rest ++ [])) (append-nil rest) (gives_bytes vars rest [] [] nothing)) in
      (w.front ++ rest, w.gives rest (subst (λ ps. Gives vars ps rest) (sym h.0) all), h.1 w.front w.kept)

  -- at a variable that has no expansion
  pub walked_stop : (name behind : List ℕ) (mid : Bounded) (stop : Stop) → HasOccurrence rest name behind out mid → IsStop (λ misfit. (more : List Piece) → Fails vars names states (occurs name ∷ more) misfit) stop →
      IsStop (Fails vars names before (pieces 0 text)) stop
  walked_stop name behind mid Unknown o h =
      w.fails unknown (subst (λ ps. Fails vars names states ps unknown) (sym o.pieces_are) (fails_behind_bytes vars names states o.front (occurs name ∷ pieces 0 behind) unknown (h (pieces 0 behind))))
  walked_stop name behind mid (Cycle var) o h =
      w.fails (cycle var) (subst (λ ps. Fails vars names states ps (cycle var)) (sym o.pieces_are) (fails_behind_bytes vars names states o.front (occurs name ∷ pieces 0 behind) (cycle var) (h (pieces 0 behind))))
  walked_stop name behind mid NoMemory o h = h

-- ## One variable

pub keeps_more : (vars : List KeyText) (a b c : List State) → KeepsStates vars a b → KeepsStates vars b c → KeepsStates vars a c
keeps_more vars a b c h k = record {
  same_open = λ place. k.same_open place ∙ h.same_open place;
  sized = k.sized ∙ h.sized;
  known = k.known;
  fewer = omega (arith, h.fewer, k.fewer);
}

pub unknown_name : (vars : List KeyText) (names : List (List ℕ)) (states : List State) (name : List ℕ) → IsReady vars names states → place_of names name ≡ None → (more : List Piece) → Fails vars names states (occurs name ∷ more) unknown
unknown_name vars names states name r none more = fails_unknown vars names states name more (ap (is_open_at states) none) (not_there vars names r.names_are name none)

some_at : {X : Type 0} (xs : List X) (i : ℕ) → i < length xs → (x : X) × (slice_get xs i ≡ Some x)
some_at [] i h = absurd (omega (arith, h))
some_at (x ∷ xs) zero h = (x, refl)
some_at (x ∷ xs) (suc i) h = some_at xs i (omega arith)

-- the variable at a place
pub variable_there : (vars : List KeyText) (names : List (List ℕ)) (states : List State) (name : List ℕ) (place : ℕ) → IsReady vars names states → place_of names name ≡ Some place →
    (v : KeyText) × (slice_get vars place ≡ Some v) × (find (is_named name) vars ≡ Some v)
variable_there vars names states name place r there =
    let f = found_there vars names r.names_are name place there in
    let s = some_at vars place f.1 in
    (s.0, s.1, f.0 ∙ s.1)

-- whose expansion is known
pub known_name : (vars : List KeyText) (names : List (List ℕ)) (states : List State) (name : List ℕ) (place : ℕ) (kept : Bounded) (old new : Bounded) → IsReady vars names states → place_of names name ≡ Some place →
    slice_get states place ≡ Some (Known kept) → ((front text : List ℕ) → Holds old front → Holds kept text → Holds new (front ++ text)) → AppendsVariable vars name old new
known_name vars names states name place kept old new r there known appends =
    let v = variable_there vars names states name place r there in
    let k = subst (λ s. IsKnownAt vars (Some v.0) s) known (subst (λ x. IsKnownAt vars x (slice_get states place)) v.1 (r.known place)) in
    record { variable = v.0; there = v.2; text = k.0; gives = k.1; appends = λ front h. appends front k.0 h k.2 }

-- ## A variable that was not met yet

got : {X : Type 0} (xs : List X) (i : ℕ) (x : X) → i < length xs → x ≡ get_or xs i x → slice_get xs i ≡ Some x
got [] i x h e = absurd (omega (arith, h))
got (y ∷ ys) zero x h e = ap Some (sym e)
got (y ∷ ys) (suc i) x h e = got ys i x (omega arith) e

-- the state that was read at a place
pub state_there : (vars : List KeyText) (names : List (List ℕ)) (states : List State) (name : List ℕ) (place : ℕ) (state read : State) → IsReady vars names states → place_of names name ≡ Some place →
    read ≡ get_or states place read → read ≡ state → slice_get states place ≡ Some state
state_there vars names states name place state read r there e is =
    let f = found_there vars names r.names_are name place there in
    let within : place < length states = omega (arith, f.1, r.sized) in
    got states place read within e ∙ ap Some is

at_most_one : (state : State) → unseen state ≤ 1
at_most_one Unseen = omega arith
at_most_one Open = omega arith
at_most_one (Known text) = omega arith

-- one fewer is unseen
pub opened_fewer : (states : List State) (place : ℕ) → slice_get states place ≡ Some Unseen → sum_by unseen (set states place Open) + 1 ≡ sum_by unseen states
opened_fewer states place is =
    let within : place < length states = slice_get_within states place Unseen is in
    let one : unseen (get_or states place Unseen) ≡ 1 = ap unseen (get_or_from_slice_get states place Unseen Unseen is) in
    omega (arith, one, sum_by-set unseen states place Open Unseen within)

known_open : (vars : List KeyText) (v : Option KeyText) → IsKnownAt vars v (Some Open)
known_open vars None = tt
known_open vars (Some v) = tt

pub known_unseen : (vars : List KeyText) (v : Option KeyText) → IsKnownAt vars v (Some Unseen)
known_unseen vars None = tt
known_unseen vars (Some v) = tt

known_written : (vars : List KeyText) (states : List State) (place : ℕ) (state : State) → place < length states → IsKnownAt vars (slice_get vars place) (Some state) →
    ((other : ℕ) → (place ≡ other → ⊥) → IsKnownAt vars (slice_get vars other) (slice_get states other)) → AreKnown vars (set states place state)
known_written vars states place state within here others other = by_place (place == other) refl
  where
    by_place : (t : Bool) → (place == other) ≡ t → IsKnownAt vars (slice_get vars other) (slice_get (set states place state) other)
    by_place true e =
        let same : place ≡ other = eqb-true place other e in
        subst (λ k. IsKnownAt vars (slice_get vars k) (slice_get (set states place state) k)) same (subst (IsKnownAt vars (slice_get vars place)) (sym (get_same states place state within)) here)
    by_place false e =
        let apart : place ≡ other → ⊥ = eqb-false place other e in
        subst (IsKnownAt vars (slice_get vars other)) (sym (get_other states place other state apart)) (others other apart)

pub opened_ready : (vars : List KeyText) (names : List (List ℕ)) (states : List State) (place : ℕ) → IsReady vars names states → slice_get states place ≡ Some Unseen → IsReady vars names (set states place Open)
opened_ready vars names states place r is = record {
  names_are = r.names_are;
  sized = length-set states place Open ∙ r.sized;
  known = known_written vars states place Open (slice_get_within states place Unseen is) (known_open vars (slice_get vars place)) (λ other apart. r.known other);
}

-- what stands at its place at last
pub keeps_written : (vars : List KeyText) (states after : List State) (place : ℕ) (state : State) → slice_get states place ≡ Some Unseen → KeepsStates vars (set states place Open) after →
    IsKnownAt vars (slice_get vars place) (Some state) → is_open_state (Some state) ≡ false → KeepsStates vars states (set after place state)
keeps_written vars states after place state is k here shut =
    let within : place < length states = slice_get_within states place Unseen is in
    let long : length after ≡ length states = k.sized ∙ length-set states place Open in
    let there : place < length after = omega (arith, long, within) in
    record {
      same_open = λ other. by_place other (place == other) refl there;
      sized = length-set after place state ∙ long;
      known = known_written vars after place state there here (λ other apart. k.known other);
      fewer = omega (arith, k.fewer, opened_fewer states place is, sum_by-set unseen after place state Unseen there, at_most_one state);
    }
  where
    by_place : (other : ℕ) (t : Bool) → (place == other) ≡ t → place < length after → is_open_state (slice_get (set after place state) other) ≡ is_open_state (slice_get states other)
    by_place other true e there =
        let same : place ≡ other = eqb-true place other e in
        subst (λ n. is_open_state (slice_get (set after place state) n) ≡ is_open_state (slice_get states n)) same
        (ap is_open_state (get_same after place state there) ∙ shut ∙ sym (ap is_open_state is))
    by_place other false e there =
        let apart : place ≡ other → ⊥ = eqb-false place other e in
        ap is_open_state (get_other after place other state apart) ∙ k.same_open other ∙ ap is_open_state (get_other states place other Open apart)

same_item : (vars : List KeyText) (place : ℕ) (v item : KeyText) → slice_get vars place ≡ Some v → item ≡ get_or vars place item → item ≡ v
same_item vars place v item e is = is ∙ get_or_from_slice_get vars place v item e

-- its text, which gives this expansion
pub expanded_here : (vars : List KeyText) (names : List (List ℕ)) (states : List State) (name : List ℕ) (place : ℕ) (item : KeyText) (kept : Bounded) → IsReady vars names states → place_of names name ≡ Some place →
    item ≡ get_or vars place item → IsExpansion vars item.value kept → IsKnownAt vars (slice_get vars place) (Some (Known kept))
expanded_here vars names states name place item kept r there is gives =
    let v = variable_there vars names states name place r there in
    subst (λ x. IsKnownAt vars x (Some (Known kept))) (sym v.1) (subst (λ (w : KeyText). IsExpansion vars w.value kept) (same_item vars place v.0 item v.1 is) gives)

pub expanded_name : (vars : List KeyText) (names : List (List ℕ)) (states : List State) (name : List ℕ) (place : ℕ) (item : KeyText) (kept old new : Bounded) → IsReady vars names states → place_of names name ≡ Some place →
    item ≡ get_or vars place item → IsExpansion vars item.value kept → ((front text : List ℕ) → Holds old front → Holds kept text → Holds new (front ++ text)) → AppendsVariable vars name old new
expanded_name vars names states name place item kept old new r there is gives appends =
    let v = variable_there vars names states name place r there in
    let g = subst (λ (w : KeyText). IsExpansion vars w.value kept) (same_item vars place v.0 item v.1 is) gives in
    record { variable = v.0; there = v.2; text = g.0; gives = g.1; appends = λ front h. appends front g.0 h g.2 }

-- or has a misfit
pub stopped_name : (vars : List KeyText) (names : List (List ℕ)) (states : List State) (name : List ℕ) (place : ℕ) (item : KeyText) (stop : Stop) → IsReady vars names states → place_of names name ≡ Some place →
    item ≡ get_or vars place item → slice_get states place ≡ Some Unseen → IsStop (Fails vars names (set states place Open) (pieces 0 item.value)) stop →
    IsStop (λ misfit. (more : List Piece) → Fails vars names states (occurs name ∷ more) misfit) stop
stopped_name vars names states name place item stop r there is unseen_there h = by_stop stop h
  where
    within : place < length states
    within = slice_get_within states place Unseen unseen_there

    inside : (misfit : Misfit) → Fails vars names (set states place Open) (pieces 0 item.value) misfit → (more : List Piece) → Fails vars names states (occurs name ∷ more) misfit
    inside misfit f more =
        let v = variable_there vars names states name place r there in
        let same : item ≡ v.0 = same_item vars place v.0 item v.1 is in
        fails_inside vars names states (set states place Open) name v.0 more misfit (ap (is_open_at states) there ∙ ap is_open_state unseen_there) v.2
        (opens names states name place within there) (subst (λ (w : KeyText). Fails vars names (set states place Open) (pieces 0 w.value) misfit) same f)

    by_stop : (stop : Stop) → IsStop (Fails vars names (set states place Open) (pieces 0 item.value)) stop → IsStop (λ misfit. (more : List Piece) → Fails vars names states (occurs name ∷ more) misfit) stop
    by_stop Unknown f = inside unknown f
    by_stop (Cycle var) f = inside (cycle var) f
    by_stop NoMemory f = f
