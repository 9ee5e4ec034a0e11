-- The first misfit of pieces, piece by piece.
use Rattle.std.proofs.Common.{◌≡◌, ℕ, zero, suc, List, [], ◌∷◌, ◌++◌, map, Bool, true, false, refl, sym, ap, ◌∙◌, subst, Option, Some, None, Ok, Err}
use Rattle.std.specs.Prelude.{◌||◌, if◌then◌else◌}
use Rattle.std.specs.List.{find}
use Rattle.std.specs.Str.{bytes_eq}
use Rattle.od_rule_text.specs.declared.rule_file.KeyText.{KeyText}
use Rattle.od_rule_text.specs.Texts.{is_among}
use Rattle.od_rule_text.specs.Expansion.{Piece, stays, occurs, pieces, Misfit, unknown, cycle, in_front, followed, joined, is_named, without, text_of, expansion}
use Rattle.od_rule_text.specs.Meanings.{Gives, Reaches, here, later, through}
use Rattle.od_expansion.specs.declared.state.State.{State}
use Rattle.od_expansion.specs.States.{is_open}
use Rattle.od_expansion.specs.Places.{TextReaches, Stands, Fails}
use Rattle.od_expansion.proofs.Derivations.{same_name, name_expands, given_expands, agrees_without, no_cycle}

module _ (vars : List KeyText) (names : List (List ℕ)) where
  -- what stands behind a piece stands where the piece does
  stands_behind : (states : List State) (piece : Piece) (more : List Piece) (d : ℕ) (left : List KeyText) (within : List (List ℕ)) → Stands vars names states (piece ∷ more) d left within → Stands vars names states more d left within
  stands_behind states piece more d left within h = record {
    open_are = h.open_are;
    agrees = h.agrees;
    few = h.few;
    above = λ outer name is reach. h.above outer name is (later piece more reach);
  }

  -- behind a byte
  pub fails_behind_byte : (states : List State) (c : ℕ) (more : List Piece) (misfit : Misfit) → Fails vars names states more misfit → Fails vars names states (stays c ∷ more) misfit
  fails_behind_byte states c more misfit h d left within stands = ap (in_front (c ∷ [])) (h d left within (stands_behind states (stays c) more d left within stands))

  -- behind bytes
  pub fails_behind_bytes : (states : List State) (front : List ℕ) (more : List Piece) (misfit : Misfit) → Fails vars names states more misfit → Fails vars names states (map stays front ++ more) misfit
  fails_behind_bytes states [] more misfit h = h
  fails_behind_bytes states (c ∷ front) more misfit h = fails_behind_byte states c (map stays front ++ more) misfit (fails_behind_bytes states front more misfit h)

  -- ## Behind a variable whose text gives something

  not_within : (within : List (List ℕ)) (name : List ℕ) (v : KeyText) (front : List ℕ) (t : Bool) → is_among within name ≡ t → find (is_named name) vars ≡ Some v → Gives vars (pieces 0 v.value) front →
      (is_among within name ≡ true → TextReaches vars name name) → t ≡ false
  not_within within name v front true is found inner above =
      let own = above is in
      let same : own.variable ≡ v = same_variable (find (is_named name) vars) own.variable v own.there found in
      absurd (no_cycle vars name (pieces 0 v.value) front inner (subst (λ (w : KeyText). Reaches vars name (pieces 0 w.value)) same own.reaches) own)
    where
      same_variable : (o : Option KeyText) (a b : KeyText) → o ≡ Some a → o ≡ Some b → a ≡ b
      same_variable o a b e f = cc
  not_within within name v front false is found inner above = refl

  avoids_by : (within : List (List ℕ)) (name other : List ℕ) (v : KeyText) (front : List ℕ) (here there : Bool) → bytes_eq name other ≡ here → is_among within other ≡ there →
      find (is_named name) vars ≡ Some v → Gives vars (pieces 0 v.value) front → Reaches vars other (pieces 0 v.value) → (is_among within other ≡ true → TextReaches vars other other) → (here || there) ≡ false
  avoids_by within name other v front true there h t found inner reach above =
      let same : name ≡ other = same_name name other h in
      absurd (no_cycle vars other (pieces 0 v.value) front inner reach (record { variable = v; there = subst (λ n. find (is_named n) vars ≡ Some v) same found; reaches = reach }))
  avoids_by within name other v front false true h t found inner reach above = absurd (no_cycle vars other (pieces 0 v.value) front inner reach (above t))
  avoids_by within name other v front false false h t found inner reach above = refl

  -- what a variable's text gives is its expansion wherever it stands
  known_expands : (states : List State) (name : List ℕ) (v : KeyText) (front : List ℕ) (more : List Piece) (d : ℕ) (left : List KeyText) (within : List (List ℕ)) →
      find (is_named name) vars ≡ Some v → Gives vars (pieces 0 v.value) front → Stands vars names states (occurs name ∷ more) d left within → expansion d left within name ≡ Ok front
  known_expands states name v front more d left within found inner h =
      name_expands vars d left within name v (Ok front) h.agrees h.few
      (not_within within name v front (is_among within name) refl found inner (λ is. h.above name name is (here more))) found
      (λ e enough. given_expands vars (pieces 0 v.value) front inner e (without name left) (name ∷ within) (agrees_without vars left within name h.agrees) enough
      (λ other reach. avoids_by within name other v front (bytes_eq name other) (is_among within other) refl refl found inner reach (λ is. h.above other other is (through name v more found reach))))

  pub fails_behind_known : (states : List State) (name : List ℕ) (v : KeyText) (front : List ℕ) (more : List Piece) (misfit : Misfit) → find (is_named name) vars ≡ Some v → Gives vars (pieces 0 v.value) front →
      Fails vars names states more misfit → Fails vars names states (occurs name ∷ more) misfit
  fails_behind_known states name v front more misfit found inner h d left within stands =
      ap (λ r. followed r (joined (λ n. expansion d left within n) more)) (known_expands states name v front more d left within found inner stands)
      ∙ ap (in_front front) (h d left within (stands_behind states (occurs name) more d left within stands))

  -- ## At a variable

  unknown_by : (d : ℕ) (left : List KeyText) (within : List (List ℕ)) (name : List ℕ) → is_among within name ≡ false → find (is_named name) left ≡ None → expansion d left within name ≡ Err unknown
  unknown_by zero left within name out none = ap (λ (t : Bool). if t then Err (cycle name) else Err unknown) out
  unknown_by (suc d) left within name out none =
      ap (λ (t : Bool). if t then Err (cycle name) else text_of (λ n. expansion d (without name left) (name ∷ within) n) (find (is_named name) left)) out
      ∙ ap (text_of (λ n. expansion d (without name left) (name ∷ within) n)) none

  -- that is not there
  pub fails_unknown : (states : List State) (name : List ℕ) (more : List Piece) → is_open names states name ≡ false → find (is_named name) vars ≡ None → Fails vars names states (occurs name ∷ more) unknown
  fails_unknown states name more shut none d left within stands =
      let out : is_among within name ≡ false = stands.open_are name ∙ shut in
      ap (λ r. followed r (joined (λ n. expansion d left within n) more)) (unknown_by d left within name out (stands.agrees name out ∙ none))

  cycle_by : (d : ℕ) (left : List KeyText) (within : List (List ℕ)) (name : List ℕ) → is_among within name ≡ true → expansion d left within name ≡ Err (cycle name)
  cycle_by zero left within name is = ap (λ (t : Bool). if t then Err (cycle name) else Err unknown) is
  cycle_by (suc d) left within name is =
      ap (λ (t : Bool). if t then Err (cycle name) else text_of (λ n. expansion d (without name left) (name ∷ within) n) (find (is_named name) left)) is

  -- whose expansion is under way
  pub fails_cycle : (states : List State) (name : List ℕ) (more : List Piece) → is_open names states name ≡ true → Fails vars names states (occurs name ∷ more) (cycle name)
  fails_cycle states name more is d left within stands =
      ap (λ r. followed r (joined (λ n. expansion d left within n) more)) (cycle_by d left within name (stands.open_are name ∙ is))

  above_by : (within : List (List ℕ)) (name outer inner : List ℕ) (v : KeyText) (more : List Piece) (t : Bool) → bytes_eq name outer ≡ t → find (is_named name) vars ≡ Some v → Reaches vars inner (pieces 0 v.value) →
      (is_among within outer ≡ true → TextReaches vars outer inner) → (t || is_among within outer) ≡ true → TextReaches vars outer inner
  above_by within name outer inner v more true is found reach above e =
      record { variable = v; there = subst (λ n. find (is_named n) vars ≡ Some v) (same_name name outer is) found; reaches = reach }
  above_by within name outer inner v more false is found reach above e = above e

  -- whose text has a misfit
  pub fails_inside : (states opened : List State) (name : List ℕ) (v : KeyText) (more : List Piece) (misfit : Misfit) → is_open names states name ≡ false → find (is_named name) vars ≡ Some v →
      ((other : List ℕ) → is_open names opened other ≡ (bytes_eq name other || is_open names states other)) → Fails vars names opened (pieces 0 v.value) misfit → Fails vars names states (occurs name ∷ more) misfit
  fails_inside states opened name v more misfit shut found opens h d left within stands =
      let out : is_among within name ≡ false = stands.open_are name ∙ shut in
      ap (λ r. followed r (joined (λ n. expansion d left within n) more))
      (name_expands vars d left within name v (Err misfit) stands.agrees stands.few out found
      (λ e enough. h e (without name left) (name ∷ within) (record {
        open_are = λ other. ap (λ (t : Bool). bytes_eq name other || t) (stands.open_are other) ∙ sym (opens other);
        agrees = agrees_without vars left within name stands.agrees;
        few = enough;
        above = λ outer inner is reach. above_by within name outer inner v more (bytes_eq name outer) refl found reach (λ w. stands.above outer inner w (through name v more found reach)) is;
      })))
