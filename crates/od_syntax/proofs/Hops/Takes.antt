-- What the machines of surfaces and of steps take, that of hops takes in its place.
use Rattle.std.proofs.Common.{◌≡◌, ℕ, Bool, true, false, if◌then◌else◌, List, [], ◌∷◌, Option, Result, Ok, Err, refl, sym, ◌∙◌, ap}
use Rattle.od_pattern.specs.declared.pattern.Surface.{Surface}
use Rattle.od_pattern.specs.declared.path.Path.{Path}
use Rattle.od_pattern.specs.declared.rule.Hop.{Hop}
use Rattle.od_language.specs.declared.pattern_fault.PatternKind.{PatternKind}
use Rattle.od_language.specs.declared.pattern_fault.PatternKind.TheVariants as kind
use Rattle.od_language.specs.declared.lexeme.LexKind.{LexKind}
use Rattle.od_language.specs.Machine.{◌>>=◌, steps}
use Rattle.od_syntax.specs.HopMachine.{first, between, behind, bars, from_surface, from_steps, step, alone_if, joined_if}
use Rattle.od_syntax.specs.StepsMachine as path
use Rattle.od_syntax.specs.SurfaceMachine as surface
use Rattle.od_syntax.specs.Told.{Told, lexeme, as_told}
use Rattle.od_syntax.proofs.Surfaces.Single.{is_single, IsSingleBy, by_step}

module _ (may : Surface → Option ℕ → Bool) where
  -- in the first surface
  first_by : (w : List LexKind) (x : LexKind) (o : Option Hop) (q : Result surface.State PatternKind) (t : surface.State) →
      ((u : surface.State) → steps (surface.step may) u w ≡ Ok t → steps (step may) (first u) (as_told w) ≡ Ok (first t)) →
      (q >>= λ u. steps (surface.step may) u w) ≡ Ok t → (from_surface first q (lexeme x) o >>= λ u. steps (step may) u (as_told w)) ≡ Ok (first t)
  first_by w x o (Ok u) t f e = f u e
  first_by w x o (Err k) t f e = absurd (cc)

  abbrev taken : surface.State → Result surface.State PatternKind
  taken q = Ok q

  same_state : (q r : surface.State) → taken q ≡ taken r → q ≡ r
  same_state q r e = cc

  pub first_goes : (w : List LexKind) (q t : surface.State) → steps (surface.step may) q w ≡ Ok t → steps (step may) (first q) (as_told w) ≡ Ok (first t)
  first_goes [] q t e = ap (λ z. Ok (first z)) (same_state q t e)
  first_goes (x ∷ w) q t e = first_by w x (alone_if (surface.joins q)) (surface.step may q x) t (λ u. first_goes w u t) e

  -- a state that is not single stays so
  single_by : (w : List LexKind) (b : Bool) (q : Result surface.State PatternKind) (t : surface.State) → IsSingleBy b q →
      ((u : surface.State) → steps (surface.step may) u w ≡ Ok t → is_single u ≡ true) →
      (q >>= λ u. steps (surface.step may) u w) ≡ Ok t → b ≡ true
  single_by w b (Ok u) t i f e = sym i ∙ f u e
  single_by w b (Err k) t i f e = absurd (cc)

  was_single : (bar single : Bool) → (if bar then false else single) ≡ true → (bar ≡ false) × (single ≡ true)
  was_single true single e = absurd (cc)
  was_single false single e = (refl, e)

  pub single_before : (w : List LexKind) (q t : surface.State) → is_single t ≡ true → steps (surface.step may) q w ≡ Ok t → is_single q ≡ true
  single_before [] q t s e = ap is_single (same_state q t e) ∙ s
  single_before (x ∷ w) q t s e =
      (was_single (bars q x) (is_single q)
      (single_by w (if bars q x then false else is_single q) (surface.step may q x) t (by_step may q x) (λ u. single_before w u t s) e)).1

  -- no `|` outside brackets is met
  not_barred : (w : List LexKind) (q t : surface.State) (x : LexKind) → is_single t ≡ true → steps (surface.step may) q (x ∷ w) ≡ Ok t → bars q x ≡ false
  not_barred w q t x s e =
      (was_single (bars q x) (is_single q)
      (single_by w (if bars q x then false else is_single q) (surface.step may q x) t (by_step may q x) (λ u. single_before w u t s) e)).0

  -- in a surface behind steps
  behind_by : (h : Hop) (p : Path) (w : List LexKind) (x : LexKind) (o : Option Hop) (bar : Bool) (q : Result surface.State PatternKind) (t : surface.State) → bar ≡ false →
      ((u : surface.State) → steps (surface.step may) u w ≡ Ok t → steps (step may) (behind h p u) (as_told w) ≡ Ok (behind h p t)) →
      (q >>= λ u. steps (surface.step may) u w) ≡ Ok t →
      (from_surface (behind h p) (if bar then Err kind.Expected else q) (lexeme x) o >>= λ u. steps (step may) u (as_told w)) ≡ Ok (behind h p t)
  behind_by h p w x o true q t b f e = absurd (cc)
  behind_by h p w x o false (Ok u) t b f e = f u e
  behind_by h p w x o false (Err k) t b f e = absurd (cc)

  pub behind_goes : (h : Hop) (p : Path) (w : List LexKind) (q t : surface.State) → is_single t ≡ true → steps (surface.step may) q w ≡ Ok t →
      steps (step may) (behind h p q) (as_told w) ≡ Ok (behind h p t)
  behind_goes h p [] q t s e = ap (λ z. Ok (behind h p z)) (same_state q t e)
  behind_goes h p (x ∷ w) q t s e =
      behind_by h p w x (joined_if h p (surface.joins q)) (bars q x) (surface.step may q x) t (not_barred w q t x s e) (λ u. behind_goes h p w u t s) e

  -- in steps
  between_by : (h : Hop) (w : List Told) (x : Told) (o : Option Path) (q : Result path.State PatternKind) (t : path.State) →
      ((u : path.State) → steps path.step u w ≡ Ok t → steps (step may) (between h u) w ≡ Ok (between h t)) →
      (q >>= λ u. steps path.step u w) ≡ Ok t → (from_steps h q x o >>= λ u. steps (step may) u w) ≡ Ok (between h t)
  between_by h w x o (Ok u) t f e = f u e
  between_by h w x o (Err k) t f e = absurd (cc)

  abbrev taken_in : path.State → Result path.State PatternKind
  taken_in q = Ok q

  same_steps : (q r : path.State) → taken_in q ≡ taken_in r → q ≡ r
  same_steps q r e = cc

  pub between_goes : (h : Hop) (w : List Told) (q t : path.State) → steps path.step q w ≡ Ok t → steps (step may) (between h q) w ≡ Ok (between h t)
  between_goes h [] q t e = ap (λ z. Ok (between h z)) (same_steps q t e)
  between_goes h (x ∷ w) q t e = between_by h w x (path.ended q) (path.step q x) t (λ u. between_goes h w u t) e
