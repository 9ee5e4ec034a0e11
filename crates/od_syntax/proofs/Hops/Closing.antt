-- Each state can still be brought to the end.
use Rattle.std.proofs.Common.{◌≡◌, ℕ, Bool, true, List, [], ◌∷◌, ◌++◌, Option, Some, Ok, refl, ◌∙◌, ap}
use Rattle.od_pattern.specs.declared.pattern.Surface.{Surface}
use Rattle.od_pattern.specs.declared.pattern.Surface.TheVariants as pattern
use Rattle.od_pattern.specs.declared.rule.Hop.{Hop}
use Rattle.od_language.specs.declared.lexeme.LexKind.{LexKind}
use Rattle.od_language.specs.declared.lexeme.LexKind.TheVariants.{Caret}
use Rattle.od_language.specs.FirstFault.{Begins}
use Rattle.od_language.specs.Machine.{◌>>=◌, steps}
use Rattle.od_language.proofs.Machine.{steps_append}
use Rattle.od_syntax.specs.HopMachine.{State, first, between, behind, step, ended, alone_if, joined_if}
use Rattle.od_syntax.specs.Hops.{Hops}
use Rattle.od_syntax.specs.StepsMachine as path
use Rattle.od_syntax.specs.SurfaceMachine as surface
use Rattle.od_syntax.specs.Told.{Told, as_told}
use Rattle.od_syntax.proofs.Hops.Complete.{onto_surface}
use Rattle.od_syntax.proofs.Hops.Sound.{Holds, holds, word_of}
use Rattle.od_syntax.proofs.Hops.Takes.{first_goes, behind_goes, between_goes}
use Rattle.od_syntax.proofs.Steps.Closing as path_closing
use Rattle.od_syntax.proofs.Steps.Sound as path_sound
use Rattle.od_syntax.proofs.Surfaces.Closing as surface_closing
use Rattle.od_syntax.proofs.Surfaces.Single.{is_single}
use Rattle.od_syntax.proofs.Surfaces.Sound as surface_sound

module _ (may : Surface → Option ℕ → Bool) where
  abbrev start : surface.State
  start = surface.atom [] [] surface.top

  -- where a surface without choices may end, steps may begin
  joins_there : (w : List LexKind) (q : surface.State) (r : Surface) → surface_sound.Holds may w q [] → is_single q ≡ true → surface.ended q ≡ Some r → surface.joins q ≡ Some r
  joins_there w (surface.part p [] s surface.top) r h i e = e
  joins_there w (surface.counted p n m [] s surface.top) r h i e = e
  joins_there w (surface.turned [] s surface.top) r h i e = e
  joins_there w (surface.listed [] surface.top) r h i e = absurd (h.4 refl)
  joins_there w (surface.part p a s (surface.round o b c k)) r h i e = absurd (cc)
  joins_there w (surface.counted p n m a s (surface.round o b c k)) r h i e = absurd (cc)
  joins_there w (surface.turned a s (surface.round o b c k)) r h i e = absurd (cc)
  joins_there w (surface.listed a (surface.round o b c k)) r h i e = absurd (cc)
  joins_there w (surface.whole p (surface.round o b c k)) r h i e = absurd (cc)
  joins_there w q r h i e = absurd (cc)

  abbrev Ends : State → Type 0
  Ends s = (r : List Told) × (t : State) × (h : Hop) × (steps (step may) s r ≡ Ok t) × (ended t ≡ Some h)

  ends_first : (v : List LexKind) (q : surface.State) → steps (surface.step may) start v ≡ Ok q → Ends (first q)
  ends_first v q e =
      let r = surface_closing.ends may v q (surface_sound.holds may v q e) in
      (as_told r.0, first r.1, _, first_goes may r.0 q r.1 r.3, ap alone_if r.4)

  ends_between : (h : Hop) (v : List Told) (q : path.State) → steps path.step path.begun v ≡ Ok q → Ends (between h q)
  ends_between h v q e =
      let r = path_closing.ends v q (path_sound.holds v q e) in
      let last = surface.part pattern.First [] [] surface.top in
      let go = onto_surface may h r.1 r.2 (Caret ∷ []) last pattern.First r.4 refl refl in (
        r.0 ++ as_told (Caret ∷ []),
        behind h r.2 last,
        _,
        steps_append (step may) (between h q) r.0 (as_told (Caret ∷ [])) ∙ ap (λ z. z >>= λ u. steps (step may) u (as_told (Caret ∷ []))) (between_goes may h r.0 q r.1 r.3) ∙ go,
        refl,
      )

  ends : (w : List Told) (s : State) → Holds may w s → Ends s
  ends w (first q) (v, i, e) = ends_first v q e
  ends w (between h q) (n, v, i, f, e) = ends_between h v q e
  ends w (behind h p q) (n, v, u, i, f, a, e, s) =
      let r = surface_closing.ends may u q (surface_sound.holds may u q e) in
      let single = r.5 ∙ s in
      let all : steps (surface.step may) start (u ++ r.0) ≡ Ok r.1 = steps_append (surface.step may) start u r.0 ∙ ap (λ z. z >>= λ t. steps (surface.step may) t r.0) e ∙ r.3 in
      let joins = joins_there (u ++ r.0) r.1 r.2 (surface_sound.holds may (u ++ r.0) r.1 all) single r.4 in
      (as_told r.0, behind h p r.1, _, behind_goes may h p r.0 q r.1 single r.3, ap (joined_if h p) joins)

  -- a front that the machine takes begins a word
  pub begins_word : (f : List Told) (s : State) → steps (step may) (first start) f ≡ Ok s → Begins (Hops may) f
  begins_word f s h =
      let e = ends f s (holds may f s h) in
      let t : steps (step may) (first start) (f ++ e.0) ≡ Ok e.1 = steps_append (step may) (first start) f e.0 ∙ ap (λ q. q >>= λ u. steps (step may) u e.0) h ∙ e.3 in
      (e.0, e.2, word_of may (f ++ e.0) e.1 e.2 (holds may (f ++ e.0) e.1 t) e.4)
