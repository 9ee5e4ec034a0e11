-- Each state can still be brought to the end; what does not fit a state begins no word.
use Rattle.std.proofs.Common.{◌≡◌, ℕ, Bool, false, List, [], ◌∷◌, ◌++◌, Option, Some, None, Ok, refl, ◌∙◌, ap, codes}
use Rattle.od_pattern.specs.declared.pattern.Surface.{Surface}
use Rattle.od_pattern.specs.declared.pattern.Surface.TheVariants as surface
use Rattle.od_pattern.specs.declared.pattern.Constraint.{Constraint}
use Rattle.od_language.specs.declared.lexeme.LexKind.{LexKind}
use Rattle.od_language.specs.declared.lexeme.LexKind.TheVariants.{Word, Caret, RoundClose, SquareOpen, SquareClose}
use Rattle.od_language.specs.FirstFault.{Begins}
use Rattle.od_language.specs.Machine.{◌>>=◌, steps}
use Rattle.od_language.proofs.Machine.{steps_append}
use Rattle.od_language.specs.ConstraintMachine as constraint
use Rattle.od_language.proofs.Constraints.Closing as closing
use Rattle.od_language.specs.ConstraintMachine.{NotDone}
use Rattle.od_syntax.specs.Surfaces.{Surfaces}
use Rattle.od_syntax.specs.SurfaceMachine.{Looking, Around, top, round, State, atom, name, look, inside, looked, part, counted, turned, listed, whole, in_order, any_of, repeat, closed, filled, step, ended}
use Rattle.od_syntax.proofs.Surfaces.Complete.{inside_steps}
use Rattle.od_syntax.proofs.Surfaces.Sound.{Holds, holds, word_of}
use Rattle.od_syntax.proofs.Surfaces.Single.{is_single, by_filled}

module _ (may : Surface → Option ℕ → Bool) where
  -- the end, where no choice comes that has not come outside brackets
  abbrev pub Ends : State → Type 0
  Ends s = (r : List LexKind) × (t : State) × (p : Surface) × (steps (step may) s r ≡ Ok t) × (ended t ≡ Some p) × (is_single t ≡ is_single s)

  ends_part : (k : Around) (p : Surface) (a s : List Surface) → Ends (part p a s k)
  ends_part top p a s = ([], part p a s top, any_of (a ++ in_order (s ++ p ∷ []) ∷ []), refl, refl, refl)
  ends_part (round o b n k) p a s = let e = ends_part k (closed o (any_of (a ++ in_order (s ++ p ∷ []) ∷ []))) b n in (RoundClose ∷ e.0, e.1, e.2, e.3, e.4, e.5)

  ends_turned : (k : Around) (a s : List Surface) → Ends (turned a s k)
  ends_turned top a s = ([], turned a s top, any_of (a ++ in_order s ∷ []), refl, refl, refl)
  ends_turned (round o b n k) a s = let e = ends_part k (closed o (any_of (a ++ in_order s ∷ []))) b n in (RoundClose ∷ e.0, e.1, e.2, e.3, e.4, e.5)

  ends_counted : (k : Around) (p : Surface) (least : ℕ) (most : Option ℕ) (a s : List Surface) → Ends (counted p least most a s k)
  ends_counted top p least most a s = ([], counted p least most a s top, any_of (a ++ in_order (s ++ repeat p least most false ∷ []) ∷ []), refl, refl, refl)
  ends_counted (round o b n k) p least most a s =
      let e = ends_part k (closed o (any_of (a ++ in_order (s ++ repeat p least most false ∷ []) ∷ []))) b n in (RoundClose ∷ e.0, e.1, e.2, e.3, e.4, e.5)

  ends_listed : (k : Around) (a : List Surface) → Ends (listed a k)
  ends_listed top a = ([], listed a top, any_of a, refl, refl, refl)
  ends_listed (round o b n k) a = let e = ends_part k (closed o (any_of a)) b n in (RoundClose ∷ e.0, e.1, e.2, e.3, e.4, e.5)

  ends_whole : (k : Around) (p : Surface) → Ends (whole p k)
  ends_whole top p = ([], whole p top, p, refl, refl, refl)
  ends_whole (round o b n k) p = let e = ends_part k (closed o p) b n in (RoundClose ∷ e.0, e.1, e.2, e.3, e.4, e.5)

  ends_looked : (v : Bool × Bool) (c : Constraint) (a s : List Surface) (k : Around) → Ends (looked v c a s k)
  ends_looked v c a s k = let e = ends_part k (surface.Look v.0 v.1 c) a s in (RoundClose ∷ e.0, e.1, e.2, e.3, e.4, e.5)

  ends_filled : (v : Looking) (c : Constraint) (a s : List Surface) (k : Around) → Ends (filled v c a s k)
  ends_filled None c a s k = ends_part k (surface.Token c) a s
  ends_filled (Some v) c a s k = ends_looked v c a s k

  ends_inside : (v : Looking) (c : constraint.State) (a s : List Surface) (k : Around) → NotDone c → Ends (inside v c a s k)
  ends_inside v c a s k n =
      let d = closing.ends c in
      let e = ends_filled v d.1 a s k in
      (d.0 ++ e.0, e.1, e.2, steps_append (step may) (inside v c a s k) d.0 e.0 ∙ ap (λ q. q >>= λ t. steps (step may) t e.0) (inside_steps may d.0 c d.1 v a s k n d.2) ∙ e.3, e.4, e.5 ∙ by_filled v d.1 a s k)

  ends_look : (v : Bool × Bool) (a s : List Surface) (k : Around) → Ends (look v a s k)
  ends_look v a s k = let e = ends_looked v _ a s k in (SquareOpen ∷ SquareClose ∷ e.0, e.1, e.2, e.3, e.4, e.5)

  pub ends : (w : List LexKind) (s : State) → Holds may w s [] → Ends s
  ends w (atom a s k) h = let e = ends_part k surface.First a s in (Caret ∷ e.0, e.1, e.2, e.3, e.4, e.5)
  ends w (name a s k) h = let e = ends_part k (surface.Label (codes "a")) a s in (Word (codes "a") ∷ e.0, e.1, e.2, e.3, e.4, e.5)
  ends w (look v a s k) h = ends_look v a s k
  ends w (inside v c a s k) (n, b, h, d) = ends_inside v c a s k d
  ends w (looked v c a s k) h = ends_looked v c a s k
  ends w (part p a s k) h = ends_part k p a s
  ends w (counted p least most a s k) h = ends_counted k p least most a s
  ends w (turned a s k) h = ends_turned k a s
  ends w (listed a k) h = ends_listed k a
  ends w (whole p k) h = ends_whole k p

  -- a front that the machine takes begins a word
  pub begins_word : (f : List LexKind) (s : State) → steps (step may) (atom [] [] top) f ≡ Ok s → Begins (Surfaces may) f
  begins_word f s h =
      let e = ends f s (holds may f s h) in
      let t : steps (step may) (atom [] [] top) (f ++ e.0) ≡ Ok e.1 = steps_append (step may) (atom [] [] top) f e.0 ∙ ap (λ q. q >>= λ u. steps (step may) u e.0) h ∙ e.3 in
      (e.0, e.2, word_of may (f ++ e.0) e.1 e.2 (holds may (f ++ e.0) e.1 t) e.4)
