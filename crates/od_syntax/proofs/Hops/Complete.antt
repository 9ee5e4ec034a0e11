-- A word of the grammar takes the machine to its end.
use Rattle.std.proofs.Common.{◌≡◌, ℕ, Bool, false, if◌then◌else◌, List, [], ◌∷◌, ◌++◌, Option, Some, Result, Ok, Err, refl, sym, ◌∙◌, ap, subst, append_assoc, append-nil}
use Rattle.od_pattern.specs.declared.pattern.Surface.{Surface}
use Rattle.od_pattern.specs.declared.path.Path.{Path}
use Rattle.od_pattern.specs.declared.rule.HopPart.{HopPart}
use Rattle.od_pattern.specs.declared.rule.Hop.{Hop}
use Rattle.od_language.specs.declared.pattern_fault.PatternKind.{PatternKind}
use Rattle.od_language.specs.declared.pattern_fault.PatternKind.TheVariants as kind
use Rattle.od_language.specs.declared.lexeme.LexKind.{LexKind}
use Rattle.od_language.specs.declared.lexeme.LexKind.TheVariants.{Word, Quoted, Regex, NameOpen, AheadIs, AheadNot, BehindIs, BehindNot, SquareOpen, RoundOpen, RoundClose, At, Caret, Dollar, Along, Against, AnyAlong, AnyAgainst}
use Rattle.od_language.specs.Machine.{◌>>=◌, steps}
use Rattle.od_language.proofs.Machine.{steps_append}
use Rattle.od_syntax.specs.HopMachine.{State, first, between, behind, alone, joined, bars_in, bars, to_steps, from_surface, to_surface, from_steps, wide_step, one_step, step, ended, alone_if, joined_if}
use Rattle.od_syntax.specs.Hops.{StepAtom, step as one, group, StepPart, once, repeated, StepParts, last as last_step, more as more_steps, Steps, all as all_steps, Concat, all, HopParts, last, more, Hops}
use Rattle.od_syntax.specs.Hops as hops
use Rattle.od_syntax.specs.StepsMachine as path
use Rattle.od_syntax.specs.SurfaceMachine as surface
use Rattle.od_syntax.specs.Surfaces.{SurfaceParts}
use Rattle.od_syntax.specs.Told.{Told, lexeme, steps_open, as_told}
use Rattle.od_syntax.proofs.Surfaces.Single.{joins_single}
use Rattle.od_syntax.proofs.Hops.Takes.{first_goes, behind_goes, between_goes}
use Rattle.od_syntax.proofs.Steps.Complete.{steps_go}
use Rattle.od_syntax.proofs.Surfaces.Complete.{word_goes, choice_goes}

-- a front of l, whatever follows it
abbrev pub Cut : (List Told → List Told → Type 0) → List Told → List Told → Type 0
Cut Reads l r = (w : List Told) × (l ≡ w ++ r) × ((m : List Told) → Reads (w ++ m) m)

cut_atom : (l : List Told) (p : Path) (r : List Told) → StepAtom l p r → Cut (λ a b. StepAtom a p b) l r
cut_atom _ _ _ (one word p r u) = (as_told word, refl, λ m. one word p m u)
cut_atom _ _ _ (group word p r u) = (
  steps_open ∷ (word ++ lexeme RoundClose ∷ []),
  ap (λ z. steps_open ∷ z) (sym (append_assoc word (lexeme RoundClose ∷ []) r)),
  λ m. subst (λ (z : List Told). StepAtom (steps_open ∷ z) p m) (sym (append_assoc word (lexeme RoundClose ∷ []) m)) (group word p m u),
)

cut_part : (l : List Told) (p : Path) (r : List Told) → StepPart l p r → Cut (λ a b. StepPart a p b) l r
cut_part _ _ _ (once l p r u) = let c = cut_atom l p r u in (c.0, c.1, λ m. once (c.0 ++ m) p m (c.2 m))
cut_part _ _ _ (repeated l p x n k r u i) =
    let c = cut_atom l p (lexeme x ∷ r) u in (
      c.0 ++ lexeme x ∷ [],
      c.1 ∙ sym (append_assoc c.0 (lexeme x ∷ []) r),
      λ m. repeated ((c.0 ++ lexeme x ∷ []) ++ m) p x n k m
          (subst (λ (z : List Told). StepAtom z p (lexeme x ∷ m)) (sym (append_assoc c.0 (lexeme x ∷ []) m)) (c.2 (lexeme x ∷ m))) i,
    )

cut_parts : (l : List Told) (ps : List Path) (r : List Told) → StepParts l ps r → Cut (λ a b. StepParts a ps b) l r
cut_parts _ _ _ (last_step l p r u) = let c = cut_part l p r u in (c.0, c.1, λ m. last_step (c.0 ++ m) p m (c.2 m))
cut_parts _ _ _ (more_steps l p m ps r u v) =
    let c = cut_part l p m u in
    let d = cut_parts m ps r v in (
      c.0 ++ d.0,
      c.1 ∙ ap (λ z. c.0 ++ z) d.1 ∙ sym (append_assoc c.0 d.0 r),
      λ n. subst (λ (z : List Told). StepParts z (p ∷ ps) n) (sym (append_assoc c.0 d.0 n)) (more_steps (c.0 ++ (d.0 ++ n)) p (d.0 ++ n) ps n (c.2 (d.0 ++ n)) (d.2 n)),
    )

pub cut_steps : (l : List Told) (p : Path) (r : List Told) → Steps l p r → Cut (λ a b. Steps a p b) l r
cut_steps _ _ _ (all_steps l ps r u) = let c = cut_parts l ps r u in (c.0, c.1, λ m. all_steps (c.0 ++ m) ps m (c.2 m))

-- an atom of a surface goes on with no steps
at_atom : (x : LexKind) → ((p : Path) (s : List Path) → path.counted (lexeme x) p s ≡ Err kind.Expected) → ((s : List Path) → path.opened s (lexeme x) ≡ Err kind.Expected) →
    (q : path.State) (p : Path) → path.ended q ≡ Some p → path.step q (lexeme x) ≡ Err kind.Expected
at_atom x f g (path.part p s) r e = f p s
at_atom x f g (path.turned s) r e = g s
at_atom x f g q r e = absurd (cc)

pub no_steps : (x : LexKind) (t : surface.State) → surface.step_atom x [] [] surface.top ≡ Ok t → (q : path.State) (p : Path) → path.ended q ≡ Some p → path.step q (lexeme x) ≡ Err kind.Expected
no_steps SquareOpen t e = at_atom SquareOpen (λ p s. refl) (λ s. refl)
no_steps (Word w) t e = at_atom (Word w) (λ p s. refl) (λ s. refl)
no_steps (Quoted w) t e = at_atom (Quoted w) (λ p s. refl) (λ s. refl)
no_steps (Regex w) t e = at_atom (Regex w) (λ p s. refl) (λ s. refl)
no_steps At t e = at_atom At (λ p s. refl) (λ s. refl)
no_steps RoundOpen t e = at_atom RoundOpen (λ p s. refl) (λ s. refl)
no_steps (NameOpen w) t e = at_atom (NameOpen w) (λ p s. refl) (λ s. refl)
no_steps AheadIs t e = at_atom AheadIs (λ p s. refl) (λ s. refl)
no_steps AheadNot t e = at_atom AheadNot (λ p s. refl) (λ s. refl)
no_steps BehindIs t e = at_atom BehindIs (λ p s. refl) (λ s. refl)
no_steps BehindNot t e = at_atom BehindNot (λ p s. refl) (λ s. refl)
no_steps Caret t e = at_atom Caret (λ p s. refl) (λ s. refl)
no_steps Dollar t e = at_atom Dollar (λ p s. refl) (λ s. refl)
no_steps x t e = absurd (cc)

pub never_bars : (x : LexKind) → ((k : surface.Around) → bars_in x k ≡ false) → (q : surface.State) → bars q x ≡ false
never_bars x h (surface.part p a s k) = h k
never_bars x h (surface.counted p n m a s k) = h k
never_bars x h (surface.turned a s k) = h k
never_bars x h q = refl

-- what begins steps
abbrev Opens : Told → Type 0
Opens x = (t : path.State) × (path.opened [] x ≡ Ok t)

module _ (may : Surface → Option ℕ → Bool) where
  -- where steps may begin, an arrow is not the surface's
  at_arrow : (x : LexKind) → ((p : Surface) (a s : List Surface) (k : surface.Around) →
      surface.step_part may x p a s k ≡ surface.step_whole x (surface.any_of (a ++ surface.in_order (s ++ p ∷ []) ∷ [])) k) →
      ((p : Surface) (n : ℕ) (m : Option ℕ) (a s : List Surface) (k : surface.Around) →
      surface.step_counted x p n m a s k ≡ surface.step_whole x (surface.any_of (a ++ surface.in_order (s ++ surface.repeat p n m false ∷ []) ∷ [])) k) →
      ((a s : List Surface) (k : surface.Around) → surface.step_turned x a s k ≡ surface.step_whole x (surface.any_of (a ++ surface.in_order s ∷ [])) k) →
      (q : surface.State) (r : Surface) → surface.joins q ≡ Some r → surface.step may q x ≡ Err kind.Expected
  at_arrow x f g h (surface.part p [] s surface.top) r e = f p [] s surface.top
  at_arrow x f g h (surface.counted p n m [] s surface.top) r e = g p n m [] s surface.top
  at_arrow x f g h (surface.turned [] s surface.top) r e = h [] s surface.top
  at_arrow x f g h q r e = absurd (cc)

  pub no_wide : (x : Told) (t : path.State) → path.opened [] x ≡ Ok t → (q : surface.State) (r : Surface) → surface.joins q ≡ Some r → wide_step may q x ≡ Err kind.Expected
  no_wide steps_open t e q r j = refl
  no_wide (lexeme Along) t e q r j = at_arrow Along (λ p a s k. refl) (λ p n m a s k. refl) (λ a s k. refl) q r j
  no_wide (lexeme Against) t e q r j = at_arrow Against (λ p a s k. refl) (λ p n m a s k. refl) (λ a s k. refl) q r j
  no_wide (lexeme AnyAlong) t e q r j = at_arrow AnyAlong (λ p a s k. refl) (λ p n m a s k. refl) (λ a s k. refl) q r j
  no_wide (lexeme AnyAgainst) t e q r j = at_arrow AnyAgainst (λ p a s k. refl) (λ p n m a s k. refl) (λ a s k. refl) q r j
  no_wide x t e q r j = absurd (cc)

  not_one : (x : LexKind) (q : surface.State) → bars q x ≡ false → wide_step may q (lexeme x) ≡ Err kind.Expected → one_step may q (lexeme x) ≡ Err kind.Expected
  not_one x q b e = ap (λ z. if z then Err kind.Expected else surface.step may q x) b ∙ e

  pub no_one : (x : Told) (t : path.State) → path.opened [] x ≡ Ok t → (q : surface.State) (r : Surface) → surface.joins q ≡ Some r → one_step may q x ≡ Err kind.Expected
  no_one steps_open t e q r j = refl
  no_one (lexeme Along) t e q r j = not_one Along q (never_bars Along (λ k. refl) q) (no_wide (lexeme Along) t e q r j)
  no_one (lexeme Against) t e q r j = not_one Against q (never_bars Against (λ k. refl) q) (no_wide (lexeme Against) t e q r j)
  no_one (lexeme AnyAlong) t e q r j = not_one AnyAlong q (never_bars AnyAlong (λ k. refl) q) (no_wide (lexeme AnyAlong) t e q r j)
  no_one (lexeme AnyAgainst) t e q r j = not_one AnyAgainst q (never_bars AnyAgainst (λ k. refl) q) (no_wide (lexeme AnyAgainst) t e q r j)
  no_one x t e q r j = absurd (cc)

  -- steps may begin in this state, behind this hop
  abbrev pub Enters : State → Hop → Type 0
  Enters s h = (x : Told) (t : path.State) → path.opened [] x ≡ Ok t → step may s x ≡ Ok (between h t)

  pub enters_first : (q : surface.State) (r : Surface) → surface.joins q ≡ Some r → Enters (first q) (alone r)
  enters_first q r j x t e =
      ap (λ z. from_surface first z x (alone_if (surface.joins q))) (no_wide x t e q r j) ∙ ap (λ z. to_steps (path.opened [] x) (alone_if z) kind.Expected) j
      ∙ ap (λ z. to_steps z (Some (alone r)) kind.Expected) e

  pub enters_behind : (h : Hop) (p : Path) (q : surface.State) (r : Surface) → surface.joins q ≡ Some r → Enters (behind h p q) (joined h p r)
  enters_behind h p q r j x t e =
      ap (λ z. from_surface (behind h p) z x (joined_if h p (surface.joins q))) (no_one x t e q r j)
      ∙ ap (λ z. to_steps (path.opened [] x) (joined_if h p z) kind.Expected) j ∙ ap (λ z. to_steps z (Some (joined h p r)) kind.Expected) e

  -- into steps
  into_by : (s : State) (h : Hop) (x : Told) (w : List Told) (q : path.State) (z : Result path.State PatternKind) → Enters s h → path.opened [] x ≡ z →
      (z >>= λ u. steps path.step u w) ≡ Ok q → (step may s x >>= λ u. steps (step may) u w) ≡ Ok (between h q)
  into_by s h x w q (Ok t) n i e = ap (λ z. z >>= λ u. steps (step may) u w) (n x t i) ∙ between_goes may h w t q e
  into_by s h x w q (Err k) n i e = absurd (cc)

  abbrev taken : path.State → Result path.State PatternKind
  taken q = Ok q

  same_steps : (q r : path.State) → taken q ≡ taken r → q ≡ r
  same_steps q r e = cc

  pub into_steps : (s : State) (h : Hop) (w : List Told) (q : path.State) (p : Path) → Enters s h → steps path.step path.begun w ≡ Ok q → path.ended q ≡ Some p →
      steps (step may) s w ≡ Ok (between h q)
  into_steps s h [] q p n e i = let f : path.ended path.begun ≡ Some p = ap path.ended (same_steps path.begun q e) ∙ i in absurd (cc)
  into_steps s h (x ∷ w) q p n e i = into_by s h x w q (path.opened [] x) n refl e

  -- into a surface behind steps
  abbrev start : surface.State
  start = surface.atom [] [] surface.top

  onto_by : (h : Hop) (q : path.State) (p : Path) (x : LexKind) (w : List LexKind) (t : surface.State) (r : Surface) (z : Result surface.State PatternKind) → path.ended q ≡ Some p →
      surface.step_atom x [] [] surface.top ≡ z → surface.joins t ≡ Some r → (z >>= λ u. steps (surface.step may) u w) ≡ Ok t →
      (step may (between h q) (lexeme x) >>= λ u. steps (step may) u (as_told w)) ≡ Ok (behind h p t)
  onto_by h q p x w t r (Ok u) i e j f =
      ap (λ z. from_steps h z (lexeme x) (path.ended q) >>= λ v. steps (step may) v (as_told w)) (no_steps x u e q p i)
      ∙ ap (λ z. from_steps h (Err kind.Expected) (lexeme x) z >>= λ v. steps (step may) v (as_told w)) i
      ∙ ap (λ z. to_surface h p z kind.Expected >>= λ v. steps (step may) v (as_told w)) e
      ∙ behind_goes may h p w u t (joins_single t r j) f
  onto_by h q p x w t r (Err k) i e j f = absurd (cc)

  abbrev taken_at : surface.State → Result surface.State PatternKind
  taken_at q = Ok q

  same_state : (q r : surface.State) → taken_at q ≡ taken_at r → q ≡ r
  same_state q r e = cc

  pub onto_surface : (h : Hop) (q : path.State) (p : Path) (w : List LexKind) (t : surface.State) (r : Surface) → path.ended q ≡ Some p →
      steps (surface.step may) start w ≡ Ok t → surface.joins t ≡ Some r → steps (step may) (between h q) (as_told w) ≡ Ok (behind h p t)
  onto_surface h q p [] t r i e j = let f : surface.joins start ≡ Some r = ap surface.joins (same_state start t e) ∙ j in absurd (cc)
  onto_surface h q p (x ∷ w) t r i e j = onto_by h q p x w t r (surface.step_atom x [] [] surface.top) i refl j e

  -- steps and a surface
  pub record Passed (s : State) (h : Hop) (l : List Told) (p : Path) (r : Surface) (n : List Told) : Type 0 where
    pub last : surface.State
    pub joins : surface.joins last ≡ Some r
    pub goes : steps (step may) s l ≡ steps (step may) (behind h p last) n

  passed : (s : State) (h : Hop) (l : List Told) (p : Path) (w : List LexKind) (ps : List Surface) (n : List Told) → Enters s h → Steps l p (as_told w ++ n) → SurfaceParts may w ps [] →
      Passed s h l p (surface.in_order ps) n
  passed s h l p w ps n en u v =
      let c = cut_steps l p (as_told w ++ n) u in
      let q = steps_go c.0 p (subst (λ (z : List Told). Steps z p []) (append-nil c.0) (c.2 [])) in
      let t = choice_goes may w ps v in
      let in_steps = into_steps s h c.0 q.0 p en q.1 q.2 in
      let in_surface = onto_surface h q.0 p w t.0 (surface.in_order ps) q.2 t.1 t.2 in
      record {
        last = t.0;
        joins = t.2;
        goes = ap (steps (step may) s) c.1 ∙ steps_append (step may) s c.0 (as_told w ++ n) ∙ ap (λ z. z >>= λ x. steps (step may) x (as_told w ++ n)) in_steps
            ∙ steps_append (step may) (between h q.0) (as_told w) n ∙ ap (λ z. z >>= λ x. steps (step may) x n) in_surface;
      }

  -- a hop and more parts
  abbrev with_parts : Hop → List HopPart → Hop
  with_parts h parts = record { first = h.first; rest = h.rest ++ parts }

  abbrev Ends : State → List Told → Hop → Type 0
  Ends s l h = (t : State) × (steps (step may) s l ≡ Ok t) × (ended t ≡ Some h)

  parts_go : (l : List Told) (parts : List HopPart) → HopParts may l parts [] → (s : State) (h : Hop) → Enters s h → Ends s l (with_parts h parts)
  parts_go _ _ (last l p _ _ _ u (all w ps _ v)) s h en =
      let d = passed s h l p w ps [] en u v in
      (behind h p d.last, d.goes, ap (joined_if h p) d.joins)
  parts_go _ _ (more l p _ _ n parts _ u (all w ps _ v) k) s h en =
      let d = passed s h l p w ps n en u v in
      let r = surface.in_order ps in
      let e = parts_go n parts k (behind h p d.last) (joined h p r) (enters_behind h p d.last r d.joins) in
      (e.0, d.goes ∙ e.1, e.2 ∙ ap (λ z. Some (record { first = h.first; rest = z })) (append_assoc h.rest (record { path = p; surface = r } ∷ []) parts))

  pub hop_goes : (f : List Told) (h : Hop) → Hops may f h [] → Ends (first start) f h
  hop_goes _ _ (hops.alone w r _ u) =
      let t = word_goes may w r u in
      (first t.0, ap (steps (step may) (first start)) (append-nil (as_told w)) ∙ first_goes may w start t.0 t.1, ap alone_if t.2)
  hop_goes _ _ (hops.joined l _ m parts _ (all w ps _ v) k) =
      let t = choice_goes may w ps v in
      let r = surface.in_order ps in
      let e = parts_go m parts k (first t.0) (alone r) (enters_first t.0 r t.2) in
      (e.0, steps_append (step may) (first start) (as_told w) m ∙ ap (λ z. z >>= λ x. steps (step may) x m) (first_goes may w start t.0 t.1) ∙ e.1, e.2)
