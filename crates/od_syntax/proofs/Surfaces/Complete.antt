-- A word of the grammar takes the machine to its end.
use Rattle.std.proofs.Common.{◌≡◌, ℕ, Bool, true, false, if◌then◌else◌, List, [], ◌∷◌, ◌++◌, Option, Some, None, Result, Ok, Err, refl, ◌∙◌, ap, subst, append_assoc, append-nil}
use Rattle.od_pattern.specs.declared.pattern.Field.TheVariants.{Norm}
use Rattle.od_pattern.specs.declared.pattern.Value.{Value}
use Rattle.od_pattern.specs.declared.pattern.Constraint.{Constraint}
use Rattle.od_pattern.specs.declared.pattern.Turns.{Turns}
use Rattle.od_pattern.specs.declared.pattern.Surface.{Surface}
use Rattle.od_pattern.specs.declared.pattern.Surface.TheVariants as surface
use Rattle.od_language.specs.declared.pattern_fault.PatternKind.{PatternKind}
use Rattle.od_language.specs.declared.lexeme.LexKind.{LexKind}
use Rattle.od_language.specs.declared.lexeme.LexKind.TheVariants.{SquareOpen, RoundClose, Or, Question}
use Rattle.od_language.specs.Fields.{IsValue, word, quoted, regex}
use Rattle.od_language.specs.Grammar.{IsConstraint, empty, some}
use Rattle.od_syntax.specs.Parts.{IsQuantifier, maybe, any, range}
use Rattle.od_syntax.specs.Parts.{some as plus}
use Rattle.od_language.specs.Machine.{◌>>=◌, steps}
use Rattle.od_language.proofs.Machine.{steps_append}
use Rattle.od_language.specs.ConstraintMachine as constraint
use Rattle.od_language.proofs.Constraints.Complete.{constraint_goes}
use Rattle.od_language.specs.ConstraintMachine.{NotDone}
use Rattle.od_language.proofs.Constraints.Words.{constraint_cut}
use Rattle.od_syntax.proofs.Paths.Complete.{same_taken, after_done}
use Rattle.od_syntax.specs.Surfaces.{IsLook, ahead, ahead_not, behind, behind_not, Single, token, value, label, look, first, last as last_token, IsTurns, greedy, lazy, SurfaceAtom, single, group, capture, SurfacePart, once, repeated, SurfaceParts, last, more, SurfaceChoices, final, next, Surfaces, choice}
use Rattle.od_syntax.specs.SurfaceMachine.{Looking, Around, top, round, State, atom, name, inside, looked, part, counted, turned, listed, whole, in_order, any_of, norm, repeat, filled, carried, step_atom, step_turned, step_listed, step_whole, step, named_if, counted_if, ended, joins, begins_atom, NoTurnsAt, NoAtomAt, NoChoiceAt, IsAtomAt}
use Rattle.od_syntax.specs.SurfaceMachine as machine

-- what the machine ends with
abbrev pub Out : Type 0
Out = Result (Option Surface) PatternKind

-- a lexeme in front, where there is one
abbrev pub First : (LexKind → Type 0) → List LexKind → Type 0
First P [] = Unit {0}
First P (x ∷ l) = P x

abbrev pub Begun : (LexKind → Type 0) → List LexKind → Type 0
Begun P [] = ⊥
Begun P (x ∷ l) = P x

-- no lexeme that makes a quantifier lazy
abbrev pub NoLazyAt : LexKind → Type 0
NoLazyAt x = (p : Surface) (least : ℕ) (most : Option ℕ) (a s : List Surface) (k : Around) → machine.step_counted x p least most a s k ≡ step_turned x a (s ++ repeat p least most false ∷ []) k

abbrev pub Behind : LexKind → Type 0
Behind x = NoTurnsAt x × NoLazyAt x

module _ (may : Surface → Option ℕ → Bool) where
  -- inside a constraint
  inside_by : (f : List LexKind) (c : Constraint) (w : Looking) (a s : List Surface) (k : Around) (q : Result constraint.State PatternKind) →
      ((t : constraint.State) → NotDone t → steps constraint.step t f ≡ Ok (constraint.done c) → steps (step may) (inside w t a s k) f ≡ Ok (filled w c a s k)) →
      (q >>= λ t. steps constraint.step t f) ≡ Ok (constraint.done c) → (carried q w a s k >>= λ t. steps (step may) t f) ≡ Ok (filled w c a s k)
  inside_by f c w a s k (Ok (constraint.done b)) g e =
      let d = after_done b c f e in
      ap (steps (step may) (filled w b a s k)) d.0 ∙ ap (λ z. Ok (filled w z a s k)) d.1
  inside_by f c w a s k (Ok t) g e = g t tt e
  inside_by f c w a s k (Err j) g e = absurd (cc)

  pub inside_steps : (f : List LexKind) (t : constraint.State) (c : Constraint) (w : Looking) (a s : List Surface) (k : Around) → NotDone t → steps constraint.step t f ≡ Ok (constraint.done c) →
      steps (step may) (inside w t a s k) f ≡ Ok (filled w c a s k)
  inside_steps [] t c w a s k n e = absurd (subst NotDone (same_taken t (constraint.done c) e) n)
  inside_steps (x ∷ f) t c w a s k n e = inside_by f c w a s k (constraint.step t x) (λ u. inside_steps f u c w a s k) e

  from_square : (x : LexKind) (f : List LexKind) (c : Constraint) (a s : List Surface) (k : Around) → (constraint.step_start x >>= λ t. steps constraint.step t f) ≡ Ok (constraint.done c) →
      step_atom x a s k ≡ carried (constraint.step_start x) None a s k
  from_square SquareOpen f c a s k e = refl
  from_square x f c a s k e = absurd (cc)

  from_start : (f : List LexKind) (c : Constraint) (a s : List Surface) (k : Around) → steps constraint.step constraint.start f ≡ Ok (constraint.done c) → steps (step may) (atom a s k) f ≡ Ok (part (surface.Token c) a s k)
  from_start [] c a s k e = absurd (subst NotDone (same_taken constraint.start (constraint.done c) e) tt)
  from_start (x ∷ f) c a s k e = ap (λ q. q >>= λ t. steps (step may) t f) (from_square x f c a s k e) ∙ inside_steps (x ∷ f) constraint.start c None a s k tt e

  look_square : (x : LexKind) (w : Bool × Bool) (a s : List Surface) (k : Around) → machine.step_look x w a s k ≡ carried (constraint.step_start x) (Some w) a s k
  look_square SquareOpen w a s k = refl
  look_square x w a s k = refl

  from_look : (f : List LexKind) (c : Constraint) (w : Bool × Bool) (a s : List Surface) (k : Around) → steps constraint.step constraint.start f ≡ Ok (constraint.done c) → steps (step may) (machine.look w a s k) f ≡ Ok (looked w c a s k)
  from_look [] c w a s k e = absurd (subst NotDone (same_taken constraint.start (constraint.done c) e) tt)
  from_look (x ∷ f) c w a s k e = ap (λ q. q >>= λ t. steps (step may) t f) (look_square x w a s k) ∙ inside_steps (x ∷ f) constraint.start c (Some w) a s k tt e

  module _ (view : State → Option Surface) (view_part : (p : Surface) (a s : List Surface) (k : Around) → view (part p a s k) ≡ view (turned a (s ++ p ∷ []) k))
      (view_counted : (p : Surface) (least : ℕ) (most : Option ℕ) (a s : List Surface) (k : Around) →
      view (counted p least most a s k) ≡ view (turned a (s ++ repeat p least most false ∷ []) k)) where
    abbrev seen : Option Surface → Out
    seen o = Ok o

    abbrev viewed : State → Out
    viewed s = seen (view s)

    -- no atom goes on; where nothing comes, the view is that of a choice
    abbrev NoAtomBefore : Around → List LexKind → Type 0
    NoAtomBefore k [] = (a s : List Surface) → view (turned a s k) ≡ view (listed (a ++ in_order s ∷ []) k)
    NoAtomBefore k (x ∷ l) = NoAtomAt x

    -- no choice goes on; where nothing comes, the view is that of a whole surface
    abbrev NoChoiceBefore : Around → List LexKind → Type 0
    NoChoiceBefore k [] = (a : List Surface) → view (listed a k) ≡ view (whole (any_of a) k)
    NoChoiceBefore k (x ∷ l) = NoChoiceAt x

    abbrev pub out : State → List LexKind → Out
    out s l = steps (step may) s l >>= viewed

    -- the same step has the same outcome
    by_step : (s t : State) (x : LexKind) (l : List LexKind) → step may s x ≡ step may t x → out s (x ∷ l) ≡ out t (x ∷ l)
    by_step s t x l e = ap (λ q. (q >>= λ u. steps (step may) u l) >>= viewed) e

    no_turns : (p : Surface) (a s : List Surface) (k : Around) (l : List LexKind) → First Behind l → out (part p a s k) l ≡ out (turned a (s ++ p ∷ []) k) l
    no_turns p a s k [] h = ap seen (view_part p a s k)
    no_turns p a s k (x ∷ l) h = by_step (part p a s k) (turned a (s ++ p ∷ []) k) x l (h.0 may p a s k)

    no_lazy : (p : Surface) (least : ℕ) (most : Option ℕ) (a s : List Surface) (k : Around) (l : List LexKind) → First Behind l →
        out (counted p least most a s k) l ≡ out (turned a (s ++ repeat p least most false ∷ []) k) l
    no_lazy p least most a s k [] h = ap seen (view_counted p least most a s k)
    no_lazy p least most a s k (x ∷ l) h = by_step (counted p least most a s k) (turned a (s ++ repeat p least most false ∷ []) k) x l (h.1 p least most a s k)

    no_atom : (a s : List Surface) (k : Around) (l : List LexKind) → NoAtomBefore k l → out (turned a s k) l ≡ out (listed (a ++ in_order s ∷ []) k) l
    no_atom a s k [] h = ap seen (h a s)
    no_atom a s k (x ∷ l) h = by_step (turned a s k) (listed (a ++ in_order s ∷ []) k) x l (ap (λ b. if b then step_atom x a s k else step_listed x (a ++ in_order s ∷ []) k) h)

    no_choice : (a : List Surface) (k : Around) (l : List LexKind) → NoChoiceBefore k l → out (listed a k) l ≡ out (whole (any_of a) k) l
    no_choice a k [] h = ap seen (h a)
    no_choice a k (x ∷ l) h = by_step (listed a k) (whole (any_of a) k) x l (h a k)

    an_atom : (a s : List Surface) (k : Around) (l : List LexKind) → Begun IsAtomAt l → out (turned a s k) l ≡ out (atom a s k) l
    an_atom a s k [] h = absurd h
    an_atom a s k (x ∷ l) h = by_step (turned a s k) (atom a s k) x l (ap (λ b. if b then step_atom x a s k else step_listed x (a ++ in_order s ∷ []) k) h)

    -- over a front that is taken
    over : (s t : State) (f r : List LexKind) → steps (step may) s f ≡ Ok t → out s (f ++ r) ≡ out t r
    over s t f r e = ap (λ q. q >>= viewed) (steps_append (step may) s f r ∙ ap (λ q. q >>= λ u. steps (step may) u r) e)

    token_goes : (l : List LexKind) (c : Constraint) (r : List LexKind) → IsConstraint l c r → (a s : List Surface) (k : Around) → out (atom a s k) l ≡ out (part (surface.Token c) a s k) r
    token_goes l c r u a s k =
        let w = constraint_cut l c r u in
        let read : IsConstraint w.front c [] = subst (λ (z : List LexKind). IsConstraint z c []) (append-nil w.front) (w.any []) in
        ap (out (atom a s k)) w.parts ∙ over (atom a s k) (part (surface.Token c) a s k) w.front r (from_start w.front c a s k (constraint_goes w.front c [] read))

    look_goes : (w : Bool × Bool) (l : List LexKind) (c : Constraint) (r : List LexKind) → IsConstraint l c (RoundClose ∷ r) → (a s : List Surface) (k : Around) →
        out (machine.look w a s k) l ≡ out (part (surface.Look w.0 w.1 c) a s k) r
    look_goes w l c r u a s k =
        let v = constraint_cut l c (RoundClose ∷ r) u in
        let read : IsConstraint v.front c [] = subst (λ (z : List LexKind). IsConstraint z c []) (append-nil v.front) (v.any []) in
        ap (out (machine.look w a s k)) v.parts ∙ over (machine.look w a s k) (looked w c a s k) v.front (RoundClose ∷ r) (from_look v.front c w a s k (constraint_goes v.front c [] read))

    valued : (x : LexKind) (v : Value) → IsValue Norm x v → (a s : List Surface) (k : Around) → step_atom x a s k ≡ Ok (part (norm v) a s k)
    valued _ _ (word _ t) a s k = refl
    valued _ _ (quoted _ t) a s k = refl
    valued _ _ (regex _ t) a s k = refl

    opened : (x : LexKind) (b c : Bool) → IsLook x b c → (a s : List Surface) (k : Around) → step_atom x a s k ≡ Ok (machine.look (b, c) a s k)
    opened _ _ _ ahead a s k = refl
    opened _ _ _ ahead_not a s k = refl
    opened _ _ _ behind a s k = refl
    opened _ _ _ behind_not a s k = refl

    single_goes : (l : List LexKind) (p : Surface) (r : List LexKind) → Single l p r → (a s : List Surface) (k : Around) → out (atom a s k) l ≡ out (part p a s k) r
    single_goes _ _ _ (token l c r u) a s k = token_goes l c r u a s k
    single_goes _ _ _ (value x v r i) a s k = ap (λ q. (q >>= λ t. steps (step may) t r) >>= viewed) (valued x v i a s k)
    single_goes _ _ _ (label t r e) a s k = ap (λ b. (named_if b t a s k >>= λ u. steps (step may) u r) >>= viewed) e
    single_goes _ _ _ (look x b c l d r i u) a s k = ap (λ q. (q >>= λ t. steps (step may) t l) >>= viewed) (opened x b c i a s k) ∙ look_goes (b, c) l d r u a s k
    single_goes _ _ _ (first r) a s k = refl
    single_goes _ _ _ (last_token r) a s k = refl

    -- what an atom begins with
    abbrev Starts : List LexKind → Type 0
    Starts l = First Behind l × Begun IsAtomAt l

    value_first : (x : LexKind) (v : Value) → IsValue Norm x v → Behind x × IsAtomAt x
    value_first _ _ (word _ t) = ((λ m p a s k. refl, λ p n m a s k. refl), refl)
    value_first _ _ (quoted _ t) = ((λ m p a s k. refl, λ p n m a s k. refl), refl)
    value_first _ _ (regex _ t) = ((λ m p a s k. refl, λ p n m a s k. refl), refl)

    look_first : (x : LexKind) (b c : Bool) → IsLook x b c → Behind x × IsAtomAt x
    look_first _ _ _ ahead = ((λ m p a s k. refl, λ p n m a s k. refl), refl)
    look_first _ _ _ ahead_not = ((λ m p a s k. refl, λ p n m a s k. refl), refl)
    look_first _ _ _ behind = ((λ m p a s k. refl, λ p n m a s k. refl), refl)
    look_first _ _ _ behind_not = ((λ m p a s k. refl, λ p n m a s k. refl), refl)

    single_first : (l : List LexKind) (p : Surface) (r : List LexKind) → Single l p r → Starts l
    single_first _ _ _ (token _ _ _ (empty r)) = ((λ m p a s k. refl, λ p n m a s k. refl), refl)
    single_first _ _ _ (token _ _ _ (some l c r u)) = ((λ m p a s k. refl, λ p n m a s k. refl), refl)
    single_first _ _ _ (value x v r i) = value_first x v i
    single_first _ _ _ (label t r e) = ((λ m p a s k. refl, λ p n m a s k. refl), refl)
    single_first _ _ _ (look x b c l d r i u) = look_first x b c i
    single_first _ _ _ (first r) = ((λ m p a s k. refl, λ p n m a s k. refl), refl)
    single_first _ _ _ (last_token r) = ((λ m p a s k. refl, λ p n m a s k. refl), refl)

    atom_first : (l : List LexKind) (p : Surface) (r : List LexKind) → SurfaceAtom may l p r → Starts l
    atom_first _ _ _ (single l p r u) = single_first l p r u
    atom_first _ _ _ (group l p r u) = ((λ m p a s k. refl, λ p n m a s k. refl), refl)
    atom_first _ _ _ (capture t l p r u) = ((λ m p a s k. refl, λ p n m a s k. refl), refl)

    part_first : (l : List LexKind) (p : Surface) (r : List LexKind) → SurfacePart may l p r → Starts l
    part_first _ _ _ (once l p r u) = atom_first l p r u
    part_first _ _ _ (repeated l p m t r u i e) = atom_first l p m u

    parts_first : (l : List LexKind) (ps : List Surface) (r : List LexKind) → SurfaceParts may l ps r → Starts l
    parts_first _ _ _ (last l p r u) = part_first l p r u
    parts_first _ _ _ (more l p m ps r u v) = part_first l p m u

    quantifier : (p : Surface) (x : LexKind) (least : ℕ) (most : Option ℕ) → IsQuantifier x least most → (a s : List Surface) (k : Around) → machine.step_part may x p a s k ≡ counted_if (may p most) p least most a s k
    quantifier p _ _ _ maybe a s k = refl
    quantifier p _ _ _ any a s k = refl
    quantifier p _ _ _ plus a s k = refl
    quantifier p _ _ _ (range least most) a s k = refl

    turns_go : (m : List LexKind) (t : Turns) (r : List LexKind) → IsTurns m t r → (p : Surface) (a s : List Surface) (k : Around) → may p t.most ≡ true → First Behind r →
        out (part p a s k) m ≡ out (turned a (s ++ surface.Repeat p t ∷ []) k) r
    turns_go _ _ _ (greedy x least most r i) p a s k e h =
        ap (λ q. (q >>= λ t. steps (step may) t r) >>= viewed) (quantifier p x least most i a s k ∙ ap (λ b. counted_if b p least most a s k) e) ∙ no_lazy p least most a s k r h
    turns_go _ _ _ (lazy x least most r i) p a s k e h =
        ap (λ q. (q >>= λ t. steps (step may) t (Question ∷ r)) >>= viewed) (quantifier p x least most i a s k ∙ ap (λ b. counted_if b p least most a s k) e)

    mutual
      atom_goes : (l : List LexKind) (p : Surface) (r : List LexKind) → SurfaceAtom may l p r → (a s : List Surface) (k : Around) → out (atom a s k) l ≡ out (part p a s k) r
      atom_goes _ _ _ (single l p r u) a s k = single_goes l p r u a s k
      atom_goes _ _ _ (group l p r u) a s k = surfaces_go l p (RoundClose ∷ r) u (round None a s k) (λ m p a s k. refl, λ p n m a s k. refl) refl (λ a k. refl)
      atom_goes _ _ _ (capture t l p r u) a s k = surfaces_go l p (RoundClose ∷ r) u (round (Some t) a s k) (λ m p a s k. refl, λ p n m a s k. refl) refl (λ a k. refl)

      part_goes : (l : List LexKind) (p : Surface) (r : List LexKind) → SurfacePart may l p r → (a s : List Surface) (k : Around) → First Behind r → out (atom a s k) l ≡ out (turned a (s ++ p ∷ []) k) r
      part_goes _ _ _ (once l p r u) a s k h = atom_goes l p r u a s k ∙ no_turns p a s k r h
      part_goes _ _ _ (repeated l p m t r u i e) a s k h = atom_goes l p m u a s k ∙ turns_go m t r i p a s k e h

      pub parts_turn : (l : List LexKind) (ps : List Surface) (r : List LexKind) → SurfaceParts may l ps r → (a s : List Surface) (k : Around) → First Behind r →
          out (atom a s k) l ≡ out (turned a (s ++ ps) k) r
      parts_turn _ _ _ (last l p r u) a s k h = part_goes l p r u a s k h
      parts_turn _ _ _ (more l p m ps r u v) a s k h =
          let f = parts_first m ps r v in
          part_goes l p m u a s k f.0 ∙ an_atom a (s ++ p ∷ []) k m f.1 ∙ parts_turn m ps r v a (s ++ p ∷ []) k h
          ∙ ap (λ z. out (turned a z k) r) (append_assoc s (p ∷ []) ps)

      choices_go : (l : List LexKind) (qs : List Surface) (r : List LexKind) → SurfaceChoices may l qs r → (a : List Surface) (k : Around) → First Behind r → NoAtomBefore k r → NoChoiceBefore k r →
          out (atom a [] k) l ≡ out (whole (any_of (a ++ qs)) k) r
      choices_go _ _ _ (final l ps r u) a k h n o = parts_turn l ps r u a [] k h ∙ no_atom a ps k r n ∙ no_choice (a ++ in_order ps ∷ []) k r o
      choices_go _ _ _ (next l ps m qs r u v) a k h n o =
          parts_turn l ps (Or ∷ m) u a [] k (λ m p a s k. refl, λ p n m a s k. refl) ∙ no_atom a ps k (Or ∷ m) refl ∙ choices_go m qs r v (a ++ in_order ps ∷ []) k h n o
          ∙ ap (λ z. out (whole (any_of z) k) r) (append_assoc a (in_order ps ∷ []) qs)

      pub surfaces_go : (l : List LexKind) (p : Surface) (r : List LexKind) → Surfaces may l p r → (k : Around) → First Behind r → NoAtomBefore k r → NoChoiceBefore k r → out (atom [] [] k) l ≡ out (whole p k) r
      surfaces_go _ _ _ (choice l ps r u) k h n o = choices_go l ps r u [] k h n o

  -- a whole word
  abbrev some_out : Option Surface → Out
  some_out o = Ok o

  word_by : (view : State → Option Surface) (f : List LexKind) (p : Surface) (q : Result State PatternKind) → steps (step may) (atom [] [] top) f ≡ q → (q >>= λ s. Ok (view s)) ≡ some_out (Some p) → (s : State) × (steps (step may) (atom [] [] top) f ≡ Ok s) × (view s ≡ Some p)
  word_by view f p (Ok s) e h = let h0 : view s ≡ Some p = cc in (s, e, h0)
  word_by view f p (Err j) e h = absurd (cc)

  pub word_goes : (f : List LexKind) (p : Surface) → Surfaces may f p [] → (s : State) × (steps (step may) (atom [] [] top) f ≡ Ok s) × (ended s ≡ Some p)
  word_goes f p u = word_by ended f p (steps (step may) (atom [] [] top) f) refl
      (surfaces_go ended (λ p a s k. refl) (λ p n m a s k. refl) f p [] u top tt (λ a s. refl) (λ a. refl))

  joins_part : (p : Surface) (a s : List Surface) (k : Around) → joins (part p a s k) ≡ joins (turned a (s ++ p ∷ []) k)
  joins_part p [] s top = refl
  joins_part p [] s (round o b t k) = refl
  joins_part p (x ∷ a) s k = refl

  joins_counted : (p : Surface) (n : ℕ) (m : Option ℕ) (a s : List Surface) (k : Around) → joins (counted p n m a s k) ≡ joins (turned a (s ++ repeat p n m false ∷ []) k)
  joins_counted p n m [] s top = refl
  joins_counted p n m [] s (round o b t k) = refl
  joins_counted p n m (x ∷ a) s k = refl

  -- a surface of one choice
  pub choice_goes : (f : List LexKind) (ps : List Surface) → SurfaceParts may f ps [] →
      (s : State) × (steps (step may) (atom [] [] top) f ≡ Ok s) × (joins s ≡ Some (in_order ps))
  choice_goes f ps u = word_by joins f (in_order ps) (steps (step may) (atom [] [] top) f) refl
      (parts_turn joins joins_part joins_counted f ps [] u [] [] top tt)
