-- A word of the grammar takes the machine to its end.
use Rattle.std.proofs.Common.{◌≡◌, ℕ, Bool, true, false, List, [], ◌∷◌, ◌++◌, Option, Some, Result, Ok, Err, refl, ◌∙◌, ap, subst, append_assoc, append-nil}
use Rattle.od_pattern.specs.declared.pattern.Value.{Value}
use Rattle.od_pattern.specs.declared.pattern.Constraint.{Constraint}
use Rattle.od_pattern.specs.declared.path.Path.{Path}
use Rattle.od_pattern.specs.declared.path.Path.TheVariants as path
use Rattle.od_language.specs.declared.pattern_fault.PatternKind.{PatternKind}
use Rattle.od_language.specs.declared.lexeme.LexKind.{LexKind}
use Rattle.od_language.specs.declared.lexeme.LexKind.TheVariants.{SquareOpen, RoundClose, Or}
use Rattle.od_language.specs.Fields.{word, quoted, regex}
use Rattle.od_language.specs.Grammar.{IsConstraint, empty, some}
use Rattle.od_syntax.specs.Parts.{IsLabel, IsQuantifier, maybe, any, range}
use Rattle.od_syntax.specs.Parts.{some as plus}
use Rattle.od_syntax.specs.Paths.{Step, along, against, any_along, any_against, PathAtom, step as one_step, filter, group, PathPart, once, repeated, PathParts, last, more, PathChoices, final, next, Paths, choice}
use Rattle.od_language.specs.Machine.{◌>>=◌, steps}
use Rattle.od_language.proofs.Machine.{steps_append}
use Rattle.od_language.specs.ConstraintMachine as constraint
use Rattle.od_language.proofs.Constraints.Complete.{constraint_goes}
use Rattle.od_syntax.specs.PathMachine.{Around, top, round, State, atom, label, inside, part, turned, listed, whole, in_order, any_of, edge, step, carried, step_atom, ended, NoTurnsAt, NoAtomAt, NoChoiceAt, IsAtomAt}
use Rattle.od_language.specs.ConstraintMachine.{NotDone}
use Rattle.od_language.proofs.Constraints.Words.{constraint_cut}
use Rattle.od_syntax.proofs.Paths.Moves.{atom_step}

-- what the machine ends with
abbrev pub Out : Type 0
Out = Result (Option Path) PatternKind

abbrev pub ends_with : State → Out
ends_with s = Ok (ended s)

abbrev pub out : State → List LexKind → Out
out s l = steps step s l >>= ends_with

-- a lexeme in front, where there is one
abbrev pub First : (LexKind → Type 0) → List LexKind → Type 0
First P [] = Unit {0}
First P (x ∷ l) = P x

abbrev pub Begun : (LexKind → Type 0) → List LexKind → Type 0
Begun P [] = ⊥
Begun P (x ∷ l) = P x

-- the same step has the same outcome
by_step : (s t : State) (x : LexKind) (l : List LexKind) → step s x ≡ step t x → out s (x ∷ l) ≡ out t (x ∷ l)
by_step s t x l e = ap (λ q. (q >>= λ u. steps step u l) >>= ends_with) e

no_turns : (p : Path) (a s : List Path) (k : Around) (l : List LexKind) → First NoTurnsAt l → out (part p a s k) l ≡ out (turned a (s ++ p ∷ []) k) l
no_turns p a s k [] h = refl
no_turns p a s k (x ∷ l) h = by_step (part p a s k) (turned a (s ++ p ∷ []) k) x l (h p a s k)

no_atom : (a s : List Path) (k : Around) (l : List LexKind) → First NoAtomAt l → out (turned a s k) l ≡ out (listed (a ++ in_order s ∷ []) k) l
no_atom a s k [] h = refl
no_atom a s k (x ∷ l) h = by_step (turned a s k) (listed (a ++ in_order s ∷ []) k) x l (h a s k)

no_choice : (a : List Path) (k : Around) (l : List LexKind) → First NoChoiceAt l → out (listed a k) l ≡ out (whole (any_of a) k) l
no_choice a k [] h = refl
no_choice a k (x ∷ l) h = by_step (listed a k) (whole (any_of a) k) x l (h a k)

an_atom : (a s : List Path) (k : Around) (l : List LexKind) → Begun IsAtomAt l → out (turned a s k) l ≡ out (atom a s k) l
an_atom a s k [] h = absurd h
an_atom a s k (x ∷ l) h = by_step (turned a s k) (atom a s k) x l (atom_step x a s k h)

-- inside a constraint
abbrev taken : constraint.State → Result constraint.State PatternKind
taken t = Ok t

pub same_taken : (s t : constraint.State) → taken s ≡ taken t → s ≡ t
same_taken s t e = cc

constraint_of : constraint.State → Constraint → Constraint
constraint_of (constraint.done c) d = c
constraint_of s d = d

pub after_done : (b c : Constraint) (f : List LexKind) → steps constraint.step (constraint.done b) f ≡ Ok (constraint.done c) → (f ≡ []) × (b ≡ c)
unfolding constraint_of
after_done b c [] e = (refl, ap (λ z. constraint_of z b) (same_taken (constraint.done b) (constraint.done c) e))
after_done b c (x ∷ f) e = absurd (cc)

inside_by : (f : List LexKind) (c : Constraint) (a s : List Path) (k : Around) (q : Result constraint.State PatternKind) →
    ((t : constraint.State) → NotDone t → steps constraint.step t f ≡ Ok (constraint.done c) → steps step (inside t a s k) f ≡ Ok (part (path.Filter c) a s k)) →
    (q >>= λ t. steps constraint.step t f) ≡ Ok (constraint.done c) → (carried q a s k >>= λ t. steps step t f) ≡ Ok (part (path.Filter c) a s k)
inside_by f c a s k (Ok (constraint.done b)) g e =
    let d = after_done b c f e in
    ap (steps step (part (path.Filter b) a s k)) d.0 ∙ ap (λ z. Ok (part (path.Filter z) a s k)) d.1
inside_by f c a s k (Ok t) g e = g t tt e
inside_by f c a s k (Err j) g e = absurd (cc)

pub inside_steps : (f : List LexKind) (t : constraint.State) (c : Constraint) (a s : List Path) (k : Around) → NotDone t → steps constraint.step t f ≡ Ok (constraint.done c) →
    steps step (inside t a s k) f ≡ Ok (part (path.Filter c) a s k)
inside_steps [] t c a s k n e = absurd (subst NotDone (same_taken t (constraint.done c) e) n)
inside_steps (x ∷ f) t c a s k n e = inside_by f c a s k (constraint.step t x) (λ u. inside_steps f u c a s k) e

from_square : (x : LexKind) (f : List LexKind) (c : Constraint) (a s : List Path) (k : Around) → (constraint.step_start x >>= λ t. steps constraint.step t f) ≡ Ok (constraint.done c) →
    step_atom x a s k ≡ carried (constraint.step_start x) a s k
from_square SquareOpen f c a s k e = refl
from_square x f c a s k e = absurd (cc)

from_start : (f : List LexKind) (c : Constraint) (a s : List Path) (k : Around) → steps constraint.step constraint.start f ≡ Ok (constraint.done c) → steps step (atom a s k) f ≡ Ok (part (path.Filter c) a s k)
from_start [] c a s k e = absurd (subst NotDone (same_taken constraint.start (constraint.done c) e) tt)
from_start (x ∷ f) c a s k e = ap (λ q. q >>= λ t. steps step t f) (from_square x f c a s k e) ∙ inside_steps (x ∷ f) constraint.start c a s k tt e

-- over a front that is taken
over : (s t : State) (f r : List LexKind) → steps step s f ≡ Ok t → out s (f ++ r) ≡ out t r
over s t f r e = ap (λ q. q >>= ends_with) (steps_append step s f r ∙ ap (λ q. q >>= λ u. steps step u r) e)

filter_goes : (l : List LexKind) (c : Constraint) (r : List LexKind) → IsConstraint l c r → (a s : List Path) (k : Around) → out (atom a s k) l ≡ out (part (path.Filter c) a s k) r
filter_goes l c r u a s k =
    let w = constraint_cut l c r u in
    let word : IsConstraint w.front c [] = subst (λ (z : List LexKind). IsConstraint z c []) (append-nil w.front) (w.any []) in
    ap (out (atom a s k)) w.parts ∙ over (atom a s k) (part (path.Filter c) a s k) w.front r (from_start w.front c a s k (constraint_goes w.front c [] word))

labelled : (b : Bool) (x : LexKind) (v : Value) → IsLabel x v → (a s : List Path) (k : Around) → step (label b a s k) x ≡ Ok (part (edge b (Some v)) a s k)
labelled b _ _ (word _ t) a s k = refl
labelled b _ _ (quoted _ t) a s k = refl
labelled b _ _ (regex _ t) a s k = refl

step_goes : (l : List LexKind) (p : Path) (r : List LexKind) → Step l p r → (a s : List Path) (k : Around) → out (atom a s k) l ≡ out (part p a s k) r
step_goes _ _ _ (along x v r i) a s k = ap (λ q. (q >>= λ t. steps step t r) >>= ends_with) (labelled true x v i a s k)
step_goes _ _ _ (against x v r i) a s k = ap (λ q. (q >>= λ t. steps step t r) >>= ends_with) (labelled false x v i a s k)
step_goes _ _ _ (any_along r) a s k = refl
step_goes _ _ _ (any_against r) a s k = refl

turns : (p : Path) (x : LexKind) (least : ℕ) (most : Option ℕ) → IsQuantifier x least most → (a s : List Path) (k : Around) → step (part p a s k) x ≡ Ok (turned a (s ++ path.Repeat p least most ∷ []) k)
turns p _ _ _ maybe a s k = refl
turns p _ _ _ any a s k = refl
turns p _ _ _ plus a s k = refl
turns p _ _ _ (range least most) a s k = refl

-- what an atom begins with
atom_first : (l : List LexKind) (p : Path) (r : List LexKind) → PathAtom l p r → First NoTurnsAt l × Begun IsAtomAt l
atom_first _ _ _ (one_step _ _ _ (along x v r i)) = (λ p a s k. refl, refl)
atom_first _ _ _ (one_step _ _ _ (against x v r i)) = (λ p a s k. refl, refl)
atom_first _ _ _ (one_step _ _ _ (any_along r)) = (λ p a s k. refl, refl)
atom_first _ _ _ (one_step _ _ _ (any_against r)) = (λ p a s k. refl, refl)
atom_first _ _ _ (filter _ _ _ (empty r)) = (λ p a s k. refl, refl)
atom_first _ _ _ (filter _ _ _ (some l c r u)) = (λ p a s k. refl, refl)
atom_first _ _ _ (group l p r u) = (λ p a s k. refl, refl)

part_first : (l : List LexKind) (p : Path) (r : List LexKind) → PathPart l p r → First NoTurnsAt l × Begun IsAtomAt l
part_first _ _ _ (once l p r u) = atom_first l p r u
part_first _ _ _ (repeated l p x least most r u i) = atom_first l p (x ∷ r) u

parts_first : (l : List LexKind) (ps : List Path) (r : List LexKind) → PathParts l ps r → First NoTurnsAt l × Begun IsAtomAt l
parts_first _ _ _ (last l p r u) = part_first l p r u
parts_first _ _ _ (more l p m ps r u v) = part_first l p m u

mutual
  atom_goes : (l : List LexKind) (p : Path) (r : List LexKind) → PathAtom l p r → (a s : List Path) (k : Around) → out (atom a s k) l ≡ out (part p a s k) r
  atom_goes _ _ _ (one_step l p r u) a s k = step_goes l p r u a s k
  atom_goes _ _ _ (filter l c r u) a s k = filter_goes l c r u a s k
  atom_goes _ _ _ (group l p r u) a s k = paths_go l p (RoundClose ∷ r) u (round a s k) (λ p a s k. refl) (λ a s k. refl) (λ a k. refl)

  part_goes : (l : List LexKind) (p : Path) (r : List LexKind) → PathPart l p r → (a s : List Path) (k : Around) → First NoTurnsAt r → out (atom a s k) l ≡ out (turned a (s ++ p ∷ []) k) r
  part_goes _ _ _ (once l p r u) a s k h = atom_goes l p r u a s k ∙ no_turns p a s k r h
  part_goes _ _ _ (repeated l p x least most r u i) a s k h = atom_goes l p (x ∷ r) u a s k ∙ ap (λ q. (q >>= λ t. steps step t r) >>= ends_with) (turns p x least most i a s k)

  parts_go : (l : List LexKind) (ps : List Path) (r : List LexKind) → PathParts l ps r → (a s : List Path) (k : Around) → First NoTurnsAt r → First NoAtomAt r →
      out (atom a s k) l ≡ out (listed (a ++ in_order (s ++ ps) ∷ []) k) r
  parts_go _ _ _ (last l p r u) a s k h n = part_goes l p r u a s k h ∙ no_atom a (s ++ p ∷ []) k r n
  parts_go _ _ _ (more l p m ps r u v) a s k h n =
      let f = parts_first m ps r v in
      part_goes l p m u a s k f.0 ∙ an_atom a (s ++ p ∷ []) k m f.1 ∙ parts_go m ps r v a (s ++ p ∷ []) k h n
      ∙ ap (λ z. out (listed (a ++ in_order z ∷ []) k) r) (append_assoc s (p ∷ []) ps)

  choices_go : (l : List LexKind) (qs : List Path) (r : List LexKind) → PathChoices l qs r → (a : List Path) (k : Around) → First NoTurnsAt r → First NoAtomAt r → First NoChoiceAt r →
      out (atom a [] k) l ≡ out (whole (any_of (a ++ qs)) k) r
  choices_go _ _ _ (final l ps r u) a k h n o = parts_go l ps r u a [] k h n ∙ no_choice (a ++ in_order ps ∷ []) k r o
  choices_go _ _ _ (next l ps m qs r u v) a k h n o =
      parts_go l ps (Or ∷ m) u a [] k (λ p a s k. refl) (λ a s k. refl) ∙ choices_go m qs r v (a ++ in_order ps ∷ []) k h n o
      ∙ ap (λ z. out (whole (any_of z) k) r) (append_assoc a (in_order ps ∷ []) qs)

  pub paths_go : (l : List LexKind) (p : Path) (r : List LexKind) → Paths l p r → (k : Around) → First NoTurnsAt r → First NoAtomAt r → First NoChoiceAt r → out (atom [] [] k) l ≡ out (whole p k) r
  paths_go _ _ _ (choice l ps r u) k h n o = choices_go l ps r u [] k h n o

-- a whole word
abbrev some_out : Option Path → Out
some_out o = Ok o

word_by : (f : List LexKind) (p : Path) (q : Result State PatternKind) → steps step (atom [] [] top) f ≡ q → (q >>= ends_with) ≡ some_out (Some p) → (s : State) × (steps step (atom [] [] top) f ≡ Ok s) × (ended s ≡ Some p)
word_by f p (Ok s) e h = let h0 : ended s ≡ Some p = cc in (s, e, h0)
word_by f p (Err j) e h = absurd (cc)

pub word_goes : (f : List LexKind) (p : Path) → Paths f p [] → (s : State) × (steps step (atom [] [] top) f ≡ Ok s) × (ended s ≡ Some p)
word_goes f p u = word_by f p (steps step (atom [] [] top) f) refl (paths_go f p [] u top tt tt tt)
