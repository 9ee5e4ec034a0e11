-- A word of the grammar takes the machine to its end.
use Rattle.std.proofs.Common.{◌≡◌, ℕ, Bool, true, false, List, [], ◌∷◌, ◌++◌, Option, Some, Result, Ok, Err, refl, ◌∙◌, ap, append_assoc}
use Rattle.od_pattern.specs.declared.pattern.Value.{Value}
use Rattle.od_pattern.specs.declared.path.Path.{Path}
use Rattle.od_pattern.specs.declared.path.Path.TheVariants as path
use Rattle.od_language.specs.declared.pattern_fault.PatternKind.{PatternKind}
use Rattle.od_language.specs.declared.pattern_fault.PatternKind.TheVariants as kind
use Rattle.od_language.specs.declared.lexeme.LexKind.{LexKind}
use Rattle.od_language.specs.declared.lexeme.LexKind.TheVariants.{RoundClose, Along, Against, AnyAlong, AnyAgainst}
use Rattle.od_language.specs.Fields.{word, quoted, regex}
use Rattle.od_language.specs.Machine.{◌>>=◌, steps}
use Rattle.od_language.proofs.Machine.{steps_append}
use Rattle.od_syntax.specs.Parts.{IsLabel, IsQuantifier, maybe, any, range}
use Rattle.od_syntax.specs.Parts.{some as plus}
use Rattle.od_syntax.specs.Paths.{along, against, any_along, any_against}
use Rattle.od_syntax.specs.PathMachine as paths
use Rattle.od_syntax.specs.Hops.{StepAtom, step as one_step, group as in_brackets, StepPart, once, repeated, StepParts, last, more, Steps, all}
use Rattle.od_syntax.specs.Told.{Told, lexeme, steps_open, untold, all_untold}
use Rattle.od_syntax.specs.StepsMachine.{State, begun, group, part, turned, group_start, opened, labelled, closing, grouped, counted, step, ended}
use Rattle.od_syntax.proofs.Paths.Complete.{word_goes}

abbrev pub Out : Type 0
Out = Result (Option Path) PatternKind

abbrev pub ends_with : State → Out
ends_with s = Ok (ended s)

abbrev pub out : State → List Told → Out
out s l = steps step s l >>= ends_with

abbrev pub NoTurnsAt : Told → Type 0
NoTurnsAt x = (p : Path) (s : List Path) → counted x p s ≡ opened (s ++ p ∷ []) x

abbrev pub First : List Told → Type 0
First [] = Unit {0}
First (x ∷ l) = NoTurnsAt x

-- an atom comes in this state behind these parts
abbrev pub Opens : State → List Path → Type 0
Opens t s = (x : Told) → step t x ≡ opened s x

over : (s t : State) (f r : List Told) → steps step s f ≡ Ok t → out s (f ++ r) ≡ out t r
over s t f r e = ap (λ q. q >>= ends_with) (steps_append step s f r ∙ ap (λ q. q >>= λ u. steps step u r) e)

valued : (b : Bool) (x : LexKind) (v : Value) → IsLabel x v → (s : List Path) → labelled (lexeme x) b s ≡ Ok (part (paths.edge b (Some v)) s)
valued b _ _ (word f t) s = refl
valued b _ _ (quoted f t) s = refl
valued b _ _ (regex f t) s = refl

-- inside brackets the machine of paths goes on
inner_by : (w : List Told) (s : List Path) (x : Told) (r : paths.State) (q o : Result paths.State PatternKind) (e : Option Path) →
    ((t : paths.State) → steps paths.step t (all_untold w) ≡ Ok r → steps step (group t s) w ≡ Ok (group r s)) →
    (q >>= λ t. steps paths.step t (all_untold w)) ≡ Ok r → (grouped q x e s >>= λ t. steps step t w) ≡ Ok (group r s)
inner_by w s x r (Ok t) o e f h = f t h
inner_by w s x r (Err k) o e f h = absurd (cc)

abbrev taken_at : paths.State → Result paths.State PatternKind
taken_at q = Ok q

same_state : (q r : paths.State) → taken_at q ≡ taken_at r → q ≡ r
same_state q r e = cc

pub inner_goes : (w : List Told) (q r : paths.State) (s : List Path) → steps paths.step q (all_untold w) ≡ Ok r → steps step (group q s) w ≡ Ok (group r s)
inner_goes [] q r s e = ap (λ z. Ok (group z s)) (same_state q r e)
inner_goes (x ∷ w) q r s e =
    inner_by w s x r (paths.step q (untold x)) (Ok q) (paths.ended q) (λ t. inner_goes w t r s) e

-- behind a whole path a closing bracket is not the path's
pub closed_there : (q : paths.State) (p : Path) → paths.ended q ≡ Some p → paths.step q RoundClose ≡ Err kind.Expected
closed_there (paths.part p a s paths.top) q e = refl
closed_there (paths.turned a s paths.top) q e = refl
closed_there (paths.listed a paths.top) q e = refl
closed_there (paths.whole p paths.top) q e = refl
closed_there t q e = absurd (cc)

pub close_goes : (q : paths.State) (p : Path) (s : List Path) → paths.ended q ≡ Some p → step (group q s) (lexeme RoundClose) ≡ Ok (part p s)
close_goes q p s e =
    ap (λ z. grouped z (lexeme RoundClose) (paths.ended q) s) (closed_there q p e) ∙ ap (λ z. closing (lexeme RoundClose) z kind.Expected s) e

atom_goes : (l : List Told) (p : Path) (r : List Told) → StepAtom l p r → (t : State) (s : List Path) → Opens t s → out t l ≡ out (part p s) r
atom_goes _ _ _ (one_step _ _ r (along x v _ i)) t s o =
    ap (λ q. (q >>= λ u. steps step u (lexeme x ∷ r)) >>= ends_with) (o (lexeme Along)) ∙ ap (λ q. (q >>= λ u. steps step u r) >>= ends_with) (valued true x v i s)
atom_goes _ _ _ (one_step _ _ r (against x v _ i)) t s o =
    ap (λ q. (q >>= λ u. steps step u (lexeme x ∷ r)) >>= ends_with) (o (lexeme Against)) ∙ ap (λ q. (q >>= λ u. steps step u r) >>= ends_with) (valued false x v i s)
atom_goes _ _ _ (one_step _ _ r (any_along _)) t s o = ap (λ q. (q >>= λ u. steps step u r) >>= ends_with) (o (lexeme AnyAlong))
atom_goes _ _ _ (one_step _ _ r (any_against _)) t s o = ap (λ q. (q >>= λ u. steps step u r) >>= ends_with) (o (lexeme AnyAgainst))
atom_goes _ _ _ (in_brackets w p r u) t s o =
    let q = word_goes (all_untold w) p u in
    ap (λ z. (z >>= λ u. steps step u (w ++ lexeme RoundClose ∷ r)) >>= ends_with) (o steps_open)
    ∙ over (group group_start s) (group q.0 s) w (lexeme RoundClose ∷ r) (inner_goes w group_start q.0 s q.1)
    ∙ ap (λ z. (z >>= λ u. steps step u r) >>= ends_with) (close_goes q.0 p s q.2)

no_turns : (p : Path) (s : List Path) (l : List Told) → First l → out (part p s) l ≡ out (turned (s ++ p ∷ [])) l
no_turns p s [] h = refl
no_turns p s (x ∷ l) h = ap (λ q. (q >>= λ u. steps step u l) >>= ends_with) (h p s)

atom_first : (l : List Told) (p : Path) (r : List Told) → StepAtom l p r → First l
atom_first _ _ _ (one_step _ _ r (along x v _ i)) = λ p s. refl
atom_first _ _ _ (one_step _ _ r (against x v _ i)) = λ p s. refl
atom_first _ _ _ (one_step _ _ r (any_along _)) = λ p s. refl
atom_first _ _ _ (one_step _ _ r (any_against _)) = λ p s. refl
atom_first _ _ _ (in_brackets w p r u) = λ p s. refl

part_first : (l : List Told) (p : Path) (r : List Told) → StepPart l p r → First l
part_first _ _ _ (once l p r u) = atom_first l p r u
part_first _ _ _ (repeated l p x n m r u i) = atom_first l p (lexeme x ∷ r) u

parts_first : (l : List Told) (ps : List Path) (r : List Told) → StepParts l ps r → First l
parts_first _ _ _ (last l p r u) = part_first l p r u
parts_first _ _ _ (more l p m ps r u v) = part_first l p m u

quantifier : (x : LexKind) (n : ℕ) (m : Option ℕ) → IsQuantifier x n m → (p : Path) (s : List Path) → counted (lexeme x) p s ≡ Ok (turned (s ++ path.Repeat p n m ∷ []))
quantifier _ _ _ maybe p s = refl
quantifier _ _ _ any p s = refl
quantifier _ _ _ plus p s = refl
quantifier _ _ _ (range n m) p s = refl

part_goes : (l : List Told) (p : Path) (r : List Told) → StepPart l p r → (t : State) (s : List Path) → Opens t s → First r → out t l ≡ out (turned (s ++ p ∷ [])) r
part_goes _ _ _ (once l p r u) t s o h = atom_goes l p r u t s o ∙ no_turns p s r h
part_goes _ _ _ (repeated l p x n m r u i) t s o h =
    atom_goes l p (lexeme x ∷ r) u t s o ∙ ap (λ q. (q >>= λ u. steps step u r) >>= ends_with) (quantifier x n m i p s)

parts_go : (l : List Told) (ps : List Path) (r : List Told) → StepParts l ps r → (t : State) (s : List Path) → Opens t s → First r → out t l ≡ out (turned (s ++ ps)) r
parts_go _ _ _ (last l p r u) t s o h = part_goes l p r u t s o h
parts_go _ _ _ (more l p m ps r u v) t s o h =
    part_goes l p m u t s o (parts_first m ps r v) ∙ parts_go m ps r v (turned (s ++ p ∷ [])) (s ++ p ∷ []) (λ x. refl) h
    ∙ ap (λ z. out (turned z) r) (append_assoc s (p ∷ []) ps)

abbrev some_out : Option Path → Out
some_out o = Ok o

word_by : (f : List Told) (p : Path) (q : Result State PatternKind) → steps step begun f ≡ q → (q >>= ends_with) ≡ some_out (Some p) →
    (s : State) × (steps step begun f ≡ Ok s) × (ended s ≡ Some p)
word_by f p (Ok s) e h = let h0 : ended s ≡ Some p = cc in (s, e, h0)
word_by f p (Err k) e h = absurd (cc)

pub steps_go : (f : List Told) (p : Path) → Steps f p [] → (s : State) × (steps step begun f ≡ Ok s) × (ended s ≡ Some p)
steps_go _ _ (all f ps _ u) = word_by f (paths.in_order ps) (steps step begun f) refl (parts_go f ps [] u begun [] (λ x. refl) tt)
