-- What takes the machine to its end is a word of the grammar.
use Rattle.std.proofs.Common.{◌≡◌, ℕ, Bool, true, false, List, [], ◌∷◌, ◌++◌, Option, Some, None, Result, Ok, Err, refl, sym, subst, append_assoc}
use Rattle.od_pattern.specs.declared.pattern.Value.{Value}
use Rattle.od_pattern.specs.declared.pattern.Value.TheVariants.{Plain}
use Rattle.od_pattern.specs.declared.pattern.Value.TheVariants as value
use Rattle.od_pattern.specs.declared.pattern.Field.TheVariants.{Incoming}
use Rattle.od_pattern.specs.declared.path.Path.{Path}
use Rattle.od_pattern.specs.declared.path.Path.TheVariants as path
use Rattle.od_language.specs.declared.pattern_fault.PatternKind.{PatternKind}
use Rattle.od_language.specs.declared.lexeme.LexKind.{LexKind}
use Rattle.od_language.specs.declared.lexeme.LexKind.TheVariants.{Word, Quoted, Regex, Range, SquareOpen, RoundOpen, RoundClose, Or, Along, Against, AnyAlong, AnyAgainst, Question, Star, Plus}
use Rattle.od_language.specs.Fields.{word, quoted, regex}
use Rattle.od_syntax.specs.Parts.{IsLabel, IsQuantifier, maybe, any, range}
use Rattle.od_syntax.specs.Parts.{some as plus}
use Rattle.od_syntax.specs.Paths.{along, against, any_along, any_against, PathAtom, step as one_step, filter, group, PathPart, once, repeated, PathParts, last, more, PathChoices, final, next, Paths, choice}
use Rattle.od_language.specs.Machine.{◌>>=◌, steps}
use Rattle.od_language.specs.ConstraintMachine as constraint
use Rattle.od_language.proofs.Constraints.Sound as filtered
use Rattle.od_syntax.specs.PathMachine.{Around, top, round, State, atom, label, inside, part, turned, listed, whole, in_order, any_of, edge, step, carried, at_top, ended}
use Rattle.od_syntax.specs.PathMachine as machine
use Rattle.od_language.specs.ConstraintMachine.{NotDone}

-- between g and m stand the choices a, each with its `|`
abbrev ChoicesBefore : List LexKind → List Path → List LexKind → Type 0
ChoicesBefore g a m = (qs : List Path) (r : List LexKind) → PathChoices m qs r → PathChoices g (a ++ qs) r

-- between m and l stand the parts s
abbrev PartsBefore : List LexKind → List Path → List LexKind → Type 0
PartsBefore m s l = (ps : List Path) (r : List LexKind) → PathParts l ps r → PathParts m (s ++ ps) r

-- the brackets of k begin before g
abbrev pub Inside : List LexKind → Around → List LexKind → Type 0
Inside w top g = w ≡ g
Inside w (round a s k) g = (b m : List LexKind) × Inside w k b × ChoicesBefore b a m × PartsBefore m s (RoundOpen ∷ g)

abbrev arrow : Bool → LexKind
arrow true = Along
arrow false = Against

-- what was read of w, up to l
abbrev pub Holds : List LexKind → State → List LexKind → Type 0
Holds w (atom a s k) l = (g m : List LexKind) × Inside w k g × ChoicesBefore g a m × PartsBefore m s l
Holds w (label b a s k) l = (g m : List LexKind) × Inside w k g × ChoicesBefore g a m × PartsBefore m s (arrow b ∷ l)
Holds w (inside c a s k) l = (g m n : List LexKind) × Inside w k g × ChoicesBefore g a m × PartsBefore m s n × filtered.Holds n c l × NotDone c
Holds w (part p a s k) l = (g m n : List LexKind) × Inside w k g × ChoicesBefore g a m × PartsBefore m s n × PathAtom n p l
Holds w (turned a s k) l = (g m : List LexKind) × Inside w k g × ChoicesBefore g a m × PartsBefore m s l × PathParts m s l
Holds w (listed a k) l = (g : List LexKind) × Inside w k g × PathChoices g a l × ((m : List LexKind) → l ≡ Or ∷ m → ChoicesBefore g a m)
Holds w (whole p k) l = (g : List LexKind) × Inside w k g × Paths g p l

parts_one : (m : List LexKind) (s : List Path) (n : List LexKind) (p : Path) (l : List LexKind) → PartsBefore m s n → PathPart n p l → PartsBefore m (s ++ p ∷ []) l × PathParts m (s ++ p ∷ []) l
parts_one m s n p l h u = (
  λ ps r v. subst (λ (z : List Path). PathParts m z r) (sym (append_assoc s (p ∷ []) ps)) (h (p ∷ ps) r (more n p l ps r u v)),
  h (p ∷ []) l (last n p l u),
)

choices_one : (g : List LexKind) (a : List Path) (m : List LexKind) (s : List Path) (l : List LexKind) → ChoicesBefore g a m → PathParts m s (Or ∷ l) → ChoicesBefore g (a ++ in_order s ∷ []) l
choices_one g a m s l h u qs r v = subst (λ (z : List Path). PathChoices g z r) (sym (append_assoc a (in_order s ∷ []) qs)) (h (in_order s ∷ qs) r (next m s l qs r u v))

pub as_turned : (w : List LexKind) (p : Path) (a s : List Path) (k : Around) (l : List LexKind) → Holds w (part p a s k) l → Holds w (turned a (s ++ p ∷ []) k) l
as_turned w p a s k l h = let t = parts_one h.1 s h.2 p l h.5 (once h.2 p l h.6) in (h.0, h.1, h.3, h.4, t.0, t.1)

pub as_listed : (w : List LexKind) (a s : List Path) (k : Around) (l : List LexKind) → Holds w (turned a s k) l → Holds w (listed (a ++ in_order s ∷ []) k) l
as_listed w a s k l h = (
  h.0,
  h.2,
  h.3 (in_order s ∷ []) l (final h.1 s l h.5),
  λ m e. choices_one h.0 a h.1 s m h.3 (subst (λ (z : List LexKind). PathParts h.1 s z) e h.5),
)

pub as_whole : (w : List LexKind) (a : List Path) (k : Around) (l : List LexKind) → Holds w (listed a k) l → Holds w (whole (any_of a) k) l
as_whole w a k l h = (h.0, h.1, choice h.0 a l h.2)

-- what holds behind one more lexeme that fits
abbrev Good : List LexKind → List LexKind → Result State PatternKind → Type 0
Good w l (Ok t) = Holds w t l
Good w l (Err j) = Unit {0}

good_carried : (w n l : List LexKind) (a s : List Path) (k : Around) (g m : List LexKind) → Inside w k g → ChoicesBefore g a m → PartsBefore m s n →
    (q : Result constraint.State PatternKind) → filtered.Good n l q → Good w l (carried q a s k)
good_carried w n l a s k g m i c p (Ok (constraint.done b)) h = (g, m, n, i, c, p, filter n b l h)
good_carried w n l a s k g m i c p (Ok t) h = (g, m, n, i, c, p, h, tt)
good_carried w n l a s k g m i c p (Err j) h = tt

good_atom : (w l : List LexKind) (x : LexKind) (a s : List Path) (k : Around) → Holds w (atom a s k) (x ∷ l) → Good w l (machine.step_atom x a s k)
good_atom w l Along a s k h = h
good_atom w l Against a s k h = h
good_atom w l AnyAlong a s k h = (h.0, h.1, AnyAlong ∷ l, h.2, h.3, h.4, one_step (AnyAlong ∷ l) (edge true None) l (any_along l))
good_atom w l AnyAgainst a s k h = (h.0, h.1, AnyAgainst ∷ l, h.2, h.3, h.4, one_step (AnyAgainst ∷ l) (edge false None) l (any_against l))
good_atom w l SquareOpen a s k h = (h.0, h.1, SquareOpen ∷ l, h.2, h.3, h.4, refl, tt)
good_atom w l RoundOpen a s k h = (l, l, h, λ qs r u. u, λ ps r u. u)
good_atom w l x a s k h = tt

labelled : (b : Bool) (x : LexKind) (v : Value) (l : List LexKind) → IsLabel x v → PathAtom (arrow b ∷ x ∷ l) (edge b (Some v)) l
labelled true x v l i = one_step (Along ∷ x ∷ l) (path.Along (Some v)) l (along x v l i)
labelled false x v l i = one_step (Against ∷ x ∷ l) (path.Against (Some v)) l (against x v l i)

good_label : (w l : List LexKind) (x : LexKind) (b : Bool) (a s : List Path) (k : Around) → Holds w (label b a s k) (x ∷ l) → Good w l (machine.step_label x b a s k)
good_label w l (Word t) b a s k h = (h.0, h.1, arrow b ∷ Word t ∷ l, h.2, h.3, h.4, labelled b (Word t) (Plain t) l (word Incoming t))
good_label w l (Quoted t) b a s k h = (h.0, h.1, arrow b ∷ Quoted t ∷ l, h.2, h.3, h.4, labelled b (Quoted t) (Plain t) l (quoted Incoming t))
good_label w l (Regex t) b a s k h = (h.0, h.1, arrow b ∷ Regex t ∷ l, h.2, h.3, h.4, labelled b (Regex t) (value.Regex t) l (regex Incoming t))
good_label w l x b a s k h = tt

good_closed : (w l : List LexKind) (x : LexKind) (p : Path) (a s : List Path) (k : Around) → Holds w (whole p (round a s k)) (x ∷ l) → Good w l (machine.step_closed x p a s k)
good_closed w l RoundClose p a s k (g, (b, m, i, c, q), u) = (b, m, RoundOpen ∷ g, i, c, q, group g p l u)
good_closed w l x p a s k h = tt

good_whole : (w l : List LexKind) (x : LexKind) (p : Path) (k : Around) → Holds w (whole p k) (x ∷ l) → Good w l (machine.step_whole x p k)
good_whole w l x p top h = tt
good_whole w l x p (round a s k) h = good_closed w l x p a s k h

good_listed : (w l : List LexKind) (x : LexKind) (a : List Path) (k : Around) → Holds w (listed a k) (x ∷ l) → Good w l (machine.step_listed x a k)
good_listed w l Or a k h = (h.0, l, h.1, h.3 l refl, λ ps r u. u)
good_listed w l x a k h = good_whole w l x (any_of a) k (as_whole w a k (x ∷ l) h)

good_turned : (w l : List LexKind) (x : LexKind) (a s : List Path) (k : Around) → Holds w (turned a s k) (x ∷ l) → Good w l (machine.step_turned x a s k)
good_turned w l Along a s k h = good_atom w l Along a s k (h.0, h.1, h.2, h.3, h.4)
good_turned w l Against a s k h = good_atom w l Against a s k (h.0, h.1, h.2, h.3, h.4)
good_turned w l AnyAlong a s k h = good_atom w l AnyAlong a s k (h.0, h.1, h.2, h.3, h.4)
good_turned w l AnyAgainst a s k h = good_atom w l AnyAgainst a s k (h.0, h.1, h.2, h.3, h.4)
good_turned w l SquareOpen a s k h = good_atom w l SquareOpen a s k (h.0, h.1, h.2, h.3, h.4)
good_turned w l RoundOpen a s k h = good_atom w l RoundOpen a s k (h.0, h.1, h.2, h.3, h.4)
good_turned w l x a s k h = good_listed w l x (a ++ in_order s ∷ []) k (as_listed w a s k (x ∷ l) h)

good_turns : (w l : List LexKind) (x : LexKind) (least : ℕ) (most : Option ℕ) (p : Path) (a s : List Path) (k : Around) → IsQuantifier x least most → Holds w (part p a s k) (x ∷ l) →
    Holds w (turned a (s ++ path.Repeat p least most ∷ []) k) l
good_turns w l x least most p a s k i h =
    let t = parts_one h.1 s h.2 (path.Repeat p least most) l h.5 (repeated h.2 p x least most l h.6 i) in
    (h.0, h.1, h.3, h.4, t.0, t.1)

good_part : (w l : List LexKind) (x : LexKind) (p : Path) (a s : List Path) (k : Around) → Holds w (part p a s k) (x ∷ l) → Good w l (machine.step_part x p a s k)
good_part w l Question p a s k h = good_turns w l Question 0 (Some 1) p a s k maybe h
good_part w l Star p a s k h = good_turns w l Star 0 None p a s k any h
good_part w l Plus p a s k h = good_turns w l Plus 1 None p a s k plus h
good_part w l (Range n m) p a s k h = good_turns w l (Range n m) n m p a s k (range n m) h
good_part w l x p a s k h = good_turned w l x a (s ++ p ∷ []) k (as_turned w p a s k (x ∷ l) h)

pub good : (w l : List LexKind) (s : State) (x : LexKind) → Holds w s (x ∷ l) → Good w l (step s x)
good w l (atom a s k) x h = good_atom w l x a s k h
good w l (label b a s k) x h = good_label w l x b a s k h
good w l (inside c a s k) x h = good_carried w h.2 l a s k h.0 h.1 h.3 h.4 h.5 (constraint.step c x) (filtered.good h.2 l c x h.6)
good w l (part p a s k) x h = good_part w l x p a s k h
good w l (turned a s k) x h = good_turned w l x a s k h
good w l (listed a k) x h = good_listed w l x a k h
good w l (whole p k) x h = good_whole w l x p k h

good_then : (w l : List LexKind) (q : Result State PatternKind) (t : State) → Good w l q → ((s : State) → Holds w s l → steps step s l ≡ Ok t → Holds w t []) →
    (q >>= λ s. steps step s l) ≡ Ok t → Holds w t []
good_then w l (Ok s) t h f e = f s h e
good_then w l (Err j) t h f e = absurd (cc)

pub stays_good : (w l : List LexKind) (s t : State) → Holds w s l → steps step s l ≡ Ok t → Holds w t []
stays_good w [] s t h e = let h0 : s ≡ t = cc in subst (λ (z : State). Holds w z []) h0 h
stays_good w (x ∷ l) s t h e = good_then w l (step s x) t (good w l s x h) (λ z. stays_good w l z t) e

-- what holds where the machine has taken everything
pub holds : (w : List LexKind) (t : State) → steps step (atom [] [] top) w ≡ Ok t → Holds w t []
holds w t e = stays_good w w (atom [] [] top) t (w, w, refl, λ qs r u. u, λ ps r u. u) e

abbrev some_path : Path → Option Path
some_path p = Some p

same_path : (p q : Path) → some_path p ≡ some_path q → p ≡ q
same_path p q e = cc

word_whole : (w : List LexKind) (p q : Path) (k : Around) → Holds w (whole p k) [] → at_top p k ≡ Some q → Paths w q []
word_whole w p q top (g, i, u) e = subst (λ (z : List LexKind). Paths z q []) (sym i) (subst (λ (z : Path). Paths g z []) (same_path p q e) u)
word_whole w p q (round a s k) h e = absurd (cc)

word_turned : (w : List LexKind) (a s : List Path) (k : Around) (q : Path) → Holds w (turned a s k) [] → at_top (any_of (a ++ in_order s ∷ [])) k ≡ Some q → Paths w q []
word_turned w a s k q h e = word_whole w (any_of (a ++ in_order s ∷ [])) q k (as_whole w (a ++ in_order s ∷ []) k [] (as_listed w a s k [] h)) e

pub word_of : (w : List LexKind) (t : State) (q : Path) → Holds w t [] → ended t ≡ Some q → Paths w q []
word_of w (part p a s k) q h e = word_turned w a (s ++ p ∷ []) k q (as_turned w p a s k [] h) e
word_of w (turned a s k) q h e = word_turned w a s k q h e
word_of w (listed a k) q h e = word_whole w (any_of a) q k (as_whole w a k [] h) e
word_of w (whole p k) q h e = word_whole w p q k h e
word_of w t q h e = absurd (cc)
