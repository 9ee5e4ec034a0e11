-- What takes the machine to its end is a word of the grammar.
use Rattle.std.proofs.Common.{◌≡◌, ℕ, Bool, true, false, List, [], ◌∷◌, ◌++◌, Option, Some, None, Result, Ok, Err, refl, sym, ◌∙◌, ap, subst, append_assoc}
use Rattle.od_pattern.specs.declared.pattern.Value.{Value}
use Rattle.od_pattern.specs.declared.pattern.Value.TheVariants.{Plain}
use Rattle.od_pattern.specs.declared.pattern.Value.TheVariants as value
use Rattle.od_pattern.specs.declared.pattern.Field.TheVariants.{Incoming}
use Rattle.od_pattern.specs.declared.path.Path.{Path}
use Rattle.od_pattern.specs.declared.path.Path.TheVariants as path
use Rattle.od_language.specs.declared.pattern_fault.PatternKind.{PatternKind}
use Rattle.od_language.specs.declared.lexeme.LexKind.{LexKind}
use Rattle.od_language.specs.declared.lexeme.LexKind.TheVariants.{Word, Quoted, Regex, Range, RoundClose, Along, Against, AnyAlong, AnyAgainst, Question, Star, Plus}
use Rattle.od_language.specs.Fields.{word, quoted, regex}
use Rattle.od_language.specs.Machine.{◌>>=◌, steps}
use Rattle.od_language.proofs.Machine.{steps_one}
use Rattle.od_syntax.specs.Parts.{IsLabel, IsQuantifier, maybe, any, range}
use Rattle.od_syntax.specs.Parts.{some as plus}
use Rattle.od_syntax.specs.Paths.{along, against, any_along, any_against}
use Rattle.od_syntax.specs.PathMachine as paths
use Rattle.od_syntax.specs.Hops.{StepAtom, step as one_step, group as in_brackets, StepPart, once, repeated, StepParts, last, more, Steps, all}
use Rattle.od_syntax.specs.Told.{Told, lexeme, steps_open, untold, all_untold}
use Rattle.od_syntax.specs.StepsMachine.{State, begun, label, group, part, turned, group_start, opened, labelled, closing, grouped, counted, step, ended}
use Rattle.od_syntax.proofs.Paths.Sound as inner

-- between m and l stand the parts s
abbrev PartsBefore : List Told → List Path → List Told → Type 0
PartsBefore m s l = (ps : List Path) (r : List Told) → StepParts l ps r → StepParts m (s ++ ps) r

abbrev arrow : Bool → LexKind
arrow true = Along
arrow false = Against

-- what was read of w, up to l
abbrev pub Holds : List Told → State → List Told → Type 0
Holds w begun l = w ≡ l
Holds w (label b s) l = PartsBefore w s (lexeme (arrow b) ∷ l)
Holds w (group q s) l = (v : List Told) × PartsBefore w s (steps_open ∷ (v ++ l)) × (steps paths.step group_start (all_untold v) ≡ Ok q)
Holds w (part p s) l = (n : List Told) × PartsBefore w s n × StepAtom n p l
Holds w (turned s) l = PartsBefore w s l × StepParts w s l

abbrev Good : List Told → List Told → Result State PatternKind → Type 0
Good w l (Ok t) = Holds w t l
Good w l (Err k) = Unit {0}

with_part : (w : List Told) (s : List Path) (n : List Told) (p : Path) (l : List Told) → PartsBefore w s n → StepPart n p l → Holds w (turned (s ++ p ∷ [])) l
with_part w s n p l h u = (
  λ ps r v. subst (λ (z : List Path). StepParts w z r) (sym (append_assoc s (p ∷ []) ps)) (h (p ∷ ps) r (more n p l ps r u v)),
  h (p ∷ []) l (last n p l u),
)

as_turned : (w : List Told) (p : Path) (s : List Path) (l : List Told) → Holds w (part p s) l → Holds w (turned (s ++ p ∷ [])) l
as_turned w p s l (n, h, u) = with_part w s n p l h (once n p l u)

good_opened : (w l : List Told) (x : Told) (s : List Path) → PartsBefore w s (x ∷ l) → Good w l (opened s x)
good_opened w l steps_open s h = ([], h, refl)
good_opened w l (lexeme Along) s h = h
good_opened w l (lexeme Against) s h = h
good_opened w l (lexeme AnyAlong) s h = (lexeme AnyAlong ∷ l, h, one_step (AnyAlong ∷ []) (path.Along None) l (any_along []))
good_opened w l (lexeme AnyAgainst) s h = (lexeme AnyAgainst ∷ l, h, one_step (AnyAgainst ∷ []) (path.Against None) l (any_against []))
good_opened w l x s h = tt

an_edge : (b : Bool) (x : LexKind) (v : Value) (l : List Told) → IsLabel x v → StepAtom (lexeme (arrow b) ∷ lexeme x ∷ l) (paths.edge b (Some v)) l
an_edge true x v l i = one_step (Along ∷ x ∷ []) (path.Along (Some v)) l (along x v [] i)
an_edge false x v l i = one_step (Against ∷ x ∷ []) (path.Against (Some v)) l (against x v [] i)

good_labelled : (w l : List Told) (x : Told) (b : Bool) (s : List Path) → PartsBefore w s (lexeme (arrow b) ∷ x ∷ l) → Good w l (labelled x b s)
good_labelled w l (lexeme (Word t)) b s h = (lexeme (arrow b) ∷ lexeme (Word t) ∷ l, h, an_edge b (Word t) (Plain t) l (word Incoming t))
good_labelled w l (lexeme (Quoted t)) b s h = (lexeme (arrow b) ∷ lexeme (Quoted t) ∷ l, h, an_edge b (Quoted t) (Plain t) l (quoted Incoming t))
good_labelled w l (lexeme (Regex t)) b s h = (lexeme (arrow b) ∷ lexeme (Regex t) ∷ l, h, an_edge b (Regex t) (value.Regex t) l (regex Incoming t))
good_labelled w l x b s h = tt

untold_snoc : (v : List Told) (x : Told) → all_untold (v ++ x ∷ []) ≡ all_untold v ++ untold x ∷ []
untold_snoc [] x = refl
untold_snoc (y ∷ v) x = ap (λ z. untold y ∷ z) (untold_snoc v x)

good_closing : (w l v : List Told) (x : Told) (q : paths.State) (o : Option Path) (k : PatternKind) (s : List Path) → PartsBefore w s (steps_open ∷ (v ++ x ∷ l)) →
    steps paths.step group_start (all_untold v) ≡ Ok q → paths.ended q ≡ o → Good w l (closing x o k s)
good_closing w l v (lexeme RoundClose) q (Some p) k s h e i =
    (steps_open ∷ (v ++ lexeme RoundClose ∷ l), h, in_brackets v p l (inner.word_of (all_untold v) q p (inner.holds (all_untold v) q e) i))
good_closing w l v x q o k s h e i = tt

good_grouped : (w l v : List Told) (x : Told) (q : paths.State) (z : Result paths.State PatternKind) (s : List Path) → paths.step q (untold x) ≡ z →
    PartsBefore w s (steps_open ∷ (v ++ x ∷ l)) → steps paths.step group_start (all_untold v) ≡ Ok q → Good w l (grouped z x (paths.ended q) s)
good_grouped w l v x q (Ok t) s i h e = (
  v ++ x ∷ [],
  subst (λ (z : List Told). PartsBefore w s (steps_open ∷ z)) (sym (append_assoc v (x ∷ []) l)) h,
  ap (steps paths.step group_start) (untold_snoc v x) ∙ steps_one paths.step (all_untold v) group_start q (untold x) (Ok t) e i,
)
good_grouped w l v x q (Err k) s i h e = good_closing w l v x q (paths.ended q) k s h e refl

good_turned : (w l : List Told) (x : Told) (s : List Path) → Holds w (turned s) (x ∷ l) → Good w l (opened s x)
good_turned w l x s h = good_opened w l x s h.0

good_count : (w l : List Told) (x : LexKind) (n : ℕ) (m : Option ℕ) (p : Path) (s : List Path) → IsQuantifier x n m → Holds w (part p s) (lexeme x ∷ l) →
    Holds w (turned (s ++ path.Repeat p n m ∷ [])) l
good_count w l x n m p s i (b, h, u) = with_part w s b (path.Repeat p n m) l h (repeated b p x n m l u i)

good_counted : (w l : List Told) (x : Told) (p : Path) (s : List Path) → Holds w (part p s) (x ∷ l) → Good w l (counted x p s)
good_counted w l (lexeme Question) p s h = good_count w l Question 0 (Some 1) p s maybe h
good_counted w l (lexeme Star) p s h = good_count w l Star 0 None p s any h
good_counted w l (lexeme Plus) p s h = good_count w l Plus 1 None p s plus h
good_counted w l (lexeme (Range n m)) p s h = good_count w l (Range n m) n m p s (range n m) h
good_counted w l x p s h = good_turned w l x (s ++ p ∷ []) (as_turned w p s (x ∷ l) h)

good : (w l : List Told) (t : State) (x : Told) → Holds w t (x ∷ l) → Good w l (step t x)
good w l begun x h = good_opened w l x [] (λ ps r u. subst (λ (z : List Told). StepParts z ps r) (sym h) u)
good w l (label b s) x h = good_labelled w l x b s h
good w l (group q s) x (v, h, e) = good_grouped w l v x q (paths.step q (untold x)) s refl h e
good w l (part p s) x h = good_counted w l x p s h
good w l (turned s) x h = good_turned w l x s h

good_then : (w l : List Told) (q : Result State PatternKind) (t : State) → Good w l q → ((s : State) → Holds w s l → steps step s l ≡ Ok t → Holds w t []) →
    (q >>= λ s. steps step s l) ≡ Ok t → Holds w t []
good_then w l (Ok s) t h f e = f s h e
good_then w l (Err k) t h f e = absurd (cc)

stays_good : (w l : List Told) (s t : State) → Holds w s l → steps step s l ≡ Ok t → Holds w t []
stays_good w [] s t h e = let h0 : s ≡ t = cc in subst (λ (z : State). Holds w z []) h0 h
stays_good w (x ∷ l) s t h e = good_then w l (step s x) t (good w l s x h) (λ z. stays_good w l z t) e

pub holds : (w : List Told) (t : State) → steps step begun w ≡ Ok t → Holds w t []
holds w t e = stays_good w w begun t refl e

abbrev some_path : Path → Option Path
some_path p = Some p

same_path : (p q : Path) → some_path p ≡ some_path q → p ≡ q
same_path p q e = cc

pub word_of : (w : List Told) (t : State) (q : Path) → Holds w t [] → ended t ≡ Some q → Steps w q []
word_of w (part p s) q h e = subst (λ (z : Path). Steps w z []) (same_path _ q e) (all w (s ++ p ∷ []) [] (as_turned w p s [] h).1)
word_of w (turned s) q h e = subst (λ (z : Path). Steps w z []) (same_path _ q e) (all w s [] h.1)
word_of w t q h e = absurd (cc)
