-- What takes the machine to its end is a word of the grammar.
use Rattle.std.proofs.Common.{◌≡◌, ℕ, Bool, true, false, if◌then◌else◌, List, [], ◌∷◌, ◌++◌, Option, Some, None, Result, Ok, Err, refl, sym, ◌∙◌, subst, append_assoc}
use Rattle.od_pattern.specs.declared.pattern.Field.TheVariants.{Norm}
use Rattle.od_pattern.specs.declared.pattern.Value.{Value}
use Rattle.od_pattern.specs.declared.pattern.Value.TheVariants.{Plain}
use Rattle.od_pattern.specs.declared.pattern.Value.TheVariants as value_kind
use Rattle.od_pattern.specs.declared.pattern.Constraint.{Constraint}
use Rattle.od_pattern.specs.declared.pattern.Surface.{Surface}
use Rattle.od_pattern.specs.declared.pattern.Surface.TheVariants as surface
use Rattle.od_language.specs.declared.pattern_fault.PatternKind.{PatternKind}
use Rattle.od_language.specs.declared.lexeme.LexKind.{LexKind}
use Rattle.od_language.specs.declared.lexeme.LexKind.TheVariants.{Word, Quoted, Regex, Range, NameOpen, AheadIs, AheadNot, BehindIs, BehindNot, SquareOpen, RoundOpen, RoundClose, Or, At, Question, Star, Plus, Caret, Dollar}
use Rattle.od_language.specs.Fields.{compared_text, IsValue, word, quoted, regex}
use Rattle.od_language.specs.Identifier.{is_identifier}
use Rattle.od_language.specs.Grammar.{IsConstraint}
use Rattle.od_syntax.specs.Parts.{IsQuantifier, maybe, any, range}
use Rattle.od_syntax.specs.Parts.{some as plus}
use Rattle.od_language.specs.Machine.{◌>>=◌, steps}
use Rattle.od_language.specs.ConstraintMachine as constraint
use Rattle.od_language.proofs.Constraints.Sound as filtered
use Rattle.od_language.specs.ConstraintMachine.{NotDone}
use Rattle.od_syntax.specs.Surfaces.{IsLook, ahead, ahead_not, behind, behind_not, token, value, label, look as a_look, first, last as last_token, IsTurns, greedy, lazy, SurfaceAtom, single, group, capture, SurfacePart, once, repeated, SurfaceParts, last, more, SurfaceChoices, final, next, Surfaces, choice}
use Rattle.od_syntax.specs.SurfaceMachine.{Looking, Around, top, round, State, atom, name, look, inside, looked, part, counted, turned, listed, whole, in_order, any_of, norm, repeat, closed, filled, carried, step_atom, step_turned, step_listed, step_whole, step, named_if, counted_if, at_top, ended, begins_atom, joins}
use Rattle.od_syntax.specs.SurfaceMachine as machine

-- what opens the brackets
abbrev pub opening : Option (List ℕ) → LexKind
opening None = RoundOpen
opening (Some n) = NameOpen n

abbrev pub look_opening : Bool × Bool → LexKind
look_opening (true, true) = AheadIs
look_opening (true, false) = AheadNot
look_opening (false, true) = BehindIs
look_opening (false, false) = BehindNot

module _ (may : Surface → Option ℕ → Bool) where
  -- between g and m stand the choices a, each with its `|`
  abbrev ChoicesBefore : List LexKind → List Surface → List LexKind → Type 0
  ChoicesBefore g a m = (qs : List Surface) (r : List LexKind) → SurfaceChoices may m qs r → SurfaceChoices may g (a ++ qs) r

  -- between m and l stand the parts s
  abbrev PartsBefore : List LexKind → List Surface → List LexKind → Type 0
  PartsBefore m s l = (ps : List Surface) (r : List LexKind) → SurfaceParts may l ps r → SurfaceParts may m (s ++ ps) r

  -- the brackets of k begin before g
  abbrev pub Inside : List LexKind → Around → List LexKind → Type 0
  Inside w top g = w ≡ g
  Inside w (round o a s k) g = (b m : List LexKind) × Inside w k b × ChoicesBefore b a m × PartsBefore m s (opening o ∷ g) × (a ≡ [] → b ≡ m)

  -- the choices and parts before l
  pub record Before (w : List LexKind) (a s : List Surface) (k : Around) (l : List LexKind) : Type 0 where
    pub g : List LexKind
    pub m : List LexKind
    pub around : Inside w k g
    pub choices : ChoicesBefore g a m
    pub parts : PartsBefore m s l
    pub alone : a ≡ [] → g ≡ m

  -- where a constraint begins: in place of an atom, or behind the opening of a look
  abbrev pub Begun : List LexKind → Looking → List Surface → List Surface → Around → List LexKind → Type 0
  Begun w None a s k n = Before w a s k n
  Begun w (Some v) a s k n = Before w a s k (look_opening v ∷ n)

  -- what was read of w, up to l
  abbrev pub Holds : List LexKind → State → List LexKind → Type 0
  Holds w (atom a s k) l = Before w a s k l
  Holds w (name a s k) l = Before w a s k (At ∷ l)
  Holds w (look v a s k) l = Before w a s k (look_opening v ∷ l)
  Holds w (inside v c a s k) l = (n : List LexKind) × Begun w v a s k n × filtered.Holds n c l × NotDone c
  Holds w (looked v c a s k) l = (n : List LexKind) × Before w a s k (look_opening v ∷ n) × IsConstraint n c l
  Holds w (part p a s k) l = (n : List LexKind) × Before w a s k n × SurfaceAtom may n p l
  Holds w (counted p least most a s k) l = (n m : List LexKind) × (x : LexKind) × Before w a s k n × SurfaceAtom may n p m × (m ≡ x ∷ l) × IsQuantifier x least most × (may p most ≡ true)
  Holds w (turned a s k) l = (b : Before w a s k l) × SurfaceParts may b.m s l
  Holds w (listed a k) l = (g : List LexKind) × Inside w k g × SurfaceChoices may g a l × ((m : List LexKind) → l ≡ Or ∷ m → ChoicesBefore g a m) × (a ≡ [] → ⊥)
  Holds w (whole p k) l = (g : List LexKind) × Inside w k g × Surfaces may g p l

  with_part : (w : List LexKind) (a s : List Surface) (k : Around) (n : List LexKind) (p : Surface) (l : List LexKind) → Before w a s k n → SurfacePart may n p l → Holds w (turned a (s ++ p ∷ []) k) l
  with_part w a s k n p l b u = (
    record {
      g = b.g;
      m = b.m;
      around = b.around;
      choices = b.choices;
      parts = λ ps r v. subst (λ (z : List Surface). SurfaceParts may b.m z r) (sym (append_assoc s (p ∷ []) ps)) (b.parts (p ∷ ps) r (more n p l ps r u v));
      alone = b.alone;
    },
    b.parts (p ∷ []) l (last n p l u),
  )

  choices_one : (g : List LexKind) (a : List Surface) (m : List LexKind) (s : List Surface) (l : List LexKind) → ChoicesBefore g a m → SurfaceParts may m s (Or ∷ l) → ChoicesBefore g (a ++ in_order s ∷ []) l
  choices_one g a m s l h u qs r v = subst (λ (z : List Surface). SurfaceChoices may g z r) (sym (append_assoc a (in_order s ∷ []) qs)) (h (in_order s ∷ qs) r (next m s l qs r u v))

  pub as_turned : (w : List LexKind) (p : Surface) (a s : List Surface) (k : Around) (l : List LexKind) → Holds w (part p a s k) l → Holds w (turned a (s ++ p ∷ []) k) l
  as_turned w p a s k l (n, b, u) = with_part w a s k n p l b (once n p l u)

  pub as_greedy : (w : List LexKind) (p : Surface) (least : ℕ) (most : Option ℕ) (a s : List Surface) (k : Around) (l : List LexKind) → Holds w (counted p least most a s k) l →
      Holds w (turned a (s ++ repeat p least most false ∷ []) k) l
  as_greedy w p least most a s k l (n, m, x, b, u, e, i, f) =
      with_part w a s k n (repeat p least most false) l b (repeated n p m (record { least = least; most = most; lazy = false }) l u (subst (λ (z : List LexKind). IsTurns z (record { least = least; most = most; lazy = false }) l) (sym e) (greedy x least most l i)) f)

  as_lazy : (w : List LexKind) (p : Surface) (least : ℕ) (most : Option ℕ) (a s : List Surface) (k : Around) (l : List LexKind) → Holds w (counted p least most a s k) (Question ∷ l) →
      Holds w (turned a (s ++ repeat p least most true ∷ []) k) l
  as_lazy w p least most a s k l (n, m, x, b, u, e, i, f) =
      with_part w a s k n (repeat p least most true) l b (repeated n p m (record { least = least; most = most; lazy = true }) l u (subst (λ (z : List LexKind). IsTurns z (record { least = least; most = most; lazy = true }) l) (sym e) (lazy x least most l i)) f)

  not_empty : (a : List Surface) (p : Surface) → a ++ p ∷ [] ≡ [] → ⊥
  not_empty [] p e = absurd (cc)
  not_empty (x ∷ a) p e = absurd (cc)

  pub as_listed : (w : List LexKind) (a s : List Surface) (k : Around) (l : List LexKind) → Holds w (turned a s k) l → Holds w (listed (a ++ in_order s ∷ []) k) l
  as_listed w a s k l (b, u) = (
    b.g,
    b.around,
    b.choices (in_order s ∷ []) l (final b.m s l u),
    λ m e. choices_one b.g a b.m s m b.choices (subst (λ (z : List LexKind). SurfaceParts may b.m s z) e u),
    not_empty a (in_order s),
  )

  pub as_whole : (w : List LexKind) (a : List Surface) (k : Around) (l : List LexKind) → Holds w (listed a k) l → Holds w (whole (any_of a) k) l
  as_whole w a k l h = (h.0, h.1, choice h.0 a l h.2)

  -- what holds behind one more lexeme that fits
  abbrev Good : List LexKind → List LexKind → Result State PatternKind → Type 0
  Good w l (Ok t) = Holds w t l
  Good w l (Err j) = Unit {0}

  good_filled : (w n l : List LexKind) (c : Constraint) (v : Looking) (a s : List Surface) (k : Around) → Begun w v a s k n → IsConstraint n c l → Holds w (filled v c a s k) l
  good_filled w n l c None a s k b u = (n, b, single n (surface.Token c) l (token n c l u))
  good_filled w n l c (Some v) a s k b u = (n, b, u)

  good_carried : (w n l : List LexKind) (v : Looking) (a s : List Surface) (k : Around) → Begun w v a s k n → (q : Result constraint.State PatternKind) → filtered.Good n l q → Good w l (carried q v a s k)
  good_carried w n l v a s k b (Ok (constraint.done c)) h = good_filled w n l c v a s k b h
  good_carried w n l v a s k b (Ok t) h = (n, b, h, tt)
  good_carried w n l v a s k b (Err j) h = tt

  good_value : (w l : List LexKind) (x : LexKind) (v : Value) (a s : List Surface) (k : Around) → IsValue Norm x v → Before w a s k (x ∷ l) → Holds w (part (norm v) a s k) l
  good_value w l x v a s k i h = (x ∷ l, h, single (x ∷ l) (norm v) l (value x v l i))

  same_end : (l : List LexKind) → (qs : List Surface) (r : List LexKind) → SurfaceChoices may l qs r → SurfaceChoices may l ([] ++ qs) r
  same_end l qs r u = u

  good_open : (w l : List LexKind) (o : Option (List ℕ)) (a s : List Surface) (k : Around) → Before w a s k (opening o ∷ l) → Holds w (atom [] [] (round o a s k)) l
  good_open w l o a s k h = record { g = l; m = l; around = (h.g, h.m, h.around, h.choices, h.parts, h.alone); choices = λ qs r u. u; parts = λ ps r u. u; alone = λ e. refl }

  good_atom : (w l : List LexKind) (x : LexKind) (a s : List Surface) (k : Around) → Before w a s k (x ∷ l) → Good w l (machine.step_atom x a s k)
  good_atom w l SquareOpen a s k h = (SquareOpen ∷ l, h, refl, tt)
  good_atom w l (Word t) a s k h = good_value w l (Word t) (Plain (compared_text Norm t)) a s k (word Norm t) h
  good_atom w l (Quoted t) a s k h = good_value w l (Quoted t) (Plain (compared_text Norm t)) a s k (quoted Norm t) h
  good_atom w l (Regex t) a s k h = good_value w l (Regex t) (value_kind.Regex t) a s k (regex Norm t) h
  good_atom w l At a s k h = h
  good_atom w l RoundOpen a s k h = good_open w l None a s k h
  good_atom w l (NameOpen n) a s k h = good_open w l (Some n) a s k h
  good_atom w l AheadIs a s k h = h
  good_atom w l AheadNot a s k h = h
  good_atom w l BehindIs a s k h = h
  good_atom w l BehindNot a s k h = h
  good_atom w l Caret a s k h = (Caret ∷ l, h, single (Caret ∷ l) surface.First l (first l))
  good_atom w l Dollar a s k h = (Dollar ∷ l, h, single (Dollar ∷ l) surface.Last l (last_token l))
  good_atom w l x a s k h = tt

  good_named : (w l : List LexKind) (t : List ℕ) (a s : List Surface) (k : Around) → Before w a s k (At ∷ Word t ∷ l) → (b : Bool) → is_identifier t ≡ b → Good w l (named_if b t a s k)
  good_named w l t a s k h true e = (At ∷ Word t ∷ l, h, single (At ∷ Word t ∷ l) (surface.Label t) l (label t l e))
  good_named w l t a s k h false e = tt

  good_name : (w l : List LexKind) (x : LexKind) (a s : List Surface) (k : Around) → Before w a s k (At ∷ x ∷ l) → Good w l (machine.step_name x a s k)
  good_name w l (Word t) a s k h = good_named w l t a s k h (is_identifier t) refl
  good_name w l x a s k h = tt

  good_look : (w l : List LexKind) (x : LexKind) (v : Bool × Bool) (a s : List Surface) (k : Around) → Before w a s k (look_opening v ∷ x ∷ l) → Good w l (machine.step_look x v a s k)
  good_look w l SquareOpen v a s k h = (SquareOpen ∷ l, h, refl, tt)
  good_look w l x v a s k h = tt

  is_look : (v : Bool × Bool) → IsLook (look_opening v) v.0 v.1
  is_look (true, true) = ahead
  is_look (true, false) = ahead_not
  is_look (false, true) = behind
  is_look (false, false) = behind_not

  good_looked : (w l : List LexKind) (x : LexKind) (v : Bool × Bool) (c : Constraint) (a s : List Surface) (k : Around) → Holds w (looked v c a s k) (x ∷ l) → Good w l (machine.step_looked x v c a s k)
  good_looked w l RoundClose v c a s k (n, b, u) = (look_opening v ∷ n, b, single (look_opening v ∷ n) (surface.Look v.0 v.1 c) l (a_look (look_opening v) v.0 v.1 n c l (is_look v) u))
  good_looked w l x v c a s k h = tt

  closed_atom : (o : Option (List ℕ)) (g : List LexKind) (p : Surface) (l : List LexKind) → Surfaces may g p (RoundClose ∷ l) → SurfaceAtom may (opening o ∷ g) (closed o p) l
  closed_atom None g p l u = group g p l u
  closed_atom (Some n) g p l u = capture n g p l u

  good_closed : (w l : List LexKind) (x : LexKind) (o : Option (List ℕ)) (p : Surface) (a s : List Surface) (k : Around) → Holds w (whole p (round o a s k)) (x ∷ l) → Good w l (machine.step_closed x o p a s k)
  good_closed w l RoundClose o p a s k (g, (b, m, i, c, q, n), u) = (opening o ∷ g, record { g = b; m = m; around = i; choices = c; parts = q; alone = n }, closed_atom o g p l u)
  good_closed w l x o p a s k h = tt

  good_whole : (w l : List LexKind) (x : LexKind) (p : Surface) (k : Around) → Holds w (whole p k) (x ∷ l) → Good w l (machine.step_whole x p k)
  good_whole w l x p top h = tt
  good_whole w l x p (round o a s k) h = good_closed w l x o p a s k h

  good_listed : (w l : List LexKind) (x : LexKind) (a : List Surface) (k : Around) → Holds w (listed a k) (x ∷ l) → Good w l (machine.step_listed x a k)
  good_listed w l Or a k h = record { g = h.0; m = l; around = h.1; choices = h.3 l refl; parts = λ ps r u. u; alone = λ e. absurd (h.4 e) }
  good_listed w l x a k h = good_whole w l x (any_of a) k (as_whole w a k (x ∷ l) h)

  good_either : (w l : List LexKind) (x : LexKind) (a s : List Surface) (k : Around) (b : Bool) → Holds w (turned a s k) (x ∷ l) → Good w l (if b then step_atom x a s k else step_listed x (a ++ in_order s ∷ []) k)
  good_either w l x a s k true (h, u) = good_atom w l x a s k h
  good_either w l x a s k false h = good_listed w l x (a ++ in_order s ∷ []) k (as_listed w a s k (x ∷ l) h)

  good_turned : (w l : List LexKind) (x : LexKind) (a s : List Surface) (k : Around) → Holds w (turned a s k) (x ∷ l) → Good w l (machine.step_turned x a s k)
  good_turned w l x a s k h = good_either w l x a s k (begins_atom x) h

  good_counted : (w l : List LexKind) (x : LexKind) (p : Surface) (least : ℕ) (most : Option ℕ) (a s : List Surface) (k : Around) → Holds w (counted p least most a s k) (x ∷ l) → Good w l (machine.step_counted x p least most a s k)
  good_counted w l Question p least most a s k h = as_lazy w p least most a s k l h
  good_counted w l x p least most a s k h = good_turned w l x a (s ++ repeat p least most false ∷ []) k (as_greedy w p least most a s k (x ∷ l) h)

  good_count : (w l : List LexKind) (x : LexKind) (least : ℕ) (most : Option ℕ) (p : Surface) (a s : List Surface) (k : Around) → IsQuantifier x least most → Holds w (part p a s k) (x ∷ l) →
      (b : Bool) → may p most ≡ b → Good w l (counted_if b p least most a s k)
  good_count w l x least most p a s k i (n, h, u) true e = (n, x ∷ l, x, h, u, refl, i, e)
  good_count w l x least most p a s k i h false e = tt

  good_part : (w l : List LexKind) (x : LexKind) (p : Surface) (a s : List Surface) (k : Around) → Holds w (part p a s k) (x ∷ l) → Good w l (machine.step_part may x p a s k)
  good_part w l Question p a s k h = good_count w l Question 0 (Some 1) p a s k maybe h (may p (Some 1)) refl
  good_part w l Star p a s k h = good_count w l Star 0 None p a s k any h (may p None) refl
  good_part w l Plus p a s k h = good_count w l Plus 1 None p a s k plus h (may p None) refl
  good_part w l (Range least most) p a s k h = good_count w l (Range least most) least most p a s k (range least most) h (may p most) refl
  good_part w l x p a s k h = good_turned w l x a (s ++ p ∷ []) k (as_turned w p a s k (x ∷ l) h)

  pub good : (w l : List LexKind) (s : State) (x : LexKind) → Holds w s (x ∷ l) → Good w l (step may s x)
  good w l (atom a s k) x h = good_atom w l x a s k h
  good w l (name a s k) x h = good_name w l x a s k h
  good w l (look v a s k) x h = good_look w l x v a s k h
  good w l (inside v c a s k) x (n, b, h, d) = good_carried w n l v a s k b (constraint.step c x) (filtered.good n l c x h)
  good w l (looked v c a s k) x h = good_looked w l x v c a s k h
  good w l (part p a s k) x h = good_part w l x p a s k h
  good w l (counted p least most a s k) x h = good_counted w l x p least most a s k h
  good w l (turned a s k) x h = good_turned w l x a s k h
  good w l (listed a k) x h = good_listed w l x a k h
  good w l (whole p k) x h = good_whole w l x p k h

  good_then : (w l : List LexKind) (q : Result State PatternKind) (t : State) → Good w l q → ((s : State) → Holds w s l → steps (step may) s l ≡ Ok t → Holds w t []) →
      (q >>= λ s. steps (step may) s l) ≡ Ok t → Holds w t []
  good_then w l (Ok s) t h f e = f s h e
  good_then w l (Err j) t h f e = absurd (cc)

  pub stays_good : (w l : List LexKind) (s t : State) → Holds w s l → steps (step may) s l ≡ Ok t → Holds w t []
  stays_good w [] s t h e = let h0 : s ≡ t = cc in subst (λ (z : State). Holds w z []) h0 h
  stays_good w (x ∷ l) s t h e = good_then w l (step may s x) t (good w l s x h) (λ z. stays_good w l z t) e

  -- what holds where the machine has taken everything
  pub holds : (w : List LexKind) (t : State) → steps (step may) (atom [] [] top) w ≡ Ok t → Holds w t []
  holds w t e = stays_good w w (atom [] [] top) t (record { g = w; m = w; around = refl; choices = λ qs r u. u; parts = λ ps r u. u; alone = λ e. refl }) e

  abbrev some_surface : Surface → Option Surface
  some_surface p = Some p

  same_surface : (p q : Surface) → some_surface p ≡ some_surface q → p ≡ q
  same_surface p q e = cc

  word_whole : (w : List LexKind) (p q : Surface) (k : Around) → Holds w (whole p k) [] → at_top p k ≡ Some q → Surfaces may w q []
  word_whole w p q top (g, i, u) e = subst (λ (z : List LexKind). Surfaces may z q []) (sym i) (subst (λ (z : Surface). Surfaces may g z []) (same_surface p q e) u)
  word_whole w p q (round o a s k) h e = absurd (cc)

  word_turned : (w : List LexKind) (a s : List Surface) (k : Around) (q : Surface) → Holds w (turned a s k) [] → at_top (any_of (a ++ in_order s ∷ [])) k ≡ Some q → Surfaces may w q []
  word_turned w a s k q h e = word_whole w (any_of (a ++ in_order s ∷ [])) q k (as_whole w (a ++ in_order s ∷ []) k [] (as_listed w a s k [] h)) e

  pub word_of : (w : List LexKind) (t : State) (q : Surface) → Holds w t [] → ended t ≡ Some q → Surfaces may w q []
  word_of w (part p a s k) q h e = word_turned w a (s ++ p ∷ []) k q (as_turned w p a s k [] h) e
  word_of w (counted p least most a s k) q h e = word_turned w a (s ++ repeat p least most false ∷ []) k q (as_greedy w p least most a s k [] h) e
  word_of w (turned a s k) q h e = word_turned w a s k q h e
  word_of w (listed a k) q h e = word_whole w (any_of a) q k (as_whole w a k [] h) e
  word_of w (whole p k) q h e = word_whole w p q k h e
  word_of w t q h e = absurd (cc)

  -- a surface of one choice
  abbrev IsOneChoice : List LexKind → Surface → Type 0
  IsOneChoice w p = (ps : List Surface) × (p ≡ in_order ps) × SurfaceParts may w ps []

  turned_choice : (w : List LexKind) (s : List Surface) (q : Surface) → Holds w (turned [] s top) [] → some_surface (in_order s) ≡ some_surface q → IsOneChoice w q
  turned_choice w s q (b, u) e =
      let here : w ≡ b.m = b.around ∙ b.alone refl in
      (s, sym (same_surface (in_order s) q e), subst (λ (z : List LexKind). SurfaceParts may z s []) (sym here) u)

  pub choice_of : (w : List LexKind) (t : State) (q : Surface) → Holds w t [] → joins t ≡ Some q → IsOneChoice w q
  choice_of w (part p [] s top) q h e = turned_choice w (s ++ p ∷ []) q (as_turned w p [] s top [] h) e
  choice_of w (counted p least most [] s top) q h e =
      turned_choice w (s ++ repeat p least most false ∷ []) q (as_greedy w p least most [] s top [] h) e
  choice_of w (turned [] s top) q h e = turned_choice w s q h e
  choice_of w t q h e = absurd (cc)
