-- A constraint inside a surface pattern: the machine of surfaces goes as the machine of constraints does.
use Rattle.std.proofs.Common.{◌≡◌, ℕ, ◌+◌, Bool, List, [], ◌∷◌, Option, Some, None, Result, Ok, Err, refl, sym, ◌∙◌, ap, subst, arith}
use Rattle.od_pattern.specs.declared.pattern.Constraint.{Constraint}
use Rattle.od_pattern.specs.declared.pattern.Surface.{Surface}
use Rattle.od_language.specs.declared.pattern_fault.PatternKind.{PatternKind}
use Rattle.od_language.specs.declared.pattern_fault.PatternFault.{PatternFault}
use Rattle.od_language.specs.declared.pattern_fault.PatternFault.TheVariants as fault
use Rattle.od_language.specs.declared.lexeme.Lexeme.{Lexeme}
use Rattle.od_language.specs.declared.lexeme.LexKind.{LexKind}
use Rattle.od_language.specs.declared.lexeme.LexKind.TheVariants.{NameOpen, Range, SquareOpen}
use Rattle.od_language.specs.Depth.{depth_behind, broken_rule}
use Rattle.od_language.specs.Machine.{◌>>=◌, Outcome, stopped, checked, either_way, GoesOn}
use Rattle.od_language.specs.ConstraintMachine.{State, start, done, step, NotDone}
use Rattle.od_language.specs.ConstraintMachine as constraint
use Rattle.od_lex.specs.Machine.{Reading, marked, unbroken}
use Rattle.od_lex.specs.Machine as filter
use Rattle.od_syntax.specs.SurfaceMachine.{Looking}
use Rattle.od_syntax.specs.SurfaceMachine as machine
use Rattle.od_surface.specs.declared.lexemes.Places.{Places}
use Rattle.od_surface.specs.Reading.{Left, rule_at, run}
use Rattle.od_surface.proofs.Balanced.{opens, IsBare, Deep, deep}

none_more : (d : ℕ) → 0 + d ≡ d
none_more d = omega arith

same_rule : (again : Option ℕ) (d : ℕ) (v : Looking) (c : State) (a s : List Surface) (k : machine.Around) (at : ℕ) (x : LexKind) → IsBare x → rule_at again d (machine.inside v c a s k) at x ≡ broken_rule d x
same_rule again d v c a s k at (NameOpen name) h = absurd h
same_rule again d v c a s k at (Range least most) h = absurd h
same_rule again d v c a s k at x h = refl

module _ (places : Places) where
  abbrev go : ℕ → machine.State → List Lexeme → Outcome Lexeme Left
  go = run places

  -- behind a constraint
  abbrev pub filtered : ℕ → Looking → List Surface → List Surface → machine.Around → Constraint × List Lexeme → Outcome Lexeme Left
  filtered d w a s k x = go d (machine.filled w x.0 a s k) x.1

  through_done : (d at : ℕ) (x : Lexeme) (c : Constraint) (l : List Lexeme) (w : Looking) (a s : List Surface) (k : machine.Around) (r : Option PatternKind) → at ≡ d →
      checked r x.at (go at (machine.filled w c a s k) l) ≡ ((unbroken x.at r >>= λ _. filter.run at (done c) l) >>= filtered d w a s k)
  through_done d at x c l w a s k None e = ap (λ z. go z (machine.filled w c a s k) l) e
  through_done d at x c l w a s k (Some j) e = refl

  through_open : (d at inner : ℕ) (x : Lexeme) (f : ℕ → Outcome Lexeme Left) (g : ℕ → Reading) (h : Constraint × List Lexeme → Outcome Lexeme Left) (r : Option PatternKind) → at ≡ inner → f inner ≡ (g inner >>= h) →
      checked r x.at (f at) ≡ ((unbroken x.at r >>= λ _. g at) >>= h)
  through_open d at inner x f g h None e i = ap f e ∙ i ∙ ap (λ z. g z >>= h) (sym e)
  through_open d at inner x f g h (Some j) e i = refl

  -- what is said of the lexemes behind
  abbrev Within : ℕ → Looking → List Surface → List Surface → machine.Around → List Lexeme → Type 0
  Within d w a s k l = (t : State) → NotDone t → go (opens t + d) (machine.inside w t a s k) l ≡ (filter.run (opens t + d) t l >>= filtered d w a s k)

  through : (d at : ℕ) (u : State) (x : Lexeme) (l : List Lexeme) (w : Looking) (a s : List Surface) (k : machine.Around) (q : Result State PatternKind) → Deep d at x.kind q → Within d w a s k l →
      either_way (machine.carried q w a s k) (λ t. checked (rule_at places.again at (machine.inside w u a s k) x.at x.kind) x.at (go (depth_behind at x.kind) t l)) (λ j. stopped None (x ∷ l) x.at j)
      ≡ ((marked x.at q >>= λ t. unbroken x.at (broken_rule at x.kind) >>= λ _. filter.run (depth_behind at x.kind) t l) >>= filtered d w a s k)
  through d at u x l w a s k (Err e) h v = refl
  through d at u x l w a s k (Ok (done c)) h v =
      ap (λ z. checked z x.at (go (depth_behind at x.kind) (machine.filled w c a s k) l)) (same_rule places.again at w u a s k x.at x.kind h.1)
      ∙ through_done d (depth_behind at x.kind) x c l w a s k (broken_rule at x.kind) (h.0 ∙ none_more d)
  through d at u x l w a s k (Ok t) h v =
      ap (λ z. checked z x.at (go (depth_behind at x.kind) (machine.inside w t a s k) l)) (same_rule places.again at w u a s k x.at x.kind h.1)
      ∙ through_open d (depth_behind at x.kind) (opens t + d) x (λ z. go z (machine.inside w t a s k) l) (λ z. filter.run z t l) (filtered d w a s k) (broken_rule at x.kind) h.0 (v t tt)

  -- the machine of surfaces inside a constraint
  pub within : (d : ℕ) (w : Looking) (a s : List Surface) (k : machine.Around) (l : List Lexeme) → Within d w a s k l
  within d w a s k l (done c) n = absurd n
  within d w a s k [] t n = refl
  within d w a s k (x ∷ l) t n = through d (opens t + d) t x l w a s k (step t x.kind) (deep d t x.kind) (within d w a s k l)

  at_start : (d : ℕ) (w : Looking) (a s : List Surface) (k : machine.Around) (l : List Lexeme) → go d (machine.inside w start a s k) l ≡ (filter.run d start l >>= filtered d w a s k)
  at_start d w a s k l = subst (λ (z : ℕ). go z (machine.inside w start a s k) l ≡ (filter.run z start l >>= filtered d w a s k)) (none_more d) (within d w a s k l start tt)

  open_square : (d : ℕ) (x : Lexeme) (l : List Lexeme) (a s : List Surface) (k : machine.Around) (y : LexKind) → y ≡ SquareOpen → x.kind ≡ y →
      go d (machine.atom a s k) (x ∷ l) ≡ go d (machine.inside None start a s k) (x ∷ l)
  open_square d x l a s k y e h =
      ap (λ z. either_way (machine.step_atom z a s k) (λ t. checked (rule_at places.again d (machine.atom a s k) x.at z) x.at (go (depth_behind d z) t l)) (λ j. stopped None (x ∷ l) x.at j)) (h ∙ e)
      ∙ sym (ap (λ z. either_way (machine.carried (constraint.step_start z) None a s k) (λ t. checked (rule_at places.again d (machine.inside None start a s k) x.at z) x.at (go (depth_behind d z) t l)) (λ j. stopped None (x ∷ l) x.at j)) (h ∙ e))

  look_square : (d : ℕ) (x : Lexeme) (l : List Lexeme) (w : Bool × Bool) (a s : List Surface) (k : machine.Around) (y : LexKind) → y ≡ SquareOpen → x.kind ≡ y →
      go d (machine.look w a s k) (x ∷ l) ≡ go d (machine.inside (Some w) start a s k) (x ∷ l)
  look_square d x l w a s k y e h =
      ap (λ z. either_way (machine.step_look z w a s k) (λ t. checked (rule_at places.again d (machine.look w a s k) x.at z) x.at (go (depth_behind d z) t l)) (λ j. stopped None (x ∷ l) x.at j)) (h ∙ e)
      ∙ sym (ap (λ z. either_way (machine.carried (constraint.step_start z) (Some w) a s k) (λ t. checked (rule_at places.again d (machine.inside (Some w) start a s k) x.at z) x.at (go (depth_behind d z) t l)) (λ j. stopped None (x ∷ l) x.at j)) (h ∙ e))

  to_token : (d : ℕ) (x : Lexeme) (l here : List Lexeme) (a s : List Surface) (k : machine.Around) → here ≡ x ∷ l → x.kind ≡ SquareOpen →
      go d (machine.atom a s k) here ≡ (filter.run d start here >>= filtered d None a s k)
  to_token d x l here a s k e h = ap (go d (machine.atom a s k)) e ∙ open_square d x l a s k SquareOpen refl h ∙ sym (ap (go d (machine.inside None start a s k)) e) ∙ at_start d None a s k here

  to_look : (d : ℕ) (x : Lexeme) (l here : List Lexeme) (w : Bool × Bool) (a s : List Surface) (k : machine.Around) → here ≡ x ∷ l → x.kind ≡ SquareOpen →
      go d (machine.look w a s k) here ≡ (filter.run d start here >>= filtered d (Some w) a s k)
  to_look d x l here w a s k e h = ap (go d (machine.look w a s k)) e ∙ look_square d x l w a s k SquareOpen refl h ∙ sym (ap (go d (machine.inside (Some w) start a s k)) e) ∙ at_start d (Some w) a s k here

  pub token_read : (d : ℕ) (x : Lexeme) (l here rest : List Lexeme) (c : Constraint) (a s : List Surface) (k : machine.Around) → here ≡ x ∷ l → x.kind ≡ SquareOpen →
      filter.run d start here ≡ Ok (c, rest) → go d (machine.atom a s k) here ≡ go d (machine.filled None c a s k) rest
  token_read d x l here rest c a s k e h g = to_token d x l here a s k e h ∙ ap (λ z. z >>= filtered d None a s k) g

  pub look_read : (d : ℕ) (x : Lexeme) (l here rest : List Lexeme) (w : Bool × Bool) (c : Constraint) (a s : List Surface) (k : machine.Around) → here ≡ x ∷ l → x.kind ≡ SquareOpen →
      filter.run d start here ≡ Ok (c, rest) → go d (machine.look w a s k) here ≡ go d (machine.filled (Some w) c a s k) rest
  look_read d x l here rest w c a s k e h g = to_look d x l here w a s k e h ∙ ap (λ z. z >>= filtered d (Some w) a s k) g

  abbrev no_constraint : PatternFault → Result (Constraint × ℕ) PatternFault
  no_constraint f = Err f

  abbrev no_value : {X : Type 0} → PatternFault → Result X PatternFault
  no_value f = Err f

  pub token_fails : {X : Type 0} → (f : PatternFault) (d : ℕ) (x : Lexeme) (l here : List Lexeme) (a s : List Surface) (k : machine.Around) (on : Constraint × ℕ → Reading) (to : X → Outcome Lexeme Left) → here ≡ x ∷ l → x.kind ≡ SquareOpen →
      GoesOn (no_constraint f) (filter.run d start here) on → GoesOn {Y = X} (no_value f) (go d (machine.atom a s k) here) to
  token_fails fault.NoMemory d x l here a s k on to e h g = tt
  token_fails (fault.Bad at j) d x l here a s k on to e h g = to_token d x l here a s k e h ∙ ap (λ z. z >>= filtered d None a s k) g

  pub look_fails : (f : PatternFault) (d : ℕ) (x : Lexeme) (l here : List Lexeme) (w : Bool × Bool) (a s : List Surface) (k : machine.Around) (on : Constraint × ℕ → Reading) (to : Constraint × ℕ → Outcome Lexeme Left) → here ≡ x ∷ l → x.kind ≡ SquareOpen →
      GoesOn (no_constraint f) (filter.run d start here) on → GoesOn (no_constraint f) (go d (machine.look w a s k) here) to
  look_fails fault.NoMemory d x l here w a s k on to e h g = tt
  look_fails (fault.Bad at j) d x l here w a s k on to e h g = to_look d x l here w a s k e h ∙ ap (λ z. z >>= filtered d (Some w) a s k) g
