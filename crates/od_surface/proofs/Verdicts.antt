-- What the parser answers is what a text is read as.
use Rattle.std.proofs.Common.{◌≡◌, ℕ, Bool, true, false, nat_lt, if◌then◌else◌, List, [], ◌∷◌, Option, Some, None, Result, Ok, Err, refl, sym, ◌∙◌, ap, subst, ◌⊎◌, inl, inr, IfOk, drop, drop-drop, ◌+◌}
use Rattle.od_pattern.specs.declared.pattern.Surface.{Surface}
use Rattle.od_language.specs.declared.pattern_fault.PatternKind.{PatternKind}
use Rattle.od_language.specs.declared.pattern_fault.PatternKind.TheVariants as kind
use Rattle.od_language.specs.declared.pattern_fault.PatternFault.{PatternFault}
use Rattle.od_language.specs.declared.pattern_fault.PatternFault.TheVariants as fault
use Rattle.od_language.specs.declared.lexeme.Miss.{Miss}
use Rattle.od_language.specs.declared.lexeme.Lexeme.{Lexeme}
use Rattle.od_language.specs.Alphabet.{plain}
use Rattle.od_language.specs.Answers.{IfBad, Refuses}
use Rattle.od_language.specs.Lexed.{lexed_from, Lexemes}
use Rattle.od_language.specs.Machine.{GoesOn, Outcome}
use Rattle.od_language.specs.Whole.{OneOf}
use Rattle.od_language.specs.WholeRuns.{Verdict, to_the_end, before_stuck, sized, IsVerdict}
use Rattle.od_syntax.specs.Sizes.{surface_size}
use Rattle.od_syntax.specs.Texts.{stuck_at, IsSurfaceText, IsSurfaceTextFault}
use Rattle.od_syntax.specs.Verdicts.{surface_at, surface_of, surface_start}
use Rattle.od_syntax.proofs.Verdicts.{surface_texts_are_computed}
use Rattle.od_syntax.specs.SurfaceMachine.{State, top, whole}
use Rattle.od_surface.specs.declared.lexemes.Places.{Places}
use Rattle.od_surface.specs.declared.single.Found.{Found}
use Rattle.od_surface.specs.declared.text.Measured.{Measured}
use Rattle.od_surface.specs.Again.{Marks}
use Rattle.od_surface.specs.Answers.{Tells, GivesValue, unless_stuck}
use Rattle.od_surface.specs.Reading.{run, whole_of, of_text, place_or}
use Rattle.od_surface.proofs.Machines.{same_run, go}

-- ## Any text

module _ {C : Type 0} (Value : C → Type 0) (Fault : ℕ → PatternKind → Type 0) (v : Verdict C) (is : IsVerdict Value Fault v) where
  abbrev good : C → Verdict C
  good c = Ok c

  abbrev bad : ℕ → PatternKind → Verdict C
  bad at k = Err (at, k)

  some_by : (q : Verdict C) → v ≡ q → ((c : C) × Value c) ⊎ ((at : ℕ) × (k : PatternKind) × Fault at k)
  some_by (Ok c) e = inl (c, (is.value c).1 e)
  some_by (Err (at, k)) e = inr (at, k, (is.fault at k).1 e)

  apart : (c : C) (at : ℕ) (k : PatternKind) → good c ≡ v → bad at k ≡ v → ⊥
  apart c at k e f = absurd (cc)

  same_value : (b c : C) → good b ≡ v → good c ≡ v → b ≡ c
  same_value b c e f = cc

  abbrev fault_or : ℕ × PatternKind → Verdict C → ℕ × PatternKind
  fault_or f (Ok c) = f
  fault_or f (Err e) = e

  same_fault : (p q : ℕ) (j k : PatternKind) → bad p j ≡ v → bad q k ≡ v → (p ≡ q) × (j ≡ k)
  same_fault p q j k e f = let same = ap (fault_or (p, j)) (e ∙ sym f) in (ap (λ z. z.0) same, ap (λ z. z.1) same)

  -- what is computed is the one answer
  pub one_of : OneOf Value Fault
  one_of = record {
    some = some_by v refl;
    apart = λ c at k x f. apart c at k (sym ((is.value c).0 x)) (sym ((is.fault at k).0 f));
    value = λ b c x y. same_value b c (sym ((is.value b).0 x)) (sym ((is.value c).0 y));
    fault = λ p q j k f g. same_fault p q j k (sym ((is.fault p j).0 f)) (sym ((is.fault q k).0 g));
  }

  -- a value is the text's
  pub tells_value : (q : Result C PatternFault) → Tells (λ c. c) q v → IfOk q Value
  tells_value (Ok c) t = (is.value c).1 t
  tells_value (Err e) t = tt

  -- a fault is the first one
  pub tells_fault : (q : Result C PatternFault) → Tells (λ c. c) q v → IfBad q Fault
  tells_fault (Ok c) t = tt
  tells_fault (Err fault.NoMemory) t = tt
  tells_fault (Err (fault.Bad at k)) t = (is.fault at k).1 t

  pub tells_only_value : (q : Result C PatternFault) → Tells (λ c. c) q v → (c : C) → Value c → GivesValue q c
  tells_only_value (Ok b) t c x = same_value b c (sym t) (sym ((is.value c).0 x))
  tells_only_value (Err fault.NoMemory) t c x = tt
  tells_only_value (Err (fault.Bad at k)) t c x = apart c at k (sym ((is.value c).0 x)) (sym t)

  pub tells_only_fault : (q : Result C PatternFault) → Tells (λ c. c) q v → (at : ℕ) (k : PatternKind) → Fault at k → Refuses q at k
  tells_only_fault (Ok b) t at k f = apart b at k (sym t) (sym ((is.fault at k).0 f))
  tells_only_fault (Err fault.NoMemory) t at k f = tt
  tells_only_fault (Err (fault.Bad b j)) t at k f = same_fault b at j k (sym t) (sym ((is.fault at k).0 f))

-- an answer is told of an equal verdict
pub tells_by : {A C : Type 0} → (value : A → C) (q : Result A PatternFault) (v w : Verdict C) → v ≡ w → Tells value q w → Tells value q v
tells_by value q v w e t = subst (Tells value q) (sym e) t

earlier_by : {A C : Type 0} → (value : A → C) (at place : ℕ) (k : PatternKind) (b : Bool) →
    Tells value (if b then Err (fault.Bad at k) else Err (fault.Bad place kind.Lex)) (if b then Err (at, k) else Err (place, kind.Lex))
earlier_by value at place k true = refl
earlier_by value at place k false = refl

-- the first of the parser's answer and the lexer's fault
pub stuck_tells : {A C : Type 0} → (value : A → C) (o : Option ℕ) (q : Result A PatternFault) (v : Verdict C) → Tells value q v → Tells value (unless_stuck o q) (before_stuck o v)
stuck_tells value None q v t = t
stuck_tells value (Some place) (Ok x) v t = ap (before_stuck (Some place)) t
stuck_tells value (Some place) (Err fault.NoMemory) v t = tt
stuck_tells value (Some place) (Err (fault.Bad at k)) v t =
    subst (λ (z : Verdict _). Tells value (if nat_lt at place then Err (fault.Bad at k) else Err (fault.Bad place kind.Lex)) (before_stuck (Some place) z)) (sym t)
    (earlier_by value at place k (nat_lt at place))

-- ## Surface patterns

abbrev none_measured : PatternFault → Result Measured PatternFault
none_measured f = Err f

-- what characters at a place are read as, by the parser's machine
pub verdict_is : (at : ℕ) (cs : List ℕ) (l items : List Lexeme) (f : Option (ℕ × Miss)) (again : Option ℕ) → lexed_from at cs ≡ (items, f) → l ≡ items → Marks again [] l →
    surface_at at cs ≡ before_stuck (stuck_at f) (to_the_end plain (whole_of (run (of_text again) 0 surface_start l)))
verdict_is at cs l items f again e same m =
    ap (λ (z : Lexemes). before_stuck (stuck_at z.1) (to_the_end plain (go [] surface_start z.0))) e
    ∙ ap (λ (z : List Lexeme). before_stuck (stuck_at f) (to_the_end plain (go [] surface_start z))) (sym same)
    ∙ ap (λ o. before_stuck (stuck_at f) (to_the_end plain o)) (sym (same_run again l m))

-- a surface pattern with nothing around it is whole
end_whole : (places : Places) (p : Surface) (l : List Lexeme) → whole_of (run places 0 (whole p top) l) ≡ Ok (p, l)
end_whole places p [] = refl
end_whole places p (x ∷ l) = refl

abbrev read_so : Surface → List Lexeme → Outcome Lexeme Surface
read_so p r = Ok (p, r)

two : (p : Surface) (r m : List Lexeme) (x : Lexeme) → drop 1 r ≡ x ∷ m → to_the_end plain (read_so p r) ≡ Err (place_or 0 r, kind.Expected)
two p [] m x h = absurd (cc)
two p (y ∷ []) m x h = absurd (cc)
two p (y ∷ z ∷ r) m x h = refl

one : (p : Surface) (r : List Lexeme) → drop 1 r ≡ [] → to_the_end plain (read_so p r) ≡ Ok p
one p [] h = refl
one p (y ∷ []) h = refl
one p (y ∷ z ∷ r) h = absurd (cc)

-- another lexeme stands behind the next one
pub not_ended : (o : Outcome Lexeme Surface) (p : Surface) (n : ℕ) (l m : List Lexeme) (x : Lexeme) → o ≡ Ok (p, drop n l) → drop (n + 1) l ≡ x ∷ m → to_the_end plain o ≡ Err (place_or 0 (drop n l), kind.Expected)
not_ended o p n l m x e h = ap (to_the_end plain) e ∙ two p (drop n l) m x (drop-drop 1 n l ∙ h)

-- nothing stands behind the next one
pub all_read : (o : Outcome Lexeme Surface) (p : Surface) (n : ℕ) (l : List Lexeme) → o ≡ Ok (p, drop n l) → drop (n + 1) l ≡ [] → to_the_end plain o ≡ Ok p
all_read o p n l e h = ap (to_the_end plain) e ∙ one p (drop n l) (drop-drop 1 n l ∙ h)

pub refused_so : (f g : PatternFault) (v : Verdict Surface) → f ≡ g → Tells (λ x. x.pattern) (none_measured g) v → Tells (λ x. x.pattern) (none_measured f) v
refused_so f g v e t = subst (λ (z : PatternFault). Tells (λ x. x.pattern) (none_measured z) v) (sym e) t

pub whole_goes : (places : Places) (q : Result Found PatternFault) (here there lexemes : List Lexeme) (s : State) → run places 0 surface_start here ≡ run places 0 s there →
    GoesOn q (run places 0 s there) (λ x. run places 0 (whole x.pattern top) (drop x.to lexemes)) →
    GoesOn q (whole_of (run places 0 surface_start here)) (λ x. Ok (x.pattern, drop x.to lexemes))
whole_goes places (Ok x) here there lexemes s e g = ap whole_of (e ∙ g) ∙ end_whole places x.pattern (drop x.to lexemes)
whole_goes places (Err fault.NoMemory) here there lexemes s e g = tt
whole_goes places (Err (fault.Bad at k)) here there lexemes s e g = ap whole_of (e ∙ g)

-- the answer at a place
pub surface_tells : (at : ℕ) (cs : List ℕ) (l items : List Lexeme) (f : Option (ℕ × Miss)) (again : Option ℕ) (q answer : Result Measured PatternFault) →
    lexed_from at cs ≡ (items, f) → l ≡ items → Marks again [] l → q ≡ unless_stuck (stuck_at f) answer →
    Tells (λ x. x.pattern) answer (to_the_end plain (whole_of (run (of_text again) 0 surface_start l))) → Tells (λ x. x.pattern) q (surface_at at cs)
surface_tells at cs l items f again q answer e same m is t =
    subst (λ (z : Result Measured PatternFault). Tells (λ x. x.pattern) z (surface_at at cs)) (sym is)
    (tells_by (λ x. x.pattern) (unless_stuck (stuck_at f) answer) (surface_at at cs) (before_stuck (stuck_at f) (to_the_end plain (whole_of (run (of_text again) 0 surface_start l))))
    (verdict_is at cs l items f again e same m)
    (stuck_tells (λ x. x.pattern) (stuck_at f) answer (to_the_end plain (whole_of (run (of_text again) 0 surface_start l))) t))

abbrev one_fault : {A : Type 0} → PatternFault → PatternFault → Bool → Result A PatternFault
one_fault f g b = if b then Err f else Err g

neither : {A : Type 0} (P : A → Type 0) (f g : PatternFault) (b : Bool) → IfOk (one_fault f g b) P
neither P f g true = tt
neither P f g false = tt

unless_keeps : {A : Type 0} (P : A → Type 0) (o : Option ℕ) (answer : Result A PatternFault) → IfOk answer P → IfOk (unless_stuck o answer) P
unless_keeps P None answer h = h
unless_keeps P (Some place) (Ok x) h = tt
unless_keeps P (Some place) (Err fault.NoMemory) h = tt
unless_keeps P (Some place) (Err (fault.Bad at k)) h = neither P (fault.Bad at k) (fault.Bad place kind.Lex) (nat_lt at place)

pub still : {A : Type 0} (P : A → Type 0) (o : Option ℕ) (q answer : Result A PatternFault) → q ≡ unless_stuck o answer → IfOk answer P → IfOk q P
still P o q answer e h = subst (λ (z : Result _ PatternFault). IfOk z P) (sym e) (unless_keeps P o answer h)

-- the answer with its size
pub sized_tells : (q : Result Surface PatternFault) (m : Measured) (v : Verdict Surface) → v ≡ Ok m.pattern → Tells (λ p. p) q (sized surface_size (Ok m.pattern)) → Tells (λ p. p) q (sized surface_size v)
sized_tells q m v e t = tells_by (λ p. p) q (sized surface_size v) (sized surface_size (Ok m.pattern)) (ap (sized surface_size) e) t

abbrev none_read : PatternFault → Result Surface PatternFault
none_read f = Err f

pub sized_fails : (f : PatternFault) (v : Verdict Surface) → Tells (λ x. x.pattern) (none_measured f) v → Tells (λ p. p) (none_read f) (sized surface_size v)
sized_fails fault.NoMemory v t = tt
sized_fails (fault.Bad at k) v t = ap (sized surface_size) t

-- what a text has, which is read so
module _ (cs : List ℕ) (q : Result Surface PatternFault) (t : Tells (λ p. p) q (surface_of cs)) where
  pub surface_value : IfOk q (IsSurfaceText cs)
  surface_value = tells_value (IsSurfaceText cs) (IsSurfaceTextFault cs) (surface_of cs) (surface_texts_are_computed cs) q t

  pub surface_fault : IfBad q (IsSurfaceTextFault cs)
  surface_fault = tells_fault (IsSurfaceText cs) (IsSurfaceTextFault cs) (surface_of cs) (surface_texts_are_computed cs) q t

  pub surface_only_value : (p : Surface) → IsSurfaceText cs p → GivesValue q p
  surface_only_value = tells_only_value (IsSurfaceText cs) (IsSurfaceTextFault cs) (surface_of cs) (surface_texts_are_computed cs) q t

  pub surface_only_fault : (at : ℕ) (k : PatternKind) → IsSurfaceTextFault cs at k → Refuses q at k
  surface_only_fault = tells_only_fault (IsSurfaceText cs) (IsSurfaceTextFault cs) (surface_of cs) (surface_texts_are_computed cs) q t

pub one_surface : (cs : List ℕ) → OneOf (IsSurfaceText cs) (IsSurfaceTextFault cs)
one_surface cs = one_of (IsSurfaceText cs) (IsSurfaceTextFault cs) (surface_of cs) (surface_texts_are_computed cs)
