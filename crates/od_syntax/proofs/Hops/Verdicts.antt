-- The computed verdicts of hops are those of the definitions, and each text has one.
use Rattle.std.proofs.Common.{◌≡◌, ℕ, Bool, true, false, if◌then◌else◌, List, [], ◌∷◌, Ok, Err, refl, sym, ◌∙◌, ap, ◌⊎◌, inl, inr}
use Rattle.od_language.specs.declared.lexeme.Lexeme.{Lexeme}
use Rattle.od_language.specs.declared.lexeme.LexKind.{LexKind}
use Rattle.od_language.specs.declared.lexeme.LexKind.TheVariants.{RoundOpen}
use Rattle.od_language.specs.declared.pattern_fault.PatternKind.{PatternKind}
use Rattle.od_language.specs.Alphabet.{plain, kinds, HasOneEnd}
use Rattle.od_language.specs.Lexed.{lexed_from}
use Rattle.od_language.specs.Whole.{OneOf}
use Rattle.od_language.specs.WholeRuns.{Verdict, IsVerdict}
use Rattle.od_language.proofs.Lexing.Readings.{computed, ends_once}
use Rattle.od_language.proofs.WholeRuns.{whole_verdict, sized_verdict}
use Rattle.od_syntax.specs.HopMachine.{step, ended}
use Rattle.od_syntax.specs.Hops.{Hops, BreaksHop}
use Rattle.od_syntax.specs.HopVerdicts.{hop_start, hop_rule, hop_of, HopsAreComputed, HopTextsAreComputed, HopTextsHaveOneAnswer}
use Rattle.od_syntax.specs.Sizes.{may_always, hop_size}
use Rattle.od_syntax.specs.Texts.{stuck_at, IsHopText, IsHopTextFault}
use Rattle.od_syntax.specs.Told.{lexeme, steps_open, told_apart, in_constraint, leads_to_steps, told_of, told_from, told, untold}
use Rattle.od_syntax.proofs.Hops.Rules.{hop_reader}
use Rattle.od_syntax.proofs.Steps.Answer.{told_end}

untold_bracket : (b : Bool) → untold (if b then steps_open else lexeme RoundOpen) ≡ RoundOpen
untold_bracket true = refl
untold_bracket false = refl

untold_told : (within : Bool) (x : LexKind) (more : List LexKind) → untold (told_of within x more) ≡ x
untold_told false RoundOpen more = untold_bracket (leads_to_steps more)
untold_told within x more = refl

told_once : (within : Bool) (l : List Lexeme) → HasOneEnd plain l → HasOneEnd told_apart (told_from within l)
told_once within [] h = h
told_once within (x ∷ []) h = ap (λ (z : LexKind). told_of within z []) h ∙ told_end within
told_once within (x ∷ y ∷ l) h = (
  λ e. h.0 (sym (untold_told within x.kind (kinds plain (y ∷ l))) ∙ ap untold e),
  told_once (in_constraint within x.kind) (y ∷ l) h.1,
)

lexed_once : (at : ℕ) (cs : List ℕ) → HasOneEnd told_apart (told (lexed_from at cs).0)
lexed_once at cs = told_once false (lexed_from at cs).0 (ends_once at cs (lexed_from at cs).0 (lexed_from at cs).1 (computed at cs))

pub hops_are_computed : HopsAreComputed
hops_are_computed at cs = whole_verdict told_apart (Hops may_always) BreaksHop hop_start (step may_always) hop_rule ended
    hop_reader (told (lexed_from at cs).0) (lexed_once at cs) (stuck_at (lexed_from at cs).1)

pub hop_texts_are_computed : HopTextsAreComputed
hop_texts_are_computed cs = sized_verdict told_apart (Hops may_always) BreaksHop hop_start (step may_always) hop_rule ended
    hop_reader (told (lexed_from 0 cs).0) (lexed_once 0 cs) (stuck_at (lexed_from 0 cs).1) hop_size

module _ {C : Type 0} (Value : C → Type 0) (Fault : ℕ → PatternKind → Type 0) (v : Verdict C) (is : IsVerdict Value Fault v) where
  abbrev good : C → Verdict C
  good c = Ok c

  abbrev bad : ℕ → PatternKind → Verdict C
  bad at k = Err (at, k)

  some_by : (q : Verdict C) → v ≡ q → ((c : C) × Value c) ⊎ ((at : ℕ) × (k : PatternKind) × Fault at k)
  some_by (Ok c) e = inl (c, (is.value c).1 e)
  some_by (Err (at, k)) e = inr (at, k, (is.fault at k).1 e)

  apart : (c : C) (at : ℕ) (k : PatternKind) → good c ≡ v → bad at k ≡ v → ⊥
  apart c at k e f = absurd (cc)

  same_value : (b c : C) → good b ≡ v → good c ≡ v → b ≡ c
  same_value b c e f = cc

  -- the parts of a fault, or these
  abbrev fault_or : ℕ × PatternKind → Verdict C → ℕ × PatternKind
  fault_or f (Ok c) = f
  fault_or f (Err e) = e

  same_fault : (p q : ℕ) (j k : PatternKind) → bad p j ≡ v → bad q k ≡ v → (p ≡ q) × (j ≡ k)
  same_fault p q j k e f = let same = ap (fault_or (p, j)) (e ∙ sym f) in (ap (λ z. z.0) same, ap (λ z. z.1) same)

  -- what is computed is the one answer
  one_of : OneOf Value Fault
  one_of = record {
    some = some_by v refl;
    apart = λ c at k x f. apart c at k (sym ((is.value c).0 x)) (sym ((is.fault at k).0 f));
    value = λ b c x y. same_value b c (sym ((is.value b).0 x)) (sym ((is.value c).0 y));
    fault = λ p q j k f g. same_fault p q j k (sym ((is.fault p j).0 f)) (sym ((is.fault q k).0 g));
  }

pub hop_texts_have_one_answer : HopTextsHaveOneAnswer
hop_texts_have_one_answer cs = one_of (IsHopText cs) (IsHopTextFault cs) (hop_of cs) (hop_texts_are_computed cs)
