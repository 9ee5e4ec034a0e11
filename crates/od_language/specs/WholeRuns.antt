-- A whole text as a value: what its lexemes are read as, up to the end, or the first fault.
use Rattle.std.specs.Prelude.{◌≡◌, ◌↔◌, ℕ, nat_lt, if◌then◌else◌, [], ◌∷◌, Option, Some, None, Result, Ok, Err}
use Rattle.od_language.specs.declared.limits.TheConstants.{PATTERN_SIZE}
use Rattle.od_language.specs.declared.pattern_fault.PatternKind.{PatternKind}
use Rattle.od_language.specs.declared.pattern_fault.PatternKind.TheVariants as kind
use Rattle.od_language.specs.Alphabet.{Alphabet}
use Rattle.od_language.specs.Machine.{Outcome}

-- a value, or the first fault with its place
abbrev pub Verdict : Type 0 → Type 0
Verdict C = Result C (ℕ × PatternKind)

-- behind a value one lexeme is left, which is the end; another that is left is not expected
abbrev pub to_the_end : {X K C : Type 0} → Alphabet X K → Outcome X C → Verdict C
to_the_end a (Ok (c, [])) = Ok c
to_the_end a (Ok (c, x ∷ [])) = Ok c
to_the_end a (Ok (c, x ∷ y ∷ l)) = Err (a.place x, kind.Expected)
to_the_end a (Err e) = Err e

-- the first of the parser's verdict and the lexer's fault
abbrev pub before_stuck : {C : Type 0} → Option ℕ → Verdict C → Verdict C
before_stuck None v = v
before_stuck (Some at) (Ok c) = Err (at, kind.Lex)
before_stuck (Some at) (Err e) = if nat_lt e.0 at then Err e else Err (at, kind.Lex)

-- a value that is not too big
abbrev pub sized : {C : Type 0} → (C → ℕ) → Verdict C → Verdict C
sized size (Ok c) = if nat_lt PATTERN_SIZE (size c) then Err (0, kind.TooBig) else Ok c
sized size (Err e) = Err e

-- The verdict is the value exactly where there is one, and the fault exactly where there is one.
pub record IsVerdict {C : Type 0} (Value : C → Type 0) (Fault : ℕ → PatternKind →
    Type 0) (verdict : Verdict C) : Type 0 where
  pub value : (c : C) → Value c ↔ (verdict ≡ Ok c)
  pub fault : (at : ℕ) (k : PatternKind) → Fault at k ↔ (verdict ≡ Err (at, k))
