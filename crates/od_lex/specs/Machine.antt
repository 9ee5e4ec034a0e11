-- A constraint read one lexeme at a time, with the rules: what the contracts of the parser's parts
-- speak of.
use Rattle.std.specs.Prelude.{◌≡◌, ℕ, ◌+◌, ◌-◌, ◌<◌, ◌≤◌, drop, length, List, [], ◌∷◌, Option, Some, None, Result, Ok, Err}
use Rattle.od_pattern.specs.declared.pattern.Constraint.{Constraint}
use Rattle.od_language.specs.declared.pattern_fault.PatternKind.{PatternKind}
use Rattle.od_language.specs.declared.pattern_fault.PatternKind.TheVariants as kind
use Rattle.od_language.specs.declared.pattern_fault.PatternFault.{PatternFault}
use Rattle.od_language.specs.declared.pattern_fault.PatternFault.TheVariants as fault
use Rattle.od_language.specs.declared.lexeme.Lexeme.{Lexeme}
use Rattle.od_language.specs.declared.lexeme.LexKind.{LexKind}
use Rattle.od_language.specs.declared.lexeme.LexKind.TheVariants.{And, Or, Not}
use Rattle.od_language.specs.ConstraintMachine.{State, done, step}
use Rattle.od_language.specs.Constraints.{IsConstraintRead}
use Rattle.od_language.specs.Depth.{depth_behind, broken_rule}
use Rattle.od_language.specs.Machine.{◌>>=◌, Outcome}

-- the constraint and the lexemes behind it, or a fault
abbrev pub Reading : Type 0
Reading = Outcome Lexeme Constraint

-- a fault with its place
abbrev pub marked : {A : Type 0} → ℕ → Result A PatternKind → Result A (ℕ × PatternKind)
marked at (Ok x) = Ok x
marked at (Err k) = Err (at, k)

-- a rule that is broken, with its place
abbrev pub unbroken : ℕ → Option PatternKind → Result (Unit {0}) (ℕ × PatternKind)
unbroken at None = Ok tt
unbroken at (Some k) = Err (at, k)

-- with the rules of each lexeme, up to the end of the constraint
abbrev pub run : ℕ → State → List Lexeme → Reading
run d (done c) l = Ok (c, l)
run d s [] = Err (0, kind.Expected)
run d s (x ∷ l) =
    marked x.at (step s x.kind) >>= λ t. unbroken x.at (broken_rule d x.kind) >>= λ _. run (depth_behind d x.kind) t l

-- the place of the first lexeme
abbrev pub place_of : List Lexeme → ℕ
place_of [] = 0
place_of (x ∷ l) = x.at

-- this constraint, or memory was refused
abbrev pub Makes : Result Constraint PatternFault → Constraint → Type 0
Makes (Ok c) made = c ≡ made
Makes (Err e) made = e ≡ fault.NoMemory

-- no `and` goes on
abbrev pub NoAnd : List Lexeme → Type 0
NoAnd [] = Unit {0}
NoAnd (x ∷ l) = x.kind ≡ And → ⊥

-- no `or` goes on
abbrev pub NoOr : List Lexeme → Type 0
NoOr [] = Unit {0}
NoOr (x ∷ l) = x.kind ≡ Or → ⊥

-- no `!` comes
abbrev pub NoNot : List Lexeme → Type 0
NoNot [] = Unit {0}
NoNot (x ∷ l) = x.kind ≡ Not → ⊥

-- a lexeme of this kind stands at a place
abbrev pub IsAhead : LexKind → ℕ → List Lexeme → Type 0
IsAhead k i lexemes =
    (x : Lexeme) × (drop i lexemes ≡ x ∷ drop (i + 1) lexemes) × (x.kind ≡ k) × (i < length lexemes)

-- the lexemes from a place on begin with this constraint, up to the place `to`
abbrev pub IsReadFrom : ℕ → List Lexeme → ℕ → Constraint → ℕ → Type 0
IsReadFrom opened lexemes from c to =
    (from ≤ to) × IsConstraintRead opened (drop from lexemes) c (to - from)
