-- What is said of an answer of the program, which may be that memory was refused; no definition of the
-- language knows of memory.
use Rattle.std.specs.Prelude.{◌≡◌, ℕ, List, Result, Ok, Err, Vec, ◌⊎◌}
use Rattle.std.specs.Global.{Global}
use Rattle.od_language.specs.declared.lexeme.Miss.{Miss}
use Rattle.od_language.specs.declared.lexeme.Miss.TheVariants.{BadChar, OpenText, OpenRegex, BadNumber}
use Rattle.od_language.specs.declared.lexeme.Lexeme.{Lexeme}
use Rattle.od_language.specs.declared.lexeme.LexFault.{LexFault}
use Rattle.od_language.specs.declared.lexeme.LexFault.TheVariants as lex
use Rattle.od_language.specs.declared.pattern_fault.PatternKind.{PatternKind}
use Rattle.od_language.specs.declared.pattern_fault.PatternFault.{PatternFault}
use Rattle.od_language.specs.declared.pattern_fault.PatternFault.TheVariants as fault

-- what is said of a fault, where one is the answer
abbrev pub IfBad : {X : Type 0} → Result X PatternFault → (ℕ → PatternKind → Type 0) → Type 0
IfBad (Ok x) P = Unit {0}
IfBad (Err fault.NoMemory) P = Unit {0}
IfBad (Err (fault.Bad at k)) P = P at k

-- the answer is this value and the place behind it, or memory was refused
abbrev pub Gives : {C : Type 0} → Result (C × ℕ) PatternFault → C → ℕ → Type 0
Gives (Ok x) value to = (x.0 ≡ value) × (x.1 ≡ to)
Gives (Err fault.NoMemory) value to = Unit {0}
Gives (Err (fault.Bad at k)) value to = ⊥

-- the answer is this fault at this place, or memory was refused
abbrev pub Refuses : {C : Type 0} → Result C PatternFault → ℕ → PatternKind → Type 0
Refuses (Ok x) at k = ⊥
Refuses (Err fault.NoMemory) at k = Unit {0}
Refuses (Err (fault.Bad b j)) at k = (b ≡ at) × (j ≡ k)

-- the fault that tells what is wrong at a place
abbrev pub lex_fault : ℕ → Miss → LexFault
lex_fault at BadChar = lex.BadChar at
lex_fault at OpenText = lex.OpenText at
lex_fault at OpenRegex = lex.OpenRegex at
lex_fault at BadNumber = lex.BadNumber at

-- what is said of a lexer's fault, where one is the answer
abbrev pub IfMiss : {X : Type 0} → Result X LexFault → (ℕ → Miss → Type 0) → Type 0
IfMiss (Ok x) P = Unit {0}
IfMiss (Err lex.NoMemory) P = Unit {0}
IfMiss (Err (lex.BadChar at)) P = P at BadChar
IfMiss (Err (lex.OpenText at)) P = P at OpenText
IfMiss (Err (lex.OpenRegex at)) P = P at OpenRegex
IfMiss (Err (lex.BadNumber at)) P = P at BadNumber

-- the answer is these lexemes, or memory was refused
abbrev pub GivesLexemes : Result (Vec Lexeme Global) LexFault → List Lexeme → Type 0
GivesLexemes (Ok v) xs = v.items ≡ xs
GivesLexemes (Err f) xs = f ≡ lex.NoMemory

-- the answer is this fault, or memory was refused
abbrev pub RefusesText : Result (Vec Lexeme Global) LexFault → ℕ → Miss → Type 0
RefusesText (Ok v) at m = ⊥
RefusesText (Err f) at m = (f ≡ lex.NoMemory) ⊎ (f ≡ lex_fault at m)
