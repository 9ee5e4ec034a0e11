-- Paths read one lexeme at a time, with the rules: what the contracts of the parser's parts speak of.
use Rattle.std.specs.Prelude.{ℕ, ◌-◌, ◌≤◌, List, [], ◌∷◌, drop}
use Rattle.od_pattern.specs.declared.path.Path.{Path}
use Rattle.od_pattern.specs.declared.path.Path.TheVariants as path
use Rattle.od_language.specs.declared.pattern_fault.PatternKind.{PatternKind}
use Rattle.od_language.specs.declared.lexeme.Lexeme.{Lexeme}
use Rattle.od_language.specs.declared.lexeme.LexKind.{LexKind}
use Rattle.od_language.specs.Alphabet.{plain}
use Rattle.od_language.specs.Depth.{depth_behind, broken_rule, BreaksRule}
use Rattle.od_language.specs.FirstFault.{IsRead, IsFault, OneAnswer}
use Rattle.od_language.specs.Machine.{Outcome, walk}
use Rattle.od_syntax.specs.PathMachine.{State, step, ended}
use Rattle.od_syntax.specs.Paths.{Paths}
use Rattle.od_syntax.specs.Sizes.{path_size}

-- the path and the lexemes behind it, or a fault, where so many brackets are open
abbrev pub run : ℕ → State → List Lexeme → Outcome Lexeme Path
run = walk plain step broken_rule depth_behind ended

-- what is said of the first lexeme, where there is one
abbrev pub Next : (LexKind → Type 0) → List Lexeme → Type 0
Next P [] = Unit {0}
Next P (x ∷ l) = P x.kind

-- a lexeme comes, and this is said of it
abbrev pub Comes : (LexKind → Type 0) → List Lexeme → Type 0
Comes P [] = ⊥
Comes P (x ∷ l) = P x.kind

-- lexemes before which so many brackets are open begin with this path, of so many lexemes
abbrev pub IsPathRead : ℕ → List Lexeme → Path → ℕ → Type 0
IsPathRead opened = IsRead plain Paths (BreaksRule opened)

-- the first fault of lexemes that begin with none
abbrev pub IsPathFault : ℕ → List Lexeme → ℕ → PatternKind → Type 0
IsPathFault opened = IsFault plain Paths (BreaksRule opened)

-- exactly one of the two
abbrev pub OnePath : ℕ → List Lexeme → Type 0
OnePath opened = OneAnswer plain Paths (BreaksRule opened)

-- the lexemes from a place on begin with this path, up to the place `to`
abbrev pub IsPathFrom : ℕ → List Lexeme → ℕ → Path → ℕ → Type 0
IsPathFrom opened lexemes from p to =
    (from ≤ to) × IsPathRead opened (drop from lexemes) p (to - from)

-- the size of parts one after another, and that of choices
unfoldable pub sequence_size : List Path → ℕ
sequence_size ps = path_size (path.Seq ps)

unfoldable pub alternation_size : List Path → ℕ
alternation_size ps = path_size (path.Alt ps)
