-- Constraints at the front of lexemes before which `opened` brackets are open.
use Rattle.std.specs.Prelude.{ℕ, List}
use Rattle.od_pattern.specs.declared.pattern.Constraint.{Constraint}
use Rattle.od_language.specs.declared.pattern_fault.PatternKind.{PatternKind}
use Rattle.od_language.specs.declared.lexeme.Lexeme.{Lexeme}
use Rattle.od_language.specs.Alphabet.{plain}
use Rattle.od_language.specs.Depth.{BreaksRule}
use Rattle.od_language.specs.FirstFault.{IsRead, IsFault, OneAnswer}
use Rattle.od_language.specs.Grammar.{IsConstraint}

-- the lexemes begin with this constraint, of so many lexemes
abbrev pub IsConstraintRead : ℕ → List Lexeme → Constraint → ℕ → Type 0
IsConstraintRead opened = IsRead plain IsConstraint (BreaksRule opened)

-- the first fault of lexemes that begin with none
abbrev pub IsConstraintFault : ℕ → List Lexeme → ℕ → PatternKind → Type 0
IsConstraintFault opened = IsFault plain IsConstraint (BreaksRule opened)

-- they have exactly one of the two
abbrev pub OneConstraint : ℕ → List Lexeme → Type 0
OneConstraint opened = OneAnswer plain IsConstraint (BreaksRule opened)
