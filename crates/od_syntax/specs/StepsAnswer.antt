-- Steps at the front of lexemes: exactly one answer.
use Rattle.std.specs.Prelude.{ℕ, List}
use Rattle.od_pattern.specs.declared.path.Path.{Path}
use Rattle.od_language.specs.declared.pattern_fault.PatternKind.{PatternKind}
use Rattle.od_language.specs.declared.lexeme.Lexeme.{Lexeme}
use Rattle.od_language.specs.Alphabet.{plain, IsEnded}
use Rattle.od_language.specs.FirstFault.{IsRead, IsFault, OneAnswer}
use Rattle.od_syntax.specs.Hops.{Steps, BreaksSteps}
use Rattle.od_syntax.specs.Told.{told_apart, told}

-- lexemes before which so many brackets are open begin with these steps, of so many lexemes
abbrev pub AreSteps : ℕ → List Lexeme → Path → ℕ → Type 0
AreSteps opened lexemes = IsRead told_apart Steps (BreaksSteps opened) (told lexemes)

-- the first fault of lexemes that begin with none
abbrev pub IsStepsFault : ℕ → List Lexeme → ℕ → PatternKind → Type 0
IsStepsFault opened lexemes = IsFault told_apart Steps (BreaksSteps opened) (told lexemes)

-- lexemes up to their end have exactly one of the two
abbrev pub StepsHaveOneAnswer : Type 0
StepsHaveOneAnswer =
    (opened : ℕ) (lexemes : List Lexeme) → IsEnded plain lexemes →
    OneAnswer told_apart Steps (BreaksSteps opened) (told lexemes)
