-- Steps read one lexeme at a time, with the rules: what the contracts of their parser's parts speak of.
use Rattle.std.specs.Prelude.{ℕ, ◌-◌, ◌≤◌, Bool, true, false, List, [], ◌∷◌, drop, Err}
use Rattle.od_pattern.specs.declared.path.Path.{Path}
use Rattle.od_language.specs.declared.pattern_fault.PatternKind.TheVariants as kind
use Rattle.od_language.specs.declared.lexeme.Lexeme.{Lexeme}
use Rattle.od_language.specs.declared.lexeme.LexKind.{LexKind}
use Rattle.od_language.specs.declared.lexeme.LexKind.TheVariants.{RoundClose, Along, Against, AnyAlong, AnyAgainst}
use Rattle.od_language.specs.Alphabet.{plain, kinds}
use Rattle.od_language.specs.Depth.{depth_behind, broken_rule}
use Rattle.od_language.specs.Machine.{Outcome, walk, checked, either_way}
use Rattle.od_syntax.specs.StepsAnswer.{AreSteps}
use Rattle.od_syntax.specs.StepsMachine.{State, part, opened, step, ended}
use Rattle.od_syntax.specs.Told.{Told, lexeme, steps_open, ToldLexeme, told_apart, untold, told_of, told}

-- the brackets that are open behind a lexeme, and the rule that it breaks
abbrev pub told_behind : ℕ → Told → ℕ
told_behind depth x = depth_behind depth (untold x)

-- the steps and the lexemes behind them, or a fault, where so many brackets are open
abbrev pub steps_run : ℕ → State → List ToldLexeme → Outcome ToldLexeme Path
steps_run = walk told_apart step (λ depth x. broken_rule depth (untold x)) told_behind ended

-- the same where an atom comes behind these parts
abbrev pub atom_run : ℕ → List Path → List ToldLexeme → Outcome ToldLexeme Path
atom_run d s [] = Err (0, kind.Expected)
atom_run d s (x ∷ l) = either_way (opened s x.told)
    (λ t. checked (broken_rule d (untold x.told)) x.at (steps_run (told_behind d x.told) t l))
    (λ k. Err (x.at, k))

-- behind a path in brackets, its parts before it: the bracket that closes, else a fault
abbrev pub closed_by : LexKind → ℕ → ℕ → List Path → Path → List Lexeme → Outcome ToldLexeme Path
closed_by RoundClose at d s p l = steps_run (d - 1) (part p s) (told l)
closed_by x at d s p l = Err (at, kind.Expected)

abbrev pub closed : ℕ → List Path → Path × List Lexeme → Outcome ToldLexeme Path
closed d s (p, []) = Err (0, kind.Expected)
closed d s (p, x ∷ l) = closed_by x.kind x.at d s p l

-- an arrow, or a bracket that opens steps
abbrev pub begins_steps : Told → Bool
begins_steps steps_open = true
begins_steps (lexeme Along) = true
begins_steps (lexeme Against) = true
begins_steps (lexeme AnyAlong) = true
begins_steps (lexeme AnyAgainst) = true
begins_steps x = false

-- whether an atom of steps comes
abbrev pub steps_come : List Lexeme → Bool
steps_come [] = false
steps_come (x ∷ l) = begins_steps (told_of false x.kind (kinds plain l))

-- the lexemes from a place on begin with these steps, up to the place `to`
abbrev pub AreStepsFrom : ℕ → List Lexeme → ℕ → Path → ℕ → Type 0
AreStepsFrom opened lexemes from p to = (from ≤ to) × AreSteps opened (drop from lexemes) p (to - from)
