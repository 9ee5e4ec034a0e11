-- Lexemes begin with steps of exactly one value, or have exactly one first fault.
use Rattle.std.proofs.Common.{◌≡◌, Bool, true, false, List, [], ◌∷◌, refl, ap, ◌∙◌}
use Rattle.od_language.specs.declared.lexeme.Lexeme.{Lexeme}
use Rattle.od_language.specs.declared.lexeme.LexKind.{LexKind}
use Rattle.od_language.specs.declared.lexeme.LexKind.TheVariants.{End}
use Rattle.od_language.specs.Alphabet.{plain, IsEnded}
use Rattle.od_language.proofs.Machine.{one_answer}
use Rattle.od_syntax.specs.Hops.{Steps, BreaksSteps}
use Rattle.od_syntax.specs.Told.{lexeme, told_apart, in_constraint, told_of, told_from, told}
use Rattle.od_syntax.specs.StepsAnswer.{StepsHaveOneAnswer}
use Rattle.od_syntax.specs.StepsMachine.{begun, step, ended}
use Rattle.od_syntax.proofs.Steps.Closing.{rule_at, reader}

pub told_end : (within : Bool) → told_of within End [] ≡ lexeme End
told_end true = refl
told_end false = refl

ended_told : (within : Bool) (l : List Lexeme) → IsEnded plain l → IsEnded told_apart (told_from within l)
ended_told within [] h = h
ended_told within (x ∷ []) h = ap (λ (z : LexKind). told_of within z []) h ∙ told_end within
ended_told within (x ∷ y ∷ l) h = ended_told (in_constraint within x.kind) (y ∷ l) h

pub steps_have_one_answer : StepsHaveOneAnswer
steps_have_one_answer opened lexemes h =
    one_answer told_apart Steps (BreaksSteps opened) begun step (rule_at opened) ended (reader opened) (told lexemes) (ended_told false lexemes h)
