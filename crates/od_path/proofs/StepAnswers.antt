-- What the parser of steps answers is the steps that stand there, or the first fault.
use Rattle.std.proofs.Common.{◌≡◌, ℕ, ◌+◌, ◌-◌, ◌<◌, ◌≤◌, Bool, true, false, List, [], ◌∷◌, ◌++◌, length, drop, length-drop, Result, Ok, Err, refl, sym, ◌∙◌, ap, arith, IfOk}
use Rattle.od_pattern.specs.declared.path.Path.{Path}
use Rattle.od_language.specs.declared.pattern_fault.PatternKind.{PatternKind}
use Rattle.od_language.specs.declared.pattern_fault.PatternFault.{PatternFault}
use Rattle.od_language.specs.declared.pattern_fault.PatternFault.TheVariants as fault
use Rattle.od_language.specs.declared.lexeme.Lexeme.{Lexeme}
use Rattle.od_language.specs.declared.lexeme.LexKind.{LexKind}
use Rattle.od_language.specs.declared.lexeme.LexKind.TheVariants.{End}
use Rattle.od_language.specs.Alphabet.{plain, IsEnded}
use Rattle.od_language.specs.Answers.{IfBad, Gives, Refuses}
use Rattle.od_language.specs.Depth.{depth_behind, depth_after, broken_rule}
use Rattle.od_language.specs.FirstFault.{OneAnswer}
use Rattle.od_language.specs.Machine.{GoesOn}
use Rattle.od_language.specs.Machine.{run as run_behind}
use Rattle.od_language.proofs.Machine as reading
use Rattle.od_syntax.specs.Hops.{Steps, BreaksSteps}
use Rattle.od_syntax.specs.StepsAnswer.{AreSteps, IsStepsFault}
use Rattle.od_syntax.specs.StepsMachine.{begun, step, ended}
use Rattle.od_syntax.specs.Told.{lexeme, Told, ToldLexeme, told_apart, told, told_from, told_of, in_constraint, untold, all_untold}
use Rattle.od_syntax.proofs.Steps.Closing.{rule_at, reader}
use Rattle.od_path.specs.Steps.{steps_run, told_behind, AreStepsFrom}
use Rattle.od_path.proofs.Answers.{walks}

untold_snoc : (d : ℕ) (f : List Told) (x : Told) → told_behind (depth_after d (all_untold f)) x ≡ depth_after d (all_untold (f ++ x ∷ []))
untold_snoc d [] x = refl
untold_snoc d (y ∷ f) x = untold_snoc (depth_behind d (untold y)) f x

-- the machine that counts the open brackets is the one that knows the lexemes before
pub runs : (e : ℕ) (l : List ToldLexeme) → steps_run e begun l ≡ run_behind told_apart step (rule_at e) ended [] begun l
runs e l = walks told_apart step (λ d x. broken_rule d (untold x)) told_behind ended (rule_at e) (λ f. depth_after e (all_untold f)) (λ f x. refl) (untold_snoc e) [] begun l

-- lexemes that end with the end do so told apart
told_end : (within : Bool) → told_of within End [] ≡ lexeme End
told_end true = refl
told_end false = refl

ended_told : (within : Bool) (l : List Lexeme) → IsEnded plain l → IsEnded told_apart (told_from within l)
ended_told within [] h = h
ended_told within (x ∷ []) h = ap (λ (z : LexKind). told_of within z []) h ∙ told_end within
ended_told within (x ∷ y ∷ l) h = ended_told (in_constraint within x.kind) (y ∷ l) h

told_length : (w : Bool) (l : List Lexeme) → length (told_from w l) ≡ length l
told_length w [] = refl
told_length w (x ∷ l) = let e = told_length (in_constraint w x.kind) l in omega (arith, e)

pub parsed_value : (q : Result (Path × ℕ) PatternFault) (d e from : ℕ) (ls : List Lexeme) → d ≡ e →
    GoesOn q (steps_run d begun (told (drop from ls))) (λ x. Ok (x.0, told (drop x.1 ls))) → IfOk q (λ x. (from < x.1) × (x.1 ≤ length ls)) →
    IfOk q (λ x. AreStepsFrom e ls from x.0 x.1)
parsed_value (Ok x) d e from ls same h b =
    let here = told_length false (drop from ls) in
    let there = told_length false (drop x.1 ls) in (
      omega (arith, b.0),
      reading.is_read told_apart Steps (BreaksSteps e) begun step (rule_at e) ended (reader e) (told (drop from ls)) x.0 (told (drop x.1 ls)) (x.1 - from)
          (sym (runs e (told (drop from ls))) ∙ ap (λ z. steps_run z begun (told (drop from ls))) (sym same) ∙ h)
          (omega (arith, b.0, b.1, here, there, length-drop from ls, length-drop x.1 ls)),
    )
parsed_value (Err k) d e from ls same h b = tt

pub parsed_fault : (q : Result (Path × ℕ) PatternFault) (d e from : ℕ) (ls : List Lexeme) → d ≡ e → IsEnded plain (drop from ls) →
    GoesOn q (steps_run d begun (told (drop from ls))) (λ x. Ok (x.0, told (drop x.1 ls))) → IfBad q (IsStepsFault e (drop from ls))
parsed_fault (Ok x) d e from ls same w h = tt
parsed_fault (Err fault.NoMemory) d e from ls same w h = tt
parsed_fault (Err (fault.Bad at k)) d e from ls same w h =
    reading.is_fault told_apart Steps (BreaksSteps e) begun step (rule_at e) ended (reader e) (told (drop from ls)) at k (ended_told false (drop from ls) w)
    (sym (runs e (told (drop from ls))) ∙ ap (λ z. steps_run z begun (told (drop from ls))) (sym same) ∙ h)

pub only_value : (q : Result (Path × ℕ) PatternFault) (e from : ℕ) (l : List Lexeme) →
    IfOk q (λ x. (from ≤ x.1) × AreSteps e l x.0 (x.1 - from)) → IfBad q (IsStepsFault e l) →
    (p : Path) (n : ℕ) → AreSteps e l p n → Gives q p (from + n)
only_value q e from l = reading.only_value told_apart Steps (BreaksSteps e) begun step (rule_at e) ended (reader e) q from (told l)

pub only_fault : (q : Result (Path × ℕ) PatternFault) (e from : ℕ) (l : List Lexeme) →
    IfOk q (λ x. (from ≤ x.1) × AreSteps e l x.0 (x.1 - from)) → IfBad q (IsStepsFault e l) →
    (at : ℕ) (k : PatternKind) → IsStepsFault e l at k → Refuses q at k
only_fault q e from l = reading.only_fault told_apart Steps (BreaksSteps e) begun step (rule_at e) ended (reader e) q from (told l)

pub one_steps : (e : ℕ) (l : List Lexeme) → IsEnded plain l → OneAnswer told_apart Steps (BreaksSteps e) (told l)
one_steps e l w = reading.one_answer told_apart Steps (BreaksSteps e) begun step (rule_at e) ended (reader e) (told l) (ended_told false l w)
