-- What the parser answers is the path that stands there, or the first fault.
use Rattle.std.proofs.Common.{◌≡◌, ℕ, ◌+◌, ◌-◌, ◌<◌, ◌≤◌, List, [], ◌∷◌, ◌++◌, length, drop, length-drop, Option, Result, Ok, Err, refl, sym, ◌∙◌, ap, arith, IfOk}
use Rattle.od_pattern.specs.declared.path.Path.{Path}
use Rattle.od_language.specs.declared.pattern_fault.PatternKind.{PatternKind}
use Rattle.od_language.specs.declared.pattern_fault.PatternFault.{PatternFault}
use Rattle.od_language.specs.declared.pattern_fault.PatternFault.TheVariants as fault
use Rattle.od_language.specs.declared.lexeme.Lexeme.{Lexeme}
use Rattle.od_language.specs.declared.lexeme.LexKind.{LexKind}
use Rattle.od_language.specs.Alphabet.{Alphabet, plain, IsEnded}
use Rattle.od_language.specs.Answers.{IfBad, Gives, Refuses}
use Rattle.od_language.specs.Depth.{depth_behind, depth_after, broken_rule, BreaksRule}
use Rattle.od_language.specs.Machine.{Outcome, stopped, checked, either_way, walk, GoesOn}
use Rattle.od_language.specs.Machine.{run as run_behind}
use Rattle.od_language.proofs.Machine as reading
use Rattle.od_language.proofs.Constraints.Closing.{rule_at}
use Rattle.od_syntax.specs.Paths.{Paths}
use Rattle.od_syntax.specs.PathMachine.{atom, whole, top, step, ended}
use Rattle.od_syntax.proofs.Paths.Closing.{reader}
use Rattle.od_path.specs.Machine.{run, IsPathRead, IsPathFault, OnePath, IsPathFrom}

same_way : {S X C : Type 0} → (q : Result S PatternKind) (f g : S → Outcome X C) (h : PatternKind → Outcome X C) → ((t : S) → f t ≡ g t) → either_way q f h ≡ either_way q g h
same_way (Ok t) f g h e = e t
same_way (Err j) f g h e = refl

module _ {X K S C M : Type 0} (al : Alphabet X K) (one : S → K → Result S PatternKind) (rule : M → K → Option PatternKind) (note : M → K → M) (last : S → Option C)
    (behind : List K → K → Option PatternKind) (noted : List K → M) (same : (f : List K) (x : K) → rule (noted f) x ≡ behind f x)
    (next : (f : List K) (x : K) → note (noted f) x ≡ noted (f ++ x ∷ [])) where
  -- what is noted of the lexemes before is enough
  pub walks : (before : List K) (s : S) (l : List X) → walk al one rule note last (noted before) s l ≡ run_behind al one behind last before s l
  walks before s [] = refl
  walks before s (x ∷ l) = same_way (one s (al.sort x)) (λ t. checked (rule (noted before) (al.sort x)) (al.place x) (walk al one rule note last (note (noted before) (al.sort x)) t l))
      (λ t. checked (behind before (al.sort x)) (al.place x) (run_behind al one behind last (before ++ al.sort x ∷ []) t l)) (λ k. stopped (last s) (x ∷ l) (al.place x) k)
      (λ t. ap (λ z. checked z (al.place x) (walk al one rule note last (note (noted before) (al.sort x)) t l)) (same before (al.sort x))
      ∙ ap (checked (behind before (al.sort x)) (al.place x)) (ap (λ z. walk al one rule note last z t l) (next before (al.sort x)) ∙ walks (before ++ al.sort x ∷ []) t l))

pub depth_snoc : (d : ℕ) (f : List LexKind) (x : LexKind) → depth_behind (depth_after d f) x ≡ depth_after d (f ++ x ∷ [])
depth_snoc d [] x = refl
depth_snoc d (y ∷ f) x = depth_snoc (depth_behind d y) f x

-- the machine that counts the open brackets is the one that knows the lexemes before
pub runs : (e : ℕ) (l : List Lexeme) → run e (atom [] [] top) l ≡ run_behind plain step (rule_at e) ended [] (atom [] [] top) l
runs e l = walks plain step broken_rule depth_behind ended (rule_at e) (depth_after e) (λ f x. refl) (depth_snoc e) [] (atom [] [] top) l

-- behind a path that stands alone
pub ended_there : (d : ℕ) (p : Path) (l : List Lexeme) → run d (whole p top) l ≡ Ok (p, l)
ended_there d p [] = refl
ended_there d p (x ∷ l) = refl

module _ {Y : Type 0} (path_of : Y → Path) (to_of : Y → ℕ) where
  pub parsed_value : (q : Result Y PatternFault) (d e from : ℕ) (ls : List Lexeme) → d ≡ e →
      GoesOn q (run d (atom [] [] top) (drop from ls)) (λ x. run d (whole (path_of x) top) (drop (to_of x) ls)) → IfOk q (λ x. (from < to_of x) × (to_of x ≤ length ls)) →
      IfOk q (λ x. IsPathFrom e ls from (path_of x) (to_of x))
  parsed_value (Ok x) d e from ls same h b = (
    omega (arith, b.0),
    reading.is_read plain Paths (BreaksRule e) (atom [] [] top) step (rule_at e) ended (reader e) (drop from ls) (path_of x) (drop (to_of x) ls) (to_of x - from)
        (sym (runs e (drop from ls)) ∙ ap (λ z. run z (atom [] [] top) (drop from ls)) (sym same) ∙ h ∙ ended_there d (path_of x) (drop (to_of x) ls))
        (omega (arith, b.0, b.1, length-drop from ls, length-drop (to_of x) ls)),
  )
  parsed_value (Err k) d e from ls same h b = tt

  pub parsed_fault : (q : Result Y PatternFault) (d e from : ℕ) (ls : List Lexeme) → d ≡ e → IsEnded plain (drop from ls) →
      GoesOn q (run d (atom [] [] top) (drop from ls)) (λ x. run d (whole (path_of x) top) (drop (to_of x) ls)) → IfBad q (IsPathFault e (drop from ls))
  parsed_fault (Ok x) d e from ls same w h = tt
  parsed_fault (Err fault.NoMemory) d e from ls same w h = tt
  parsed_fault (Err (fault.Bad at k)) d e from ls same w h =
      reading.is_fault plain Paths (BreaksRule e) (atom [] [] top) step (rule_at e) ended (reader e) (drop from ls) at k w
      (sym (runs e (drop from ls)) ∙ ap (λ z. run z (atom [] [] top) (drop from ls)) (sym same) ∙ h)

pub only_value : (q : Result (Path × ℕ) PatternFault) (e from : ℕ) (l : List Lexeme) →
    IfOk q (λ x. (from ≤ x.1) × IsPathRead e l x.0 (x.1 - from)) → IfBad q (IsPathFault e l) →
    (p : Path) (n : ℕ) → IsPathRead e l p n → Gives q p (from + n)
only_value q e = reading.only_value plain Paths (BreaksRule e) (atom [] [] top) step (rule_at e) ended (reader e) q

pub only_fault : (q : Result (Path × ℕ) PatternFault) (e from : ℕ) (l : List Lexeme) →
    IfOk q (λ x. (from ≤ x.1) × IsPathRead e l x.0 (x.1 - from)) → IfBad q (IsPathFault e l) →
    (at : ℕ) (k : PatternKind) → IsPathFault e l at k → Refuses q at k
only_fault q e = reading.only_fault plain Paths (BreaksRule e) (atom [] [] top) step (rule_at e) ended (reader e) q

pub one_answer : (e : ℕ) (l : List Lexeme) → IsEnded plain l → OnePath e l
one_answer e = reading.one_answer plain Paths (BreaksRule e) (atom [] [] top) step (rule_at e) ended (reader e)
