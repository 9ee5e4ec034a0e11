-- Steps read one lexeme at a time: a means of proof, and of computing. No definition of the language
-- speaks of it.
use Rattle.std.specs.Prelude.{Bool, true, false, List, [], ◌∷◌, ◌++◌, Option, Some, None, Result, Ok, Err}
use Rattle.od_pattern.specs.declared.pattern.Value.TheVariants.{Plain}
use Rattle.od_pattern.specs.declared.pattern.Value.TheVariants as value
use Rattle.od_pattern.specs.declared.path.Path.{Path}
use Rattle.od_pattern.specs.declared.path.Path.TheVariants as path
use Rattle.od_language.specs.declared.pattern_fault.PatternKind.{PatternKind}
use Rattle.od_language.specs.declared.pattern_fault.PatternKind.TheVariants as kind
use Rattle.od_language.specs.declared.lexeme.LexKind.TheVariants.{Word, Quoted, Regex, Range, RoundClose, Along, Against, AnyAlong, AnyAgainst, Question, Star, Plus}
use Rattle.od_syntax.specs.PathMachine as paths
use Rattle.od_syntax.specs.Told.{Told, lexeme, steps_open, untold}

-- where the reading stands; s are the parts that are whole, and inside brackets stands the machine of
-- paths
pub data State : Type 0 where
  begun : State
  label : Bool → List Path → State
  group : paths.State → List Path → State
  part : Path → List Path → State
  turned : List Path → State

abbrev pub group_start : paths.State
group_start = paths.atom [] [] paths.top

-- where an atom comes
abbrev pub opened : List Path → Told → Result State PatternKind
opened s steps_open = Ok (group group_start s)
opened s (lexeme Along) = Ok (label true s)
opened s (lexeme Against) = Ok (label false s)
opened s (lexeme AnyAlong) = Ok (part (paths.edge true None) s)
opened s (lexeme AnyAgainst) = Ok (part (paths.edge false None) s)
opened s x = Err kind.Expected

-- behind `>` or `<`
abbrev pub labelled : Told → Bool → List Path → Result State PatternKind
labelled (lexeme (Word t)) b s = Ok (part (paths.edge b (Some (Plain t))) s)
labelled (lexeme (Quoted t)) b s = Ok (part (paths.edge b (Some (Plain t))) s)
labelled (lexeme (Regex t)) b s = Ok (part (paths.edge b (Some (value.Regex t))) s)
labelled x b s = Err kind.Expected

-- the end of brackets, behind a path that is whole
abbrev pub closing : Told → Option Path → PatternKind → List Path → Result State PatternKind
closing (lexeme RoundClose) (Some p) k s = Ok (part p s)
closing x o k s = Err k

-- inside brackets
abbrev pub grouped : Result paths.State PatternKind → Told → Option Path → List Path →
    Result State PatternKind
grouped (Ok q) x o s = Ok (group q s)
grouped (Err k) x o s = closing x o k s

-- behind an atom
abbrev pub counted : Told → Path → List Path → Result State PatternKind
counted (lexeme Question) p s = Ok (turned (s ++ path.Repeat p 0 (Some 1) ∷ []))
counted (lexeme Star) p s = Ok (turned (s ++ path.Repeat p 0 None ∷ []))
counted (lexeme Plus) p s = Ok (turned (s ++ path.Repeat p 1 None ∷ []))
counted (lexeme (Range least most)) p s = Ok (turned (s ++ path.Repeat p least most ∷ []))
counted x p s = opened (s ++ p ∷ []) x

-- the state behind one more lexeme, or why it does not fit
abbrev pub step : State → Told → Result State PatternKind
step begun x = opened [] x
step (label b s) x = labelled x b s
step (group q s) x = grouped (paths.step q (untold x)) x (paths.ended q) s
step (part p s) x = counted x p s
step (turned s) x = opened s x

-- the steps, where the machine may end
abbrev pub ended : State → Option Path
ended (part p s) = Some (paths.in_order (s ++ p ∷ []))
ended (turned s) = Some (paths.in_order s)
ended s = None
