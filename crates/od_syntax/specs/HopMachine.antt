-- A hop read one lexeme at a time: a means of proof, and of computing. No definition of the language
-- speaks of it. It runs the machines of surfaces and of steps in turn.
use Rattle.std.specs.Prelude.{Bool, true, false, if◌then◌else◌, [], ◌∷◌, ◌++◌, ℕ, Option, Some, None, Result, Ok, Err}
use Rattle.od_pattern.specs.declared.pattern.Surface.{Surface}
use Rattle.od_pattern.specs.declared.path.Path.{Path}
use Rattle.od_pattern.specs.declared.rule.Hop.{Hop}
use Rattle.od_language.specs.declared.pattern_fault.PatternKind.{PatternKind}
use Rattle.od_language.specs.declared.pattern_fault.PatternKind.TheVariants as kind
use Rattle.od_language.specs.declared.lexeme.LexKind.{LexKind}
use Rattle.od_language.specs.declared.lexeme.LexKind.TheVariants.{Or}
use Rattle.od_syntax.specs.StepsMachine as steps
use Rattle.od_syntax.specs.SurfaceMachine as surface
use Rattle.od_syntax.specs.Told.{Told, lexeme, steps_open}

-- where the reading stands: in the surface that a hop begins with, in steps behind a hop, or in a
-- surface behind a hop and steps
pub data State : Type 0 where
  first : surface.State → State
  between : Hop → steps.State → State
  behind : Hop → Path → surface.State → State

-- a surface alone
abbrev pub alone : Surface → Hop
alone s = record { first = s; rest = [] }

-- a hop, steps and a surface
abbrev pub joined : Hop → Path → Surface → Hop
joined h p s = record { first = h.first; rest = h.rest ++ record { path = p; surface = s } ∷ [] }

-- the same, where the surface is whole
abbrev pub alone_if : Option Surface → Option Hop
alone_if None = None
alone_if (Some s) = Some (alone s)

abbrev pub joined_if : Hop → Path → Option Surface → Option Hop
joined_if h p None = None
joined_if h p (Some s) = Some (joined h p s)

-- a `|` outside brackets
abbrev pub bars_in : LexKind → surface.Around → Bool
bars_in Or surface.top = true
bars_in Or (surface.round o a s k) = false
bars_in x k = false

-- a `|` behind a part that stands outside brackets
abbrev pub bars : surface.State → LexKind → Bool
bars (surface.part p a s k) x = bars_in x k
bars (surface.counted p least most a s k) x = bars_in x k
bars (surface.turned a s k) x = bars_in x k
bars s x = false

-- where an atom of a surface comes
abbrev pub atom_of : Told → Result surface.State PatternKind
atom_of (lexeme x) = surface.step_atom x [] [] surface.top
atom_of steps_open = Err kind.Expected

-- on to steps, where they can begin here behind a hop
abbrev pub to_steps : Result steps.State PatternKind → Option Hop → PatternKind →
    Result State PatternKind
to_steps (Ok t) (Some h) k = Ok (between h t)
to_steps q o k = Err k

-- on in a surface, or from it to steps
abbrev pub from_surface : (surface.State → State) → Result surface.State PatternKind → Told →
    Option Hop → Result State PatternKind
from_surface within (Ok t) x o = Ok (within t)
from_surface within (Err k) x o = to_steps (steps.opened [] x) o k

-- on to a surface behind a hop and steps
abbrev pub to_surface : Hop → Path → Result surface.State PatternKind → PatternKind →
    Result State PatternKind
to_surface h p (Ok t) k = Ok (behind h p t)
to_surface h p (Err j) k = Err k

-- on in steps, or from them to a surface
abbrev pub from_steps : Hop → Result steps.State PatternKind → Told → Option Path →
    Result State PatternKind
from_steps h (Ok t) x o = Ok (between h t)
from_steps h (Err k) x None = Err k
from_steps h (Err k) x (Some p) = to_surface h p (atom_of x) k

module _ (may : Surface → Option ℕ → Bool) where
  -- in the surface that a hop begins with
  abbrev pub wide_step : surface.State → Told → Result surface.State PatternKind
  wide_step q (lexeme x) = surface.step may q x
  wide_step q steps_open = Err kind.Expected

  -- in a surface behind steps, which has no choices outside brackets
  abbrev pub one_step : surface.State → Told → Result surface.State PatternKind
  one_step q (lexeme x) = if bars q x then Err kind.Expected else surface.step may q x
  one_step q steps_open = Err kind.Expected

  -- the state behind one more lexeme, or why it does not fit
  abbrev pub step : State → Told → Result State PatternKind
  step (first q) x = from_surface first (wide_step q x) x (alone_if (surface.joins q))
  step (between h q) x = from_steps h (steps.step q x) x (steps.ended q)
  step (behind h p q) x = from_surface (behind h p) (one_step q x) x (joined_if h p (surface.joins q))

-- the hop, where the machine may end
abbrev pub ended : State → Option Hop
ended (first q) = alone_if (surface.ended q)
ended (between h q) = None
ended (behind h p q) = joined_if h p (surface.joins q)

-- the rule of the body that a quantifier repeats
abbrev pub repeat_rule_told : (Surface → Option ℕ → Bool) → surface.State → Told → Option PatternKind
repeat_rule_told may q (lexeme x) = surface.repeat_rule may q x
repeat_rule_told may q steps_open = None

abbrev pub repeat_rule : (Surface → Option ℕ → Bool) → State → Told → Option PatternKind
repeat_rule may (first q) x = repeat_rule_told may q x
repeat_rule may (between h q) x = None
repeat_rule may (behind h p q) x = repeat_rule_told may q x
