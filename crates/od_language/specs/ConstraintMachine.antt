-- A constraint read one lexeme at a time: a means of proof, and of computing. No definition of the
-- language speaks of it.
use Rattle.std.specs.Prelude.{ℕ, zero, suc, Option, Some, None, Result, Ok, Err}
use Rattle.od_pattern.specs.declared.pattern.Field.{Field}
use Rattle.od_pattern.specs.declared.pattern.Value.{Value}
use Rattle.od_pattern.specs.declared.pattern.Value.TheVariants.{Plain}
use Rattle.od_pattern.specs.declared.pattern.Value.TheVariants as value
use Rattle.od_pattern.specs.declared.pattern.Constraint.{Constraint}
use Rattle.od_pattern.specs.declared.pattern.Constraint.TheVariants as constraint
use Rattle.od_language.specs.declared.pattern_fault.PatternKind.{PatternKind}
use Rattle.od_language.specs.declared.pattern_fault.PatternKind.TheVariants as kind
use Rattle.od_language.specs.declared.lexeme.LexKind.{LexKind}
use Rattle.od_language.specs.declared.lexeme.LexKind.TheVariants.{Word, Quoted, Regex, SquareOpen, SquareClose, RoundOpen, RoundClose, And, Or, Not, Equal}
use Rattle.od_language.specs.Fields.{field_named, compared_text}

-- the brackets that are open, the innermost first: behind a `(` with the `!` before it, and the
-- operands before that
pub data Open : Type 0 where
  square : Open
  round : ℕ → Option Constraint → Option Constraint → Open → Open

-- where the reading stands; n is how many `!` stand before an operand, a the `and` before it, o the
-- `or` before that, k the open brackets
pub data State : Type 0 where
  start : State
  first : State
  operand : ℕ → Option Constraint → Option Constraint → Open → State
  named : Field → ℕ → Option Constraint → Option Constraint → Open → State
  equals : Field → ℕ → Option Constraint → Option Constraint → Open → State
  after : Constraint → Option Constraint → Open → State
  done : Constraint → State

-- a constraint behind so many `!`
abbrev pub negated : ℕ → Constraint → Constraint
negated zero c = c
negated (suc n) c = negated n (constraint.Not c)

-- an operand behind the `and` before it
abbrev pub both : Option Constraint → Constraint → Constraint
both None c = c
both (Some a) c = constraint.And a c

-- an `and` behind the `or` before it
abbrev pub either : Option Constraint → Constraint → Constraint
either None c = c
either (Some a) c = constraint.Or a c

-- behind a word in the place of a field's name
abbrev pub named_by : Option Field → ℕ → Option Constraint → Option Constraint → Open →
    Result State PatternKind
named_by (Some f) n a o k = Ok (named f n a o k)
named_by None n a o k = Err kind.UnknownField

-- behind the value that a field is asked for
abbrev pub asked_for : Field → ℕ → Option Constraint → Option Constraint → Open → Value →
    Result State PatternKind
asked_for f n a o k v = Ok (after (both a (negated n (constraint.Is f v))) o k)

-- where an operand comes
abbrev pub step_operand : LexKind → ℕ → Option Constraint → Option Constraint → Open →
    Result State PatternKind
step_operand Not n a o k = Ok (operand (suc n) a o k)
step_operand RoundOpen n a o k = Ok (operand 0 None None (round n a o k))
step_operand (Word name) n a o k = named_by (field_named name) n a o k
step_operand x n a o k = Err kind.Expected

-- behind `[`
abbrev pub step_first : LexKind → Result State PatternKind
step_first SquareClose = Ok (done constraint.Any)
step_first x = step_operand x 0 None None square

-- behind an operand in square brackets
abbrev pub step_after_square : LexKind → Constraint → Option Constraint → Result State PatternKind
step_after_square SquareClose c o = Ok (done (either o c))
step_after_square x c o = Err kind.Expected

-- behind an operand in round brackets
abbrev pub step_after_round : LexKind → Constraint → Option Constraint → ℕ → Option Constraint →
    Option Constraint → Open → Result State PatternKind
step_after_round RoundClose c o n a p k = Ok (after (both a (negated n (either o c))) p k)
step_after_round x c o n a p k = Err kind.Expected

-- behind an operand, a bracket that closes
abbrev pub step_close : LexKind → Constraint → Option Constraint → Open → Result State PatternKind
step_close x c o square = step_after_square x c o
step_close x c o (round n a p k) = step_after_round x c o n a p k

-- behind an operand
abbrev pub step_after : LexKind → Constraint → Option Constraint → Open → Result State PatternKind
step_after And c o k = Ok (operand 0 (Some c) o k)
step_after Or c o k = Ok (operand 0 None (Some (either o c)) k)
step_after x c o k = step_close x c o k

-- where the constraint begins
abbrev pub step_start : LexKind → Result State PatternKind
step_start SquareOpen = Ok first
step_start x = Err kind.Expected

-- behind a field's name
abbrev pub step_named : LexKind → Field → ℕ → Option Constraint → Option Constraint → Open →
    Result State PatternKind
step_named Equal f n a o k = Ok (equals f n a o k)
step_named x f n a o k = Err kind.Expected

-- behind `field=`
abbrev pub step_equals : LexKind → Field → ℕ → Option Constraint → Option Constraint → Open →
    Result State PatternKind
step_equals (Word t) f n a o k = asked_for f n a o k (Plain (compared_text f t))
step_equals (Quoted t) f n a o k = asked_for f n a o k (Plain (compared_text f t))
step_equals (Regex t) f n a o k = asked_for f n a o k (value.Regex t)
step_equals x f n a o k = Err kind.Expected

-- the state behind one more lexeme, or why it does not fit
abbrev pub step : State → LexKind → Result State PatternKind
step start x = step_start x
step first x = step_first x
step (operand n a o k) x = step_operand x n a o k
step (named f n a o k) x = step_named x f n a o k
step (equals f n a o k) x = step_equals x f n a o k
step (after c o k) x = step_after x c o k
step (done c) x = Err kind.Expected

-- the constraint, where the machine may end
abbrev pub ended : State → Option Constraint
ended (done c) = Some c
ended s = None

-- a state that goes on
abbrev pub NotDone : State → Type 0
NotDone (done c) = ⊥
NotDone s = Unit {0}
