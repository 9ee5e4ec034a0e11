-- A constraint is balanced: the brackets that its states have opened, and what its lexemes are.
use Rattle.std.proofs.Common.{◌≡◌, ℕ, suc, ◌+◌, List, Option, Some, None, Result, Ok, Err, refl, arith}
use Rattle.od_pattern.specs.declared.pattern.Field.{Field}
use Rattle.od_pattern.specs.declared.pattern.Constraint.{Constraint}
use Rattle.od_language.specs.declared.pattern_fault.PatternKind.{PatternKind}
use Rattle.od_language.specs.declared.lexeme.LexKind.{LexKind}
use Rattle.od_language.specs.declared.lexeme.LexKind.TheVariants.{Word, Quoted, Regex, Range, NameOpen, SquareOpen, SquareClose, RoundOpen, RoundClose, And, Or, Not, Equal}
use Rattle.od_language.specs.Fields.{field_named}
use Rattle.od_language.specs.Depth.{depth_behind}
use Rattle.od_language.specs.ConstraintMachine.{Open, square, round, State, start, first, operand, named, equals, after, done, step, named_by}
use Rattle.od_language.specs.ConstraintMachine as machine

-- how many brackets a state has opened
abbrev pub opens_in : Open → ℕ
opens_in square = 1
opens_in (round n a o k) = suc (opens_in k)

abbrev pub opens : State → ℕ
opens start = 0
opens first = 1
opens (operand n a o k) = opens_in k
opens (named f n a o k) = opens_in k
opens (equals f n a o k) = opens_in k
opens (after c o k) = opens_in k
opens (done c) = 0

-- the lexeme opens no capture and is no range
abbrev pub IsBare : LexKind → Type 0
IsBare (NameOpen name) = ⊥
IsBare (Range least most) = ⊥
IsBare x = Unit {0}

-- the depth behind a lexeme that is taken
abbrev pub Deep : ℕ → ℕ → LexKind → Result State PatternKind → Type 0
Deep d at x (Ok t) = (depth_behind at x ≡ opens t + d) × IsBare x
Deep d at x (Err k) = Unit {0}

deep_named : (d : ℕ) (name : List ℕ) (n : ℕ) (a o : Option Constraint) (k : Open) (q : Option Field) → Deep d (opens_in k + d) (Word name) (named_by q n a o k)
deep_named d name n a o k (Some f) = (refl, tt)
deep_named d name n a o k None = tt

deep_operand : (d : ℕ) (x : LexKind) (n : ℕ) (a o : Option Constraint) (k : Open) → Deep d (opens_in k + d) x (machine.step_operand x n a o k)
deep_operand d Not n a o k = (refl, tt)
deep_operand d RoundOpen n a o k = (omega arith, tt)
deep_operand d (Word name) n a o k = deep_named d name n a o k (field_named name)
deep_operand d x n a o k = tt

deep_first : (d : ℕ) (x : LexKind) → Deep d (1 + d) x (machine.step_first x)
deep_first d SquareClose = (omega arith, tt)
deep_first d x = deep_operand d x 0 None None square

deep_start : (d : ℕ) (x : LexKind) → Deep d (0 + d) x (machine.step_start x)
deep_start d SquareOpen = (omega arith, tt)
deep_start d x = tt

deep_named_by : (d : ℕ) (x : LexKind) (f : Field) (n : ℕ) (a o : Option Constraint) (k : Open) → Deep d (opens_in k + d) x (machine.step_named x f n a o k)
deep_named_by d Equal f n a o k = (refl, tt)
deep_named_by d x f n a o k = tt

deep_equals : (d : ℕ) (x : LexKind) (f : Field) (n : ℕ) (a o : Option Constraint) (k : Open) → Deep d (opens_in k + d) x (machine.step_equals x f n a o k)
deep_equals d (Word t) f n a o k = (refl, tt)
deep_equals d (Quoted t) f n a o k = (refl, tt)
deep_equals d (Regex t) f n a o k = (refl, tt)
deep_equals d x f n a o k = tt

deep_square : (d : ℕ) (x : LexKind) (c : Constraint) (o : Option Constraint) → Deep d (1 + d) x (machine.step_after_square x c o)
deep_square d SquareClose c o = (omega arith, tt)
deep_square d x c o = tt

deep_round : (d : ℕ) (x : LexKind) (c : Constraint) (o : Option Constraint) (n : ℕ) (a p : Option Constraint) (k : Open) → Deep d (suc (opens_in k) + d) x (machine.step_after_round x c o n a p k)
deep_round d RoundClose c o n a p k = (omega arith, tt)
deep_round d x c o n a p k = tt

deep_close : (d : ℕ) (x : LexKind) (c : Constraint) (o : Option Constraint) (k : Open) → Deep d (opens_in k + d) x (machine.step_close x c o k)
deep_close d x c o square = deep_square d x c o
deep_close d x c o (round n a p k) = deep_round d x c o n a p k

deep_after : (d : ℕ) (x : LexKind) (c : Constraint) (o : Option Constraint) (k : Open) → Deep d (opens_in k + d) x (machine.step_after x c o k)
deep_after d And c o k = (refl, tt)
deep_after d Or c o k = (refl, tt)
deep_after d x c o k = deep_close d x c o k

pub deep : (d : ℕ) (s : State) (x : LexKind) → Deep d (opens s + d) x (step s x)
deep d start x = deep_start d x
deep d first x = deep_first d x
deep d (operand n a o k) x = deep_operand d x n a o k
deep d (named f n a o k) x = deep_named_by d x f n a o k
deep d (equals f n a o k) x = deep_equals d x f n a o k
deep d (after c o k) x = deep_after d x c o k
deep d (done c) x = tt
