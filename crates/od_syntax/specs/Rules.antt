-- The rules of surface patterns: in the order BadRange, NullableRepeat, SameCapture, RegexLong,
-- TooDeep.
use Rattle.std.specs.Prelude.{ℕ, Bool, false, ◌||◌, if◌then◌else◌, List, [], ◌∷◌, Some, None}
use Rattle.od_language.specs.declared.pattern_fault.PatternKind.TheVariants as kind
use Rattle.od_language.specs.declared.lexeme.LexKind.{LexKind}
use Rattle.od_language.specs.declared.lexeme.LexKind.TheVariants.{NameOpen, Range}
use Rattle.od_language.specs.Depth.{broken_rule, depth_after, is_bad_range}
use Rattle.od_language.specs.Fields.{is_text}
use Rattle.od_language.specs.FirstFault.{Rules}
use Rattle.od_language.specs.Machine.{Rule}
use Rattle.od_language.specs.Narrower.{BreaksInOrder}
use Rattle.od_syntax.specs.Surfaces.{Surfaces}
use Rattle.od_syntax.specs.Sizes.{may_repeat, may_always}

-- whether a text is one of these
abbrev pub is_one_of : List (List ℕ) → List ℕ → Bool
is_one_of [] name = false
is_one_of (first ∷ more) name = is_text first name || is_one_of more name

-- the names of the captures that lexemes open
abbrev pub opened_names : List LexKind → List (List ℕ)
opened_names [] = []
opened_names (NameOpen name ∷ more) = name ∷ opened_names more
opened_names (x ∷ more) = opened_names more

-- a range whose least is above its most, or whose most is 0
abbrev pub bad_range : Rule LexKind
bad_range front (Range least most) = if is_bad_range least most then Some kind.BadRange else None
bad_range front x = None

-- a capture whose name stands before it, else what a lexeme breaks by itself
abbrev pub capture_or_own : Rule LexKind
capture_or_own front (NameOpen name) =
    if is_one_of (opened_names front) name then Some kind.SameCapture else broken_rule (depth_after 0 front) (NameOpen name)
capture_or_own front x = broken_rule (depth_after 0 front) x

-- Behind a front a lexeme of a surface breaks a rule. NullableRepeat stands where a surface goes on
-- whose bodies are any,
-- but none in which only bodies that take a token are repeated without a most.
abbrev pub BreaksSurface : Rules LexKind
BreaksSurface =
    BreaksInOrder (Surfaces may_always) (Surfaces may_repeat) bad_range kind.NullableRepeat capture_or_own
