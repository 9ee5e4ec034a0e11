-- How deep lexemes are nested, and the rules that a lexeme may break by itself.
use Rattle.std.specs.Prelude.{◌≡◌, ℕ, suc, ◌-◌, Bool, false, ◌||◌, ◌==◌, List, [], ◌∷◌, Option, Some, None, if◌then◌else◌, nat_lt, length, take}
use Rattle.od_language.specs.declared.limits.TheConstants.{OPEN_BRACKETS, EXPRESSION_BYTES}
use Rattle.od_language.specs.declared.pattern_fault.PatternKind.{PatternKind}
use Rattle.od_language.specs.declared.pattern_fault.PatternKind.TheVariants as kind
use Rattle.od_language.specs.declared.lexeme.Lexeme.{Lexeme}
use Rattle.od_language.specs.declared.lexeme.LexKind.{LexKind}
use Rattle.od_language.specs.declared.lexeme.LexKind.TheVariants.{Regex, Range, NameOpen, AheadIs, AheadNot, BehindIs, BehindNot, SquareOpen, SquareClose, RoundOpen, RoundClose}
use Rattle.od_language.specs.Alphabet.{plain, kinds}
use Rattle.od_language.specs.FirstFault.{Rules}

-- the brackets that are open behind a lexeme, where `depth` are open before it
abbrev pub depth_behind : ℕ → LexKind → ℕ
depth_behind depth SquareOpen = suc depth
depth_behind depth RoundOpen = suc depth
depth_behind depth (NameOpen name) = suc depth
depth_behind depth AheadIs = suc depth
depth_behind depth AheadNot = suc depth
depth_behind depth BehindIs = suc depth
depth_behind depth BehindNot = suc depth
depth_behind depth SquareClose = depth - 1
depth_behind depth RoundClose = depth - 1
depth_behind depth _ = depth

-- the brackets that are open behind lexemes
abbrev pub depth_after : ℕ → List LexKind → ℕ
depth_after depth [] = depth
depth_after depth (x ∷ more) = depth_after (depth_behind depth x) more

-- a bracket inside so many open ones that no more may open
abbrev pub too_deep : ℕ → Option PatternKind
too_deep depth = if nat_lt depth OPEN_BRACKETS then None else Some kind.TooDeep

-- a regular expression that is too long
abbrev pub regex_long : List ℕ → Option PatternKind
regex_long text = if nat_lt EXPRESSION_BYTES (length text) then Some kind.RegexLong else None

-- the least is above the most, or the most is 0
abbrev pub is_bad_range : ℕ → Option ℕ → Bool
is_bad_range least None = false
is_bad_range least (Some most) = most == 0 || nat_lt most least

-- the rule that a lexeme breaks, where `depth` brackets are open before it
abbrev pub broken_rule : ℕ → LexKind → Option PatternKind
broken_rule depth (Regex text) = regex_long text
broken_rule depth (Range least most) = if is_bad_range least most then Some kind.BadRange else None
broken_rule depth SquareOpen = too_deep depth
broken_rule depth RoundOpen = too_deep depth
broken_rule depth (NameOpen name) = too_deep depth
broken_rule depth AheadIs = too_deep depth
broken_rule depth AheadNot = too_deep depth
broken_rule depth BehindIs = too_deep depth
broken_rule depth BehindNot = too_deep depth
broken_rule depth _ = None

-- the same behind a front of lexemes, before which `opened` brackets are open
abbrev pub BreaksRule : ℕ → Rules LexKind
BreaksRule opened front x k = broken_rule (depth_after opened front) x ≡ Some k

-- the brackets that are open before a place
abbrev pub depth_before : List Lexeme → ℕ → ℕ
depth_before lexemes from = depth_after 0 (kinds plain (take from lexemes))
