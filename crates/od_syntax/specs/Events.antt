-- Event patterns: lines of their own, each with a head, `=`, and a text of its own.
use Rattle.std.specs.Prelude.{◌≡◌, ℕ, ◌+◌, Bool, true, false, not, ◌&&◌, ◌==◌, if◌then◌else◌, List, [], ◌∷◌, ◌++◌, Option, Some, None, codes}
use Rattle.std.specs.List.{list_all, filter}
use Rattle.std.specs.Char.{len_utf8, is_whitespace}
use Rattle.od_pattern.specs.declared.pattern.Surface.{Surface, Row_of-Surface, end_of-Surface, more_of-Surface}
use Rattle.od_pattern.specs.declared.pattern.Surface.TheVariants.{Token, Label, Look, First, Last, Seq', Alt', Repeat', Capture'}
use Rattle.od_pattern.specs.declared.path.Path.{Path}
use Rattle.od_pattern.specs.declared.rule.Many.{Many}
use Rattle.od_pattern.specs.declared.rule.Many.TheVariants.{One, Optional, All, AllOne}
use Rattle.od_pattern.specs.declared.rule.Argument.{Argument}
use Rattle.od_pattern.specs.declared.rule.EventRule.{EventRule}
use Rattle.od_language.specs.declared.pattern_fault.PatternKind.{PatternKind}
use Rattle.od_language.specs.declared.pattern_fault.PatternKind.TheVariants as kind
use Rattle.od_language.specs.Fields.{is_text}
use Rattle.od_language.specs.Identifier.{in_identifier, is_identifier}
use Rattle.od_language.specs.Lexing.{size_of}
use Rattle.od_language.specs.Whole.{IsSmall, IsFaultOrBig}
use Rattle.od_syntax.specs.Rules.{is_one_of}
use Rattle.od_syntax.specs.Sizes.{event_size}
use Rattle.od_syntax.specs.Texts.{IsSurface, IsSurfaceFault, IsPath, IsPathFault}

-- the names of captures, in the order in which they are opened
abbrev mutual
  pub captures : Surface → List (List ℕ)
  captures (Token c) = []
  captures (Label name) = []
  captures (Look ahead positive c) = []
  captures First = []
  captures Last = []
  captures (Seq' v row) = captures_of row
  captures (Alt' v row) = captures_of row
  captures (Repeat' v (more_of-Surface p end_of-Surface) turns) = captures p
  captures (Capture' name v (more_of-Surface p end_of-Surface)) = name ∷ captures p

  pub captures_of : {m : _} → Row_of-Surface m → List (List ℕ)
  captures_of end_of-Surface = []
  captures_of (more_of-Surface p rest) = captures p ++ captures_of rest

-- a line and the place of its first byte
pub record Line : Type 0 where
  pub at : ℕ
  pub text : List ℕ

-- a character in front of the first line
abbrev pub begun_with : ℕ → ℕ → List Line → List Line
begun_with at c [] = []
begun_with at c (l ∷ ls) = record { at = at; text = c ∷ l.text } ∷ ls

-- the lines of characters that begin at a place, without their line feeds
abbrev pub lines : ℕ → List ℕ → List Line
lines at [] = record { at = at; text = [] } ∷ []
lines at (c ∷ cs) =
    if c == 10 then record { at = at; text = [] } ∷ lines (at + 1) cs else
    begun_with at c (lines (at + len_utf8 c) cs)

-- lines that are not of white space alone
abbrev pub own_lines : List ℕ → List Line
own_lines cs = filter (λ l. not (list_all is_whitespace l.text)) (lines 0 cs)

-- a line in two at its first `=`: the head, and the text behind, which begins at a place
pub record Cut : Type 0 where
  pub head : List ℕ
  pub at : ℕ
  pub text : List ℕ

-- a character in front of a head
abbrev pub headed_by : ℕ → Option Cut → Option Cut
headed_by c None = None
headed_by c (Some cut) = Some (record { head = c ∷ cut.head; at = cut.at; text = cut.text })

-- characters that begin at a place, cut at their first `=`
abbrev pub cut_from : ℕ → List ℕ → Option Cut
cut_from at [] = None
cut_from at (c ∷ cs) =
    if c == 61 then Some (record { head = []; at = at + 1; text = cs }) else
    headed_by c (cut_from (at + len_utf8 c) cs)

-- whether a character of an identifier comes
abbrev pub goes_on : List ℕ → Bool
goes_on [] = false
goes_on (c ∷ cs) = in_identifier c

-- a character in front of the first piece
abbrev pub joined_to : ℕ → List (List ℕ) → List (List ℕ)
joined_to c [] = (c ∷ []) ∷ []
joined_to c (p ∷ ps) = (c ∷ p) ∷ ps

-- the pieces of a head: runs of characters of identifiers, and other characters one by one; white space
-- separates
abbrev pub pieces : List ℕ → List (List ℕ)
pieces [] = []
pieces (c ∷ cs) =
    if is_whitespace c then pieces cs else
    if in_identifier c && goes_on cs then joined_to c (pieces cs) else
    (c ∷ []) ∷ pieces cs

-- what stands before the `=` of an argument
pub record Head : Type 0 where
  pub name : List ℕ
  pub label : Option (List ℕ)
  pub many : Many

-- the quantifier, behind name and label
abbrev pub many_of : List (List ℕ) → Option Many
many_of [] = Some One
many_of (p ∷ []) =
    if is_text p (codes "?") then Some Optional else
    if is_text p (codes "*") then Some All else
    if is_text p (codes "+") then Some AllOne else
    None
many_of (p ∷ q ∷ more) = None

abbrev pub head_with : List ℕ → Option (List ℕ) → Option Many → Option Head
head_with name label None = None
head_with name label (Some many) = Some (record { name = name; label = label; many = many })

-- behind the name a `:` and a label, if there is one, then the quantifier
abbrev pub head_behind : List ℕ → List (List ℕ) → Option Head
head_behind name (p ∷ q ∷ more) =
    if not (is_text p (codes ":")) then head_with name None (many_of (p ∷ q ∷ more)) else
    if is_identifier q then head_with name (Some q) (many_of more) else
    None
head_behind name more = head_with name None (many_of more)

-- name, label and quantifier
abbrev pub head_of : List (List ℕ) → Option Head
head_of [] = None
head_of (name ∷ more) = if is_identifier name then head_behind name more else None

-- the one piece `trigger`
abbrev pub is_trigger : List (List ℕ) → Bool
is_trigger (p ∷ []) = is_text p (codes "trigger")
is_trigger ps = false

-- the place and the text behind the head of the trigger's line, where its head is one
abbrev pub trigger_cut : Option Cut → Option (ℕ × List ℕ)
trigger_cut None = None
trigger_cut (Some cut) = if is_trigger (pieces cut.head) then Some (cut.at, cut.text) else None

abbrev pub trigger_line : Line → Option (ℕ × List ℕ)
trigger_line line = trigger_cut (cut_from line.at line.text)

-- an argument's head, and the place and the text behind it
abbrev pub behind_head : Option Head → Cut → Option (Head × ℕ × List ℕ)
behind_head None cut = None
behind_head (Some head) cut = Some (head, cut.at, cut.text)

abbrev pub argument_cut : Option Cut → Option (Head × ℕ × List ℕ)
argument_cut None = None
argument_cut (Some cut) = behind_head (head_of (pieces cut.head)) cut

abbrev pub argument_line : Line → Option (Head × ℕ × List ℕ)
argument_line line = argument_cut (cut_from line.at line.text)

-- a line is the trigger's, with this surface
pub data IsTrigger (line : Line) : Surface → Type 0 where
  trigger : (at : ℕ) (text : List ℕ) (p : Surface) → trigger_line line ≡ Some (at, text) →
      IsSurface at text p → IsTrigger line p

-- what is wrong with the trigger's line: its head, else the text behind
pub data IsTriggerFault (line : Line) : ℕ → PatternKind → Type 0 where
  unheaded : trigger_line line ≡ None → IsTriggerFault line line.at kind.Expected
  behind : (at : ℕ) (text : List ℕ) → trigger_line line ≡ Some (at, text) →
      (place : ℕ) (k : PatternKind) →
      IsSurfaceFault at text place k → IsTriggerFault line place k

-- an argument of this head, with a path
abbrev pub argument : Head → Path → Argument
argument head p = record { name = head.name; label = head.label; many = head.many; path = p }

module _ (names : List (List ℕ)) (line : Line) where
  -- a line is an argument's, where these names are taken
  pub data IsArgument : Argument → Type 0 where
    one : (head : Head) (at : ℕ) (text : List ℕ) (p : Path) →
        argument_line line ≡ Some (head, at, text) →
        is_one_of names head.name ≡ false → IsPath at text p → IsArgument (argument head p)

  -- what is wrong with an argument's line: its head, else its name, which is taken, else the text
  -- behind
  pub data IsArgumentFault : ℕ → PatternKind → Type 0 where
    nameless : argument_line line ≡ None → IsArgumentFault line.at kind.Expected
    again : (head : Head) (at : ℕ) (text : List ℕ) → argument_line line ≡ Some (head, at, text) →
        is_one_of names head.name ≡ true → IsArgumentFault line.at kind.SameCapture
    behind : (head : Head) (at : ℕ) (text : List ℕ) → argument_line line ≡ Some (head, at, text) →
        is_one_of names head.name ≡ false → (place : ℕ) (k : PatternKind) →
        IsPathFault at text place k → IsArgumentFault place k

-- the arguments of lines, where these names are taken
pub data AreArguments : List (List ℕ) → List Line → List Argument → Type 0 where
  none : (names : List (List ℕ)) → AreArguments names [] []
  more : (names : List (List ℕ)) (line : Line) (others : List Line) (a : Argument) (found : List Argument) →
      IsArgument names line a → AreArguments (names ++ a.name ∷ []) others found →
      AreArguments names (line ∷ others) (a ∷ found)

-- the first line with a fault decides
pub data IsArgumentsFault : List (List ℕ) → List Line → ℕ → PatternKind → Type 0 where
  here : (names : List (List ℕ)) (line : Line) (others : List Line) (at : ℕ) (k : PatternKind) →
      IsArgumentFault names line at k → IsArgumentsFault names (line ∷ others) at k
  later : (names : List (List ℕ)) (line : Line) (others : List Line) (a : Argument) (at : ℕ) (k : PatternKind) →
      IsArgument names line a → IsArgumentsFault (names ++ a.name ∷ []) others at k →
      IsArgumentsFault names (line ∷ others) at k

-- lines are an event rule: the trigger's first, then the arguments'
pub data IsEvent : List Line → EventRule → Type 0 where
  event : (line : Line) (others : List Line) (p : Surface) (found : List Argument) → IsTrigger line p →
      AreArguments (captures p) others found → IsEvent (line ∷ others) (record { trigger = p; arguments = found })

-- the first fault of lines; a text without a line of its own ends too early
pub data IsEventFault (end : ℕ) : List Line → ℕ → PatternKind → Type 0 where
  none : IsEventFault end [] end kind.Expected
  trigger : (line : Line) (others : List Line) (at : ℕ) (k : PatternKind) →
      IsTriggerFault line at k → IsEventFault end (line ∷ others) at k
  arguments : (line : Line) (others : List Line) (p : Surface) (at : ℕ) (k : PatternKind) →
      IsTrigger line p →
      IsArgumentsFault (captures p) others at k → IsEventFault end (line ∷ others) at k

-- a text is an event pattern
abbrev pub IsEventText : List ℕ → EventRule → Type 0
IsEventText cs = IsSmall (IsEvent (own_lines cs)) event_size

-- the first fault of a text that is none
abbrev pub IsEventTextFault : List ℕ → ℕ → PatternKind → Type 0
IsEventTextFault cs =
    IsFaultOrBig (IsEvent (own_lines cs)) (IsEventFault (size_of cs) (own_lines cs)) event_size
