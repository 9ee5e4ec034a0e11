-- Event patterns written out in lines: each has a head of given pieces, `=`, and a text of given
-- lexemes.
use Rattle.std.specs.Prelude.{◌≡◌, ℕ, true, false, List, [], ◌∷◌, ◌++◌, Option, Some, None, codes}
use Rattle.od_pattern.specs.declared.rule.Many.{Many}
use Rattle.od_pattern.specs.declared.rule.Many.TheVariants.{One, Optional, All, AllOne}
use Rattle.od_pattern.specs.declared.rule.Argument.{Argument}
use Rattle.od_pattern.specs.declared.rule.EventRule.{EventRule}
use Rattle.od_language.specs.declared.lexeme.LexKind.{LexKind}
use Rattle.od_language.specs.Depth.{BreaksRule}
use Rattle.od_language.specs.FirstFault.{Keeps}
use Rattle.od_language.specs.Identifier.{is_identifier}
use Rattle.od_syntax.specs.Events.{captures, Line, Cut, cut_from, pieces, IsEvent}
use Rattle.od_syntax.specs.Rules.{is_one_of, BreaksSurface}
use Rattle.od_written.specs.Paths.{path_written, IsWritablePath}
use Rattle.od_written.specs.Surfaces.{surface_written, IsWritableSurface}
use Rattle.od_written.specs.Texts.{HasLexemes}

-- the pieces of a label, behind the name
abbrev pub label_pieces : Option (List ℕ) → List (List ℕ)
label_pieces None = []
label_pieces (Some label) = codes ":" ∷ label ∷ []

-- the piece of a quantifier, behind name and label
abbrev pub many_pieces : Many → List (List ℕ)
many_pieces One = []
many_pieces Optional = codes "?" ∷ []
many_pieces All = codes "*" ∷ []
many_pieces AllOne = codes "+" ∷ []

-- the pieces of an argument's head
abbrev pub head_pieces : Argument → List (List ℕ)
head_pieces a = a.name ∷ (label_pieces a.label ++ many_pieces a.many)

-- a line has a head of these pieces, and behind the `=` a text of these lexemes
pub record IsLineOf (line : Line) (head : List (List ℕ)) (word : List LexKind) : Type 0 where
  pub cut : Cut
  pub is_cut : cut_from line.at line.text ≡ Some cut
  pub head_is : pieces cut.head ≡ head
  pub text : HasLexemes cut.at cut.text word

-- lines are those of arguments, in their order
abbrev pub AreLinesOf : List Line → List Argument → Type 0
AreLinesOf [] [] = Unit {0}
AreLinesOf [] (a ∷ more) = ⊥
AreLinesOf (line ∷ others) [] = ⊥
AreLinesOf (line ∷ others) (a ∷ more) =
    IsLineOf line (head_pieces a) (path_written a.path) × AreLinesOf others more

-- lines are those of an event rule: the trigger's first, then those of the arguments
abbrev pub AreEventLines : List Line → EventRule → Type 0
AreEventLines [] rule = ⊥
AreEventLines (line ∷ others) rule =
    IsLineOf line (codes "trigger" ∷ []) (surface_written rule.trigger)
    × AreLinesOf others rule.arguments

-- a label, where there is one, is an identifier
abbrev pub IsWritableLabel : Option (List ℕ) → Type 0
IsWritableLabel None = Unit {0}
IsWritableLabel (Some label) = is_identifier label ≡ true

-- an argument that can be written, where these names are taken
pub record IsWritableArgument (names : List (List ℕ)) (a : Argument) : Type 0 where
  pub name : is_identifier a.name ≡ true
  pub unused : is_one_of names a.name ≡ false
  pub label : IsWritableLabel a.label
  pub path : IsWritablePath a.path

-- the same of arguments, of which each takes its name
abbrev pub AreWritableArguments : List (List ℕ) → List Argument → Type 0
AreWritableArguments names [] = Unit {0}
AreWritableArguments names (a ∷ more) =
    IsWritableArgument names a × AreWritableArguments (names ++ a.name ∷ []) more

-- an event rule that can be written: no argument has the name of a capture of the trigger
abbrev pub IsWritableEvent : EventRule → Type 0
IsWritableEvent rule =
    IsWritableSurface rule.trigger × AreWritableArguments (captures rule.trigger) rule.arguments

-- the paths of arguments keep the rules of paths
abbrev pub AllKeep : List Argument → Type 0
AllKeep [] = Unit {0}
AllKeep (a ∷ more) = Keeps (BreaksRule 0) (path_written a.path) × AllKeep more

-- a trigger keeps the rules of surfaces, and the paths those of paths
abbrev pub EventKeeps : EventRule → Type 0
EventKeeps rule = Keeps BreaksSurface (surface_written rule.trigger) × AllKeep rule.arguments

-- lines that an event rule is written out in are that rule
abbrev pub EventsReadBack : Type 0
EventsReadBack =
    (lines : List Line) (rule : EventRule) → IsWritableEvent rule → AreEventLines lines rule →
    EventKeeps rule → IsEvent lines rule
