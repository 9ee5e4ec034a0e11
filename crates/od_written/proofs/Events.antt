-- Lines of an event rule that is written out are that rule.
use Rattle.std.proofs.Common.{◌≡◌, ℕ, true, if◌then◌else◌, List, [], ◌∷◌, ◌++◌, Option, Some, None, codes, refl, ◌∙◌, ap}
use Rattle.od_pattern.specs.declared.rule.Many.{Many}
use Rattle.od_pattern.specs.declared.rule.Many.TheVariants.{One, Optional, All, AllOne}
use Rattle.od_pattern.specs.declared.rule.Argument.{Argument}
use Rattle.od_pattern.specs.declared.pattern.Surface.{Surface}
use Rattle.od_language.specs.Depth.{BreaksRule}
use Rattle.od_language.specs.FirstFault.{Keeps}
use Rattle.od_language.specs.Identifier.{is_identifier}
use Rattle.od_syntax.specs.Events.{captures, Line, Head, head_of, head_behind, head_with, many_of, trigger_cut, is_trigger, argument_cut, behind_head, IsTrigger, trigger, IsArgument, one, AreArguments, none, more, event}
use Rattle.od_syntax.specs.Rules.{BreaksSurface}
use Rattle.od_written.specs.Events.{label_pieces, many_pieces, head_pieces, IsLineOf, AreLinesOf, IsWritableLabel, IsWritableArgument, AreWritableArguments, AllKeep, EventsReadBack}
use Rattle.od_written.specs.Paths.{path_written}
use Rattle.od_written.specs.Surfaces.{surface_written, IsWritableSurface}
use Rattle.od_written.proofs.Texts.{surface_text, path_text}

-- the head of an argument
abbrev head : Argument → Head
head a = record { name = a.name; label = a.label; many = a.many }

many_back : (name : List ℕ) (label : Option (List ℕ)) (many : Many) → head_with name label (many_of (many_pieces many)) ≡ Some (record { name = name; label = label; many = many })
many_back name label One = refl
many_back name label Optional = refl
many_back name label All = refl
many_back name label AllOne = refl

behind_name : (name : List ℕ) (label : Option (List ℕ)) (many : Many) → IsWritableLabel label → head_behind name (label_pieces label ++ many_pieces many) ≡ Some (record { name = name; label = label; many = many })
behind_name name None One w = refl
behind_name name None Optional w = refl
behind_name name None All w = refl
behind_name name None AllOne w = refl
behind_name name (Some label) many w = ap (λ b. if b then head_with name (Some label) (many_of (many_pieces many)) else None) w ∙ many_back name (Some label) many

head_back : (a : Argument) → is_identifier a.name ≡ true → IsWritableLabel a.label → head_of (head_pieces a) ≡ Some (head a)
head_back a n w = ap (λ b. if b then head_behind a.name (label_pieces a.label ++ many_pieces a.many) else None) n ∙ behind_name a.name a.label a.many w

trigger_back : (line : Line) (p : Surface) → IsWritableSurface p → IsLineOf line (codes "trigger" ∷ []) (surface_written p) → Keeps BreaksSurface (surface_written p) → IsTrigger line p
trigger_back line p w l keeps =
    trigger l.cut.at l.cut.text p
    (ap trigger_cut l.is_cut ∙ ap (λ z. if is_trigger z then Some (l.cut.at, l.cut.text) else None) l.head_is)
    (surface_text l.cut.at l.cut.text p w l.text keeps)

argument_back : (names : List (List ℕ)) (line : Line) (a : Argument) → IsWritableArgument names a → IsLineOf line (head_pieces a) (path_written a.path) → Keeps (BreaksRule 0) (path_written a.path) →
    IsArgument names line a
argument_back names line a w l keeps =
    one (head a) l.cut.at l.cut.text a.path
    (ap argument_cut l.is_cut ∙ ap (λ z. behind_head (head_of z) l.cut) l.head_is ∙ ap (λ z. behind_head z l.cut) (head_back a w.name w.label))
    w.unused (path_text l.cut.at l.cut.text a.path w.path l.text keeps)

arguments_back : (names : List (List ℕ)) (lines : List Line) (found : List Argument) → AreWritableArguments names found → AreLinesOf lines found → AllKeep found → AreArguments names lines found
arguments_back names [] [] w l k = none names
arguments_back names [] (a ∷ found) w l k = absurd l
arguments_back names (line ∷ others) [] w l k = absurd l
arguments_back names (line ∷ others) (a ∷ found) w l k = more names line others a found (argument_back names line a w.0 l.0 k.0) (arguments_back (names ++ a.name ∷ []) others found w.1 l.1 k.1)

pub events_read_back : EventsReadBack
events_read_back [] rule w l k = absurd l
events_read_back (line ∷ others) rule w l k =
    event line others rule.trigger rule.arguments (trigger_back line rule.trigger w.0 l.0 k.0) (arguments_back (captures rule.trigger) others rule.arguments w.1 l.1 k.1)
