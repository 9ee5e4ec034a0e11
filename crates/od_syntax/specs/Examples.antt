-- Worked cases: texts with their first faults, and the brackets that open steps.
use Rattle.std.specs.Prelude.{◌≡◌, ℕ, List, [], ◌∷◌, ◌++◌, Some, None, Ok, Err, codes}
use Rattle.std.specs.List.{repeat}
use Rattle.od_pattern.specs.declared.pattern.Constraint.TheVariants as constraint
use Rattle.od_pattern.specs.declared.pattern.Field.TheVariants.{Norm, Tag}
use Rattle.od_pattern.specs.declared.pattern.Surface.{Surface}
use Rattle.od_pattern.specs.declared.pattern.Surface.TheVariants as surface
use Rattle.od_pattern.specs.declared.pattern.Value.TheVariants.{Plain}
use Rattle.od_pattern.specs.declared.path.Path.{Path}
use Rattle.od_pattern.specs.declared.path.Path.TheVariants as path
use Rattle.od_pattern.specs.declared.rule.Argument.{Argument}
use Rattle.od_pattern.specs.declared.rule.EventRule.{EventRule}
use Rattle.od_pattern.specs.declared.rule.Hop.{Hop}
use Rattle.od_pattern.specs.declared.rule.Many.TheVariants.{One, Optional}
use Rattle.od_language.specs.declared.pattern_fault.PatternKind.{PatternKind}
use Rattle.od_language.specs.declared.pattern_fault.PatternKind.TheVariants as kind
use Rattle.od_language.specs.Fields.{compared_text}
use Rattle.od_language.specs.Lexed.{lexed}
use Rattle.od_syntax.specs.EventVerdicts.{event_of}
use Rattle.od_syntax.specs.HopVerdicts.{hop_of}
use Rattle.od_syntax.specs.Told.{Told, lexeme, steps_open, ToldLexeme, told}
use Rattle.od_syntax.specs.Verdicts.{surface_of, path_at}

-- a text that is no surface pattern, with the place of its first fault
abbrev pub NoSurface : List ℕ → ℕ → PatternKind → Type 0
NoSurface text at k = surface_of text ≡ Err (at, k)

-- a text that is no hop
abbrev pub NoHop : List ℕ → ℕ → PatternKind → Type 0
NoHop text at k = hop_of text ≡ Err (at, k)

-- a text that is a hop with this value
abbrev pub IsHopOf : List ℕ → Hop → Type 0
IsHopOf text h = hop_of text ≡ Ok h

-- a text that is no path
abbrev pub NoPath : List ℕ → ℕ → PatternKind → Type 0
NoPath text at k = path_at 0 text ≡ Err (at, k)

-- a text that is no event pattern
abbrev pub NoEvent : List ℕ → ℕ → PatternKind → Type 0
NoEvent text at k = event_of text ≡ Err (at, k)

-- a text that is an event pattern with this value
abbrev pub IsEventOf : List ℕ → EventRule → Type 0
IsEventOf text e = event_of text ≡ Ok e

-- an identifier of one byte more than one may have
abbrev pub long_identifier : List ℕ
long_identifier = repeat 65 (codes "n")

-- the place of a lexeme, if it opens steps, before others
abbrev pub if_opened : Told → ℕ → List ℕ → List ℕ
if_opened steps_open at places = at ∷ places
if_opened (lexeme x) at places = places

-- the places of the brackets that open steps
abbrev pub opened_at : List ToldLexeme → List ℕ
opened_at [] = []
opened_at (x ∷ more) = if_opened x.told x.at (opened_at more)

-- a text, and the places of its brackets that open steps
abbrev pub OpensSteps : List ℕ → List ℕ → Type 0
OpensSteps text places = opened_at (told (lexed text).0) ≡ places

-- Faults come in the order of the text, the lexer's too; a word is an unknown field only in a field's
-- place. Of several faults at one place a lexeme that cannot stand there comes first, and a pattern is
-- too big only where nothing else is wrong.
pub record SurfaceExamples : Type 0 where
  pub empty : NoSurface (codes "") 0 kind.Expected
  pub blank : NoSurface (codes " ") 1 kind.Expected
  pub close_before_character : NoSurface (codes ") %") 0 kind.Expected
  pub field_before_character : NoSurface (codes "[colour=red] %") 1 kind.UnknownField
  pub range_before_open_text : NoSurface (codes "a{2,1} \"b") 1 kind.BadRange
  pub character : NoSurface (codes "a %") 2 kind.Lex
  pub field_without_equal : NoSurface (codes "[colour red]") 1 kind.UnknownField
  pub field_alone : NoSurface (codes "[x") 1 kind.UnknownField
  pub no_equal : NoSurface (codes "[tag NN]") 5 kind.Expected
  pub no_identifier : NoSurface (codes "@a-b") 1 kind.Expected
  pub no_identifier_later : NoSurface (codes "x @a-b y") 3 kind.Expected
  pub no_steps : NoSurface (codes "a (>x) b") 3 kind.Expected
  pub no_turn : NoSurface (codes "a{0}") 1 kind.BadRange
  pub no_turn_between : NoSurface (codes "a{0,0}") 1 kind.BadRange
  pub no_turn_at_most : NoSurface (codes "a{,0}") 1 kind.BadRange
  pub no_number : NoSurface (codes "a{,}") 1 kind.Lex
  pub no_digits : NoSurface (codes "a{x}") 1 kind.Lex
  pub leading_zero : NoSurface (codes "a{01}") 1 kind.Lex
  pub great_number : NoSurface (codes "a{1001}") 1 kind.Lex
  pub nullable_body : NoSurface (codes "(a?){2,}?") 4 kind.NullableRepeat
  pub nullable_place : NoSurface (codes "^*") 1 kind.NullableRepeat
  pub same_capture_in_choices : NoSurface (codes "(?<x>a) | (?<x>b)") 10 kind.SameCapture
  pub blank_beyond_ascii : NoSurface (codes "\u{85}\u{a0}") 4 kind.Expected
  pub field_closed : NoSurface (codes "[colour]") 1 kind.UnknownField
  pub no_place_of_a_field : NoSurface (codes "[tag=a colour=red]") 7 kind.Expected
  pub no_identifier_beyond_ascii : NoSurface (codes "@é") 1 kind.Expected
  pub no_identifier_that_long : NoSurface (codes "@" ++ long_identifier) 1 kind.Expected
  pub no_name_that_long : NoSurface (codes "(?<" ++ long_identifier ++ codes ">a)") 1 kind.Expected
  pub long_expression :
      NoSurface (codes "[tag=/\\/" ++ repeat 200 (codes "a") ++ codes "/]") 5 kind.RegexLong
  pub long_expression_out_of_place :
      NoSurface (codes "[tag /" ++ repeat 201 (codes "a") ++ codes "/") 5 kind.Expected
  pub third_separator : NoSurface (codes "a\u{1d}") 1 kind.Lex
  pub fourth_separator : NoSurface (codes "a\u{1e}") 1 kind.Lex
  pub word_of_no_width : NoSurface (codes "\u{200b}\u{feff} %") 7 kind.Lex
  pub not_closed_and_great : NoSurface (codes "(((a{1000}){1000}") 17 kind.Expected
  pub too_deep : NoSurface (repeat 101 (codes "(")) 100 kind.TooDeep
  pub too_big : NoSurface (codes "((a{1000}){1000}){1000}") 0 kind.TooBig
  pub too_big_before_character : NoSurface (codes "(a{1000}){1000} %") 16 kind.Lex

-- a surface of one word
abbrev pub word : List ℕ → Surface
word text = surface.Token (constraint.Is Norm (Plain (compared_text Norm text)))

-- an edge with this label, along it
abbrev pub edge : List ℕ → Path
edge label = path.Along (Some (Plain label))

-- a token with this tag
abbrev pub tagged : List ℕ → Path
tagged tag = path.Filter (constraint.Is Tag (Plain tag))

-- one path behind another, and either of two paths
abbrev pub in_order : Path → Path → Path
in_order p q = path.Seq (p ∷ q ∷ [])

abbrev pub either : Path → Path → Path
either p q = path.Alt (p ∷ q ∷ [])

-- a hop of two words
abbrev pub from_to : List ℕ → Path → List ℕ → Hop
from_to a p b = record { first = word a; rest = record { path = p; surface = word b } ∷ [] }

-- Steps stand between surfaces without choices outside brackets; no bracket in a surface or in a
-- constraint opens steps; inside brackets of steps each bracket is a path's.
pub record HopExamples : Type 0 where
  pub empty : NoHop (codes "") 0 kind.Expected
  pub blank : NoHop (codes " ") 1 kind.Expected
  pub steps_first : NoHop (codes "(>x) a") 0 kind.Expected
  pub steps_in_a_surface : NoHop (codes "a (b (>x)) c") 5 kind.Expected
  pub steps_behind_a_choice : NoHop (codes "a | (>x) b") 4 kind.Expected
  pub choice_before_steps : NoHop (codes "a | b >x c") 6 kind.Expected
  pub choice_behind_steps : NoHop (codes "a >x b | c") 7 kind.Expected
  pub steps_last : NoHop (codes "a >x") 4 kind.Expected
  pub bracket_of_a_surface : NoHop (codes "a (([tag=a] | >x) >y) b") 14 kind.Expected
  pub steps_in_a_constraint : NoHop (codes "a [(>x)] b") 4 kind.Expected
  pub steps_in_a_negation : NoHop (codes "[!(>x)]") 3 kind.Expected
  pub steps_in_a_later_constraint : NoHop (codes "a >x [(>y)] b") 7 kind.Expected
  pub lazy_path : NoHop (codes "a >x*? b") 5 kind.Expected
  pub nullable_body : NoHop (codes "(a?)* >x b") 4 kind.NullableRepeat
  pub same_capture : NoHop (codes "(?<x>a) >x (?<x>b)") 11 kind.SameCapture
  pub character : NoHop (codes "a >x %") 5 kind.Lex
  pub too_big : NoHop (codes "a (>x){1000} (b{1000}){4}") 0 kind.TooBig
  pub choices_in_steps : IsHopOf (codes "a (>x ([tag=a] | >y)) b")
      (from_to (codes "a") (in_order (edge (codes "x")) (either (tagged (codes "a")) (edge (codes "y")))) (codes "b"))
  pub steps_in_steps : IsHopOf (codes "a >x (>y ([tag=a] >z)) b")
      (from_to (codes "a")
      (in_order (edge (codes "x")) (in_order (edge (codes "y")) (in_order (tagged (codes "a")) (edge (codes "z")))))
      (codes "b"))
  pub bracket_behind_steps : IsHopOf (codes "a >x ([tag=a]) b") (record {
    first = word (codes "a");
    rest = record {
      path = edge (codes "x");
      surface = surface.Seq (surface.Token (constraint.Is Tag (Plain (codes "a"))) ∷ word (codes "b") ∷ []);
    } ∷ [];
  })
  pub choices_alone : IsHopOf (codes "a | b") (record {
    first = surface.Alt (word (codes "a") ∷ word (codes "b") ∷ []);
    rest = [];
  })
  pub choices_in_brackets : IsHopOf (codes "a >x (b | c)") (record {
    first = word (codes "a");
    rest = record { path = edge (codes "x"); surface = surface.Alt (word (codes "b") ∷ word (codes "c") ∷ []) } ∷ [];
  })
  pub two_steps : IsHopOf (codes "a >x b >>+ c") (record {
    first = word (codes "a");
    rest = record { path = edge (codes "x"); surface = word (codes "b") }
        ∷ record { path = path.Repeat (path.Along None) 1 None; surface = word (codes "c") } ∷ [];
  })
  pub plain_steps : IsHopOf (codes "a >x b") (from_to (codes "a") (edge (codes "x")) (codes "b"))

-- A path's quantifier has no lazy form, and a path wants no surface.
pub record PathExamples : Type 0 where
  pub empty : NoPath (codes "") 0 kind.Expected
  pub blank : NoPath (codes " ") 1 kind.Expected
  pub lazy : NoPath (codes ">x*?") 3 kind.Expected
  pub word : NoPath (codes "a") 0 kind.Expected
  pub choice : NoPath (codes ">x|") 3 kind.Expected
  pub not_closed : NoPath (codes "(>x") 3 kind.Expected

-- an argument of one mention, by an edge `d`
abbrev pub plain_argument : List ℕ → Argument
plain_argument name = record { name = name; label = None; many = One; path = edge (codes "d") }

-- a trigger `a` with one argument
abbrev pub with_argument : Argument → EventRule
with_argument x = record { trigger = word (codes "a"); arguments = x ∷ [] }

-- a text whose first line is a trigger's; long texts stand in pieces, which compute faster than one
abbrev pub behind_trigger : List ℕ → List ℕ
behind_trigger more = codes "trigger = a\n" ++ more

-- the first line of a text that is too big
abbrev pub great_trigger : List ℕ
great_trigger = codes "trigger = " ++ codes "(a{1000}){1000}\n"

-- The head of a line is tested first, at the line's beginning, blanks included, and an argument's name
-- before the text behind it.
pub record EventHeadExamples : Type 0 where
  pub empty : NoEvent (codes "") 0 kind.Expected
  pub blank : NoEvent (codes " \n ") 3 kind.Expected
  pub no_trigger : NoEvent (codes "who = a") 0 kind.Expected
  pub no_trigger_behind_blanks : NoEvent (codes "  who = a") 0 kind.Expected
  pub trigger_without_equal : NoEvent (codes "trigger a") 0 kind.Expected
  pub label_of_trigger : NoEvent (codes "trigger:N = a") 0 kind.Expected
  pub quantifier_of_trigger : NoEvent (codes "trigger? = a") 0 kind.Expected
  pub argument_without_equal : NoEvent (behind_trigger (codes "x >d")) 12 kind.Expected
  pub no_label : NoEvent (behind_trigger (codes "x:1 = >d")) 12 kind.Expected
  pub no_label_behind_blanks : NoEvent (behind_trigger (codes "  x:1 = >d")) 12 kind.Expected
  pub no_name_that_long :
      NoEvent (behind_trigger (long_identifier ++ codes " = >d")) 12 kind.Expected
  pub argument_called_trigger : IsEventOf (behind_trigger (codes "trigger = >d"))
      (with_argument (plain_argument (codes "trigger")))
  pub label : IsEventOf (behind_trigger (codes "x:N = >d")) (with_argument (record {
    name = codes "x";
    label = Some (codes "N");
    many = One;
    path = edge (codes "d");
  }))
  pub blanks_between_pieces : IsEventOf (behind_trigger (codes " x\u{a0}: N ? = >d"))
      (with_argument (record {
        name = codes "x";
        label = Some (codes "N");
        many = Optional;
        path = edge (codes "d");
      }))
  pub capture_before_path : NoEvent (codes "trigger = (?<x>a)\n" ++ codes "x = ") 18 kind.SameCapture
  pub name_before_path :
      NoEvent (behind_trigger (codes "x = >d\n" ++ codes "x = %")) 19 kind.SameCapture

-- The text behind a head ends with its line, and is read by itself, line by line; places are counted
-- from the beginning of the whole.
pub record EventTextExamples : Type 0 where
  pub trigger_is_no_hop : NoEvent (codes "trigger = a >x b") 12 kind.Expected
  pub text_ends_at_its_line : NoEvent (codes "trigger = a \"b\n" ++ codes "\" c") 12 kind.Lex
  pub close_before_character : NoEvent (codes "trigger = ) %") 10 kind.Expected
  pub character_before_next_line : NoEvent (codes "trigger = a %\n" ++ codes "x = ") 12 kind.Lex
  pub no_path : NoEvent (behind_trigger (codes "x = ")) 16 kind.Expected
  pub no_path_in_its_line : NoEvent (behind_trigger (codes "x = \ny >d")) 16 kind.Expected
  pub no_path_before_a_return : NoEvent (behind_trigger (codes "x = \r\ny = >d")) 17 kind.Expected
  pub no_equal_in_a_later_line :
      NoEvent (codes "trigger = é\n" ++ codes "x = [tag NN]") 22 kind.Expected
  pub returns : IsEventOf (codes "trigger = a\r\n" ++ codes "x = >d\r\n")
      (with_argument (plain_argument (codes "x")))
  pub too_big : NoEvent (great_trigger ++ codes "x = >d") 0 kind.TooBig
  pub too_big_before_no_path : NoEvent (great_trigger ++ codes "x = ") 30 kind.Expected

-- Event patterns: heads, and the texts behind them.
pub record EventExamples : Type 0 where
  pub heads : EventHeadExamples
  pub texts : EventTextExamples

-- A bracket opens steps where an arrow is the first lexeme behind it that is no `(`, and no constraint
-- is open.
pub record StepsExamples : Type 0 where
  pub at_the_beginning : OpensSteps (codes "(>x) a") (0 ∷ [])
  pub in_a_surface : OpensSteps (codes "a (b (>x)) c") (5 ∷ [])
  pub behind_a_choice : OpensSteps (codes "a | (>x) b") (4 ∷ [])
  pub in_a_constraint : OpensSteps (codes "a [(>x)] b") ([])
  pub in_a_negation : OpensSteps (codes "[!(>x)]") ([])
  pub in_a_filter : OpensSteps (codes "a >x [(>y)] b") ([])
  pub before_a_constraint : OpensSteps (codes "a >x ([tag=a]) b") ([])
  pub outside_choices : OpensSteps (codes "a (>x ([tag=a] | >y)) b") (2 ∷ [])
  pub first_bracket_alone : OpensSteps (codes "a (([tag=a] | >x) >y) b") ([])
  pub inner_steps : OpensSteps (codes "a >x (>y ([tag=a] >z)) b") (5 ∷ [])
