-- A hop read from lexemes told apart, with the rules: what the contracts of the parser's parts
-- speak of.
use Rattle.std.specs.Prelude.{ℕ, Bool, true, false, List, [], ◌∷◌, Option, Some, None}
use Rattle.od_pattern.specs.declared.pattern.Surface.{Surface}
use Rattle.od_pattern.specs.declared.path.Path.{Path}
use Rattle.od_pattern.specs.declared.rule.Hop.{Hop}
use Rattle.od_language.specs.declared.pattern_fault.PatternKind.{PatternKind}
use Rattle.od_language.specs.declared.pattern_fault.PatternKind.TheVariants as kind
use Rattle.od_language.specs.Machine.{Outcome, stopped, checked, either_way, first_broken}
use Rattle.od_path.specs.Steps.{told_behind}
use Rattle.od_surface.specs.Reading.{Left, own_rule}
use Rattle.od_syntax.specs.HopMachine.{State, first, behind, alone_if, joined_if, to_steps, step, ended, repeat_rule}
use Rattle.od_syntax.specs.Rules.{bad_range}
use Rattle.od_syntax.specs.Sizes.{may_repeat, may_always}
use Rattle.od_syntax.specs.StepsMachine.{opened}
use Rattle.od_syntax.specs.SurfaceMachine as surface
use Rattle.od_syntax.specs.Told.{Told, ToldLexeme, untold}

-- the rule that a lexeme breaks, where so many brackets are open before it; `again` is the place of
-- the first capture that is named again
abbrev pub rule_at : Option ℕ → ℕ → State → ℕ → Told → Option PatternKind
rule_at again d s at x =
    first_broken (bad_range [] (untold x))
    (first_broken (repeat_rule may_repeat s x) (own_rule again d at (untold x)))

-- the reading from a state on
abbrev pub hop_run : Option ℕ → ℕ → State → List ToldLexeme → Outcome ToldLexeme Hop
hop_run again d s [] = stopped (ended s) [] 0 kind.Expected
hop_run again d s (x ∷ l) = either_way (step may_always s x.told)
    (λ t. checked (rule_at again d s x.at x.told) x.at (hop_run again (told_behind d x.told) t l))
    (λ k. stopped (ended s) (x ∷ l) x.at k)

-- the same rule, where the lexeme begins steps
abbrev pub bare_rule : Option ℕ → ℕ → ℕ → Told → Option PatternKind
bare_rule again d at x = first_broken (bad_range [] (untold x)) (own_rule again d at (untold x))

-- The reading behind a surface that no lexeme goes on: it may end with one hop, if any, and go on
-- to steps behind another.
abbrev pub behind_surface : Option ℕ → ℕ → Option Hop → Option Hop → List ToldLexeme →
    Outcome ToldLexeme Hop
behind_surface again d whole joins [] = stopped whole [] 0 kind.Expected
behind_surface again d whole joins (x ∷ l) =
    either_way (to_steps (opened [] x.told) joins kind.Expected)
    (λ t. checked (bare_rule again d x.at x.told) x.at (hop_run again (told_behind d x.told) t l))
    (λ k. stopped whole (x ∷ l) x.at k)

-- the reading behind a hop to which steps may be joined
abbrev pub hop_from : Option ℕ → ℕ → Hop → List ToldLexeme → Outcome ToldLexeme Hop
hop_from again d h = behind_surface again d (Some h) (Some h)

-- where a surface stands: at the front, or behind a hop and steps
abbrev pub Before : Type 0
Before = Option (Hop × Path)

abbrev pub is_behind : Before → Bool
is_behind None = false
is_behind (Some m) = true

-- the state of a hop, by that of the surface
abbrev pub into : Before → surface.State → State
into None q = first q
into (Some m) q = behind m.0 m.1 q

-- the hop that ends with a surface, if one does: with one that may have choices outside brackets,
-- or with one that has none
abbrev pub whole_in : Before → Option Surface → Option Surface → Option Hop
whole_in None s j = alone_if s
whole_in (Some m) s j = joined_if m.0 m.1 j

-- the hop to which steps may be joined
abbrev pub joins_in : Before → Option Surface → Option Hop
joins_in None j = alone_if j
joins_in (Some m) j = joined_if m.0 m.1 j

-- a surface, where no choice stands in it outside brackets
abbrev pub single_if : Bool → Surface → Option Surface
single_if true p = Some p
single_if false p = None

-- what was read of a surface, behind which no bracket is open
abbrev pub left_so : Bool → Surface → Left
left_so single p = record { depth = 0; whole = p; single = single_if single p }

-- the reading of a hop behind such a surface
abbrev pub on_behind : Option ℕ → Before → Bool → Surface → List ToldLexeme → Outcome ToldLexeme Hop
on_behind again m single p =
    behind_surface again 0 (whole_in m (Some p) (single_if single p))
    (joins_in m (single_if single p))
