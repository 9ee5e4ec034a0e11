-- A rule that stands between two grammars: a wide one, and a narrow one, which has fewer words for the
-- same values.
-- It is broken where a front that begins a narrow word goes on as a wide word, but as no narrow one.
use Rattle.std.specs.Prelude.{◌≡◌, List, [], ◌∷◌, ◌++◌, Option, Some, None, Result, Ok, Err}
use Rattle.od_language.specs.declared.pattern_fault.PatternKind.{PatternKind}
use Rattle.od_language.specs.Machine.{Step, Rule, steps, first_broken}
use Rattle.od_language.specs.FirstFault.{Grammar, Begins}

module _ {K C : Type 0} (Wide Narrow : Grammar K C) where
  -- a wide word goes on with x where no narrow one does
  pub record Narrows (front : List K) (x : K) : Type 0 where
    pub begun : Begins Narrow front
    pub wide : Begins Wide (front ++ x ∷ [])
    pub narrow : Begins Narrow (front ++ x ∷ []) → ⊥

  -- Of the rules that one lexeme breaks the first counts: those before, then that of the narrow
  -- grammar, then those after.
  pub data BreaksInOrder (earlier : Rule K) (between : PatternKind) (later : Rule K) (front : List K) (x : K) : PatternKind → Type 0 where
    before : (k : PatternKind) → earlier front x ≡ Some k →
        BreaksInOrder earlier between later front x k
    narrows : earlier front x ≡ None → Narrows front x →
        BreaksInOrder earlier between later front x between
    after : (k : PatternKind) → earlier front x ≡ None → (Narrows front x → ⊥) →
        later front x ≡ Some k →
        BreaksInOrder earlier between later front x k

-- The same as a test, by a machine `narrow` of the narrow grammar: `extra` says in which of its states
-- the rule between is broken.
module _ {S K : Type 0} (start : S) (narrow : Step S K) (earlier later : Rule K) (extra : S → K →
    Option PatternKind) where
  abbrev pub rule_at : Result S PatternKind → Rule K
  rule_at (Ok s) f x = first_broken (earlier f x) (first_broken (extra s x) (later f x))
  rule_at (Err j) f x = first_broken (earlier f x) (later f x)

  -- the rule behind a front
  abbrev pub rule_between : Rule K
  rule_between f x = rule_at (steps narrow start f) f x
