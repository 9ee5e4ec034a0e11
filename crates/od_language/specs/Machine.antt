-- A machine that reads a grammar one lexeme at a time: a means of proof. No definition of the language
-- speaks of it.
use Rattle.std.specs.Prelude.{◌≡◌, ℕ, List, [], ◌∷◌, ◌++◌, Option, Some, None, Result, Ok, Err, ◌⊎◌}
use Rattle.od_language.specs.declared.pattern_fault.PatternKind.{PatternKind}
use Rattle.od_language.specs.declared.pattern_fault.PatternKind.TheVariants as kind
use Rattle.od_language.specs.declared.pattern_fault.PatternFault.{PatternFault}
use Rattle.od_language.specs.declared.pattern_fault.PatternFault.TheVariants as fault
use Rattle.od_language.specs.Alphabet.{Alphabet}
use Rattle.od_language.specs.FirstFault.{Grammar, Rules, Begins}

infixl 10 ◌>>=◌
-- on with a value; a fault stays
abbrev pub ◌>>=◌ : {A B E : Type 0} → Result A E → (A → Result B E) → Result B E
(Ok x) >>= f = f x
(Err e) >>= f = Err e

-- the state behind one more lexeme of kind K, or why it is not taken
abbrev pub Step : Type 0 → Type 0 → Type 0
Step S K = S → K → Result S PatternKind

-- the rule that a lexeme breaks behind others, if any
abbrev pub Rule : Type 0 → Type 0
Rule K = List K → K → Option PatternKind

-- the state behind some lexemes, or why the machine does not take one of them
abbrev pub steps : {S K : Type 0} → Step S K → S → List K → Result S PatternKind
steps step s [] = Ok s
steps step s (x ∷ more) = step s x >>= λ t. steps step t more

-- the value and the lexemes behind it, or a fault
abbrev pub Outcome : Type 0 → Type 0 → Type 0
Outcome X C = Result (C × List X) (ℕ × PatternKind)

-- where no lexeme is taken any more: the value, if the machine may end here
abbrev pub stopped : {X C : Type 0} → Option C → List X → ℕ → PatternKind → Outcome X C
stopped None l at k = Err (at, k)
stopped (Some c) l at k = Ok (c, l)

-- on with the next state, where no rule is broken
abbrev pub checked : {X C : Type 0} → Option PatternKind → ℕ → Outcome X C → Outcome X C
checked None at o = o
checked (Some k) at o = Err (at, k)

-- on with the next state, or what is said where there is none
abbrev pub either_way : {S O : Type 0} → Result S PatternKind → (S → O) → (PatternKind → O) → O
either_way (Ok t) on off = on t
either_way (Err k) on off = off k

-- as long as lexemes are taken and no rule is broken, behind the lexemes `before`
abbrev pub run : {X K S C : Type 0} → Alphabet X K → Step S K → Rule K → (S → Option C) → List K →
    S → List X → Outcome X C
run a step rule ended before s [] = stopped (ended s) [] 0 kind.Expected
run a step rule ended before s (x ∷ l) = either_way (step s (a.sort x))
    (λ t. checked (rule before (a.sort x)) (a.place x) (run a step rule ended (before ++ a.sort x ∷ []) t l))
    (λ k. stopped (ended s) (x ∷ l) (a.place x) k)

-- the same, where the rules need no more of the lexemes before than what is noted of them
abbrev pub walk : {X K S C M : Type 0} → Alphabet X K → Step S K → (M → K → Option PatternKind) →
    (M → K → M) →
    (S → Option C) → M → S → List X → Outcome X C
walk a step rule note ended m s [] = stopped (ended s) [] 0 kind.Expected
walk a step rule note ended m s (x ∷ l) = either_way (step s (a.sort x))
    (λ t. checked (rule m (a.sort x)) (a.place x) (walk a step rule note ended (note m (a.sort x)) t l))
    (λ k. stopped (ended s) (x ∷ l) (a.place x) k)

-- the first rule that is broken
abbrev pub first_broken : Option PatternKind → Option PatternKind → Option PatternKind
first_broken None q = q
first_broken (Some j) q = Some j

-- what a part of a parser answers: how the reading goes on, or its fault
abbrev pub GoesOn : {Y O : Type 0} → Result Y PatternFault → Result O (ℕ × PatternKind) → (Y →
    Result O (ℕ × PatternKind)) → Type 0
GoesOn (Ok y) reading on = reading ≡ on y
GoesOn (Err fault.NoMemory) reading on = Unit {0}
GoesOn (Err (fault.Bad at k)) reading on = reading ≡ Err (at, k)

-- why a lexeme is not taken: an unknown field exactly where some word and an `=` are taken
abbrev pub Refusal : {X K S : Type 0} → Alphabet X K → Step S K → S → K → PatternKind → Type 0
Refusal {X} {K} {S} a step s x k =
    ((k ≡ kind.Expected) × ((name other : List ℕ) → x ≡ a.word name →
    (j : PatternKind) × (steps step s (a.word other ∷ a.equal ∷ []) ≡ Err j)))
    ⊎ ((name other : List ℕ) × (t : S) × (x ≡ a.word name) × (k ≡ kind.UnknownField) ×
    (steps step s (a.word other ∷ a.equal ∷ []) ≡ Ok t))

-- the machine reads this grammar under these rules
pub record IsReader {X K S C : Type 0} (a : Alphabet X K) (Reads : Grammar K C) (Breaks : Rules K) (start : S)
    (step : Step S K) (rule : Rule K) (ended : S → Option C) : Type 0 where
  pub word : (f : List K) (c : C) → Reads f c [] →
      (s : S) × (steps step start f ≡ Ok s) × (ended s ≡ Some c)
  pub means : (f : List K) (s : S) (c : C) → steps step start f ≡ Ok s → ended s ≡ Some c → Reads f c []
  pub begins : (f : List K) (s : S) → steps step start f ≡ Ok s → Begins Reads f
  pub breaks : (f : List K) (s : S) (x : K) (k : PatternKind) → steps step start f ≡ Ok s →
      Breaks f x k → rule f x ≡ Some k
  pub broken : (f : List K) (s : S) (x : K) (k : PatternKind) → steps step start f ≡ Ok s →
      rule f x ≡ Some k → Breaks f x k
  pub refusal : (s : S) (x : K) (k : PatternKind) → step s x ≡ Err k → Refusal a step s x k
  pub no_end : (s t : S) → step s a.end ≡ Ok t → ⊥
