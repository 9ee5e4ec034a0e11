-- The value of a list of lexemes, and its first fault, for any alphabet, any grammar and its rules.
-- A grammar is a relation `Reads kinds value rest`: a front of the kinds is a word for the value, and
-- the rest follows.
-- Rules are a relation `Breaks front x kind`: behind that front x breaks a rule of its own, whatever
-- comes later.
use Rattle.std.specs.Prelude.{◌≡◌, ℕ, List, [], ◌∷◌, ◌++◌, length, ◌⊎◌}
use Rattle.od_language.specs.declared.pattern_fault.PatternKind.{PatternKind}
use Rattle.od_language.specs.declared.pattern_fault.PatternKind.TheVariants as kind
use Rattle.od_language.specs.Alphabet.{Alphabet, kinds}

-- words, values, and what follows
abbrev pub Grammar : Type 0 → Type 0 → Type 1
Grammar K C = List K → C → List K → Type 0

-- rules of single lexemes, whatever the grammar says
abbrev pub Rules : Type 0 → Type 1
Rules K = List K → K → PatternKind → Type 0

-- some word of the grammar begins with this front
abbrev pub Begins : {K C : Type 0} → Grammar K C → List K → Type 0
Begins {K} {C} Reads front = (rest : List K) × (c : C) × Reads (front ++ rest) c []

-- no word of the grammar is this front
abbrev pub IsNoWord : {K C : Type 0} → Grammar K C → List K → Type 0
IsNoWord {K} {C} Reads front = (c : C) → Reads front c [] → ⊥

-- no lexeme of the front breaks a rule
abbrev pub Keeps : {K : Type 0} → Rules K → List K → Type 0
Keeps {K} Breaks front =
    (before : List K) (x : K) (behind : List K) (k : PatternKind) → front ≡ before ++ x ∷ behind →
    Breaks before x k → ⊥

module _ {X K : Type 0} (a : Alphabet X K) {C : Type 0} (Reads : Grammar K C) where
  -- The place of a field behind a front: some word and `=` could go on.
  abbrev pub IsFieldPlace : List K → Type 0
  IsFieldPlace front = (other : List ℕ) × Begins Reads (front ++ a.word other ∷ a.equal ∷ [])

  -- What is wrong with x behind a front that begins a word.
  -- Where no word begins with the front and x, though the front is no word itself: x is an unknown
  -- field where it is
  -- a word in a field's place, else it is not expected. Where some word begins with the front and x:
  -- the rule that x breaks.
  pub data Wrong (Breaks : Rules K) (front : List K) (x : K) : PatternKind → Type 0 where
    unknown : (name : List ℕ) → x ≡ a.word name → IsNoWord Reads front →
        (Begins Reads (front ++ x ∷ []) → ⊥) →
        IsFieldPlace front → Wrong Breaks front x kind.UnknownField
    unexpected : IsNoWord Reads front → (Begins Reads (front ++ x ∷ []) → ⊥) →
        ((name : List ℕ) → x ≡ a.word name → IsFieldPlace front → ⊥) →
        Wrong Breaks front x kind.Expected
    rule : (k : PatternKind) → Begins Reads (front ++ x ∷ []) → Breaks front x k →
        Wrong Breaks front x k

  module _ (Breaks : Rules K) (lexemes : List X) where
    -- The lexemes begin with a word for this value, of so many lexemes: no word begins with them and
    -- the next lexeme,
    -- and none of them breaks a rule.
    pub record IsRead (value : C) (count : ℕ) : Type 0 where
      pub front : List X
      pub rest : List X
      pub parts : lexemes ≡ front ++ rest
      pub size : count ≡ length front
      pub reads : Reads (kinds a front) value []
      pub stops : (x : X) (more : List X) → rest ≡ x ∷ more →
          Begins Reads (kinds a front ++ a.sort x ∷ []) → ⊥
      pub keeps : Keeps Breaks (kinds a front)

    -- The first fault: behind a front that begins a word and keeps the rules stands a lexeme that is
    -- wrong there.
    pub record IsFault (at : ℕ) (k : PatternKind) : Type 0 where
      pub front : List X
      pub x : X
      pub rest : List X
      pub parts : lexemes ≡ front ++ x ∷ rest
      pub place : at ≡ a.place x
      pub begins : Begins Reads (kinds a front)
      pub keeps : Keeps Breaks (kinds a front)
      pub wrong : Wrong Breaks (kinds a front) (a.sort x) k

    -- Exactly one answer: lexemes have a value or a first fault, never both, and only one of it.
    pub record OneAnswer : Type 0 where
      pub some : ((c : C) × (count : ℕ) × IsRead c count) ⊎ ((at : ℕ) × (k : PatternKind) × IsFault at k)
      pub apart : (c : C) (count at : ℕ) (k : PatternKind) → IsRead c count → IsFault at k → ⊥
      pub value : (b c : C) (m n : ℕ) → IsRead b m → IsRead c n → (b ≡ c) × (m ≡ n)
      pub fault : (p q : ℕ) (j k : PatternKind) → IsFault p j → IsFault q k → (p ≡ q) × (j ≡ k)
