-- What a whole text is read as, and its first fault: the parser's and the lexer's in the order of the
-- text, and at last
-- that the value is too big.
-- `stuck` is the place of the lexer's fault, where it has one; the lexemes end there with the end, else
-- at the text's length.
use Rattle.std.specs.Prelude.{◌≡◌, ℕ, ◌<◌, ◌≤◌, List, [], ◌∷◌, Option, Some, None, ◌⊎◌}
use Rattle.od_language.specs.declared.limits.TheConstants.{PATTERN_SIZE}
use Rattle.od_language.specs.declared.pattern_fault.PatternKind.{PatternKind}
use Rattle.od_language.specs.declared.pattern_fault.PatternKind.TheVariants as kind
use Rattle.od_language.specs.Alphabet.{Alphabet}
use Rattle.od_language.specs.FirstFault.{Grammar, Rules, IsRead, IsFault}

-- before the lexer's fault, where there is one
abbrev pub IsBefore : ℕ → Option ℕ → Type 0
IsBefore at None = Unit {0}
IsBefore at (Some stuck) = at < stuck

module _ {X K C : Type 0} (a : Alphabet X K) (Reads : Grammar K C) (Breaks : Rules K) (lexemes : List X) where
  -- a word for a value, and behind it the end alone
  pub record IsToTheEnd (value : C) : Type 0 where
    pub count : ℕ
    pub read : IsRead a Reads Breaks lexemes value count
    pub last : X
    pub behind : read.rest ≡ last ∷ []
    pub ends : a.sort last ≡ a.end

  -- the parser's fault: the word's, or what stands behind the word and is not the end
  pub data IsOwnFault : ℕ → PatternKind → Type 0 where
    within : (at : ℕ) (k : PatternKind) → IsFault a Reads Breaks lexemes at k → IsOwnFault at k
    behind : (value : C) (count : ℕ) (read : IsRead a Reads Breaks lexemes value count) (x : X) (more : List X) →
        read.rest ≡ x ∷ more → (a.sort x ≡ a.end → ⊥) → IsOwnFault (a.place x) kind.Expected

  module _ (stuck : Option ℕ) where
    -- The value of a text: its lexemes are a word and the end, and the lexer has no fault.
    pub record IsWhole (value : C) : Type 0 where
      pub read : IsToTheEnd value
      pub lexed : stuck ≡ None

    -- The first fault of a text: the parser's, where it stands before the lexer's; else the lexer's.
    pub data IsWholeFault : ℕ → PatternKind → Type 0 where
      parser : (at : ℕ) (k : PatternKind) → IsOwnFault at k → IsBefore at stuck → IsWholeFault at k
      lexer : (at : ℕ) → stuck ≡ Some at → ((b : ℕ) (k : PatternKind) → IsOwnFault b k → at ≤ b) →
          IsWholeFault at kind.Lex

-- a value that is not too big
pub record IsSmall {C : Type 0} (Value : C → Type 0) (size : C → ℕ) (value : C) : Type 0 where
  pub is : Value value
  pub small : size value ≤ PATTERN_SIZE

module _ {C : Type 0} (Value : C → Type 0) (Fault : ℕ → PatternKind → Type 0) where
  -- the first fault; where there is none, that the value is too big
  pub data IsFaultOrBig (size : C → ℕ) : ℕ → PatternKind → Type 0 where
    first : (at : ℕ) (k : PatternKind) → Fault at k → IsFaultOrBig size at k
    big : (value : C) → Value value → PATTERN_SIZE < size value → IsFaultOrBig size 0 kind.TooBig

  -- Exactly one answer: a value or a fault, never both, and only one of it.
  pub record OneOf : Type 0 where
    pub some : ((value : C) × Value value) ⊎ ((at : ℕ) × (k : PatternKind) × Fault at k)
    pub apart : (value : C) (at : ℕ) (k : PatternKind) → Value value → Fault at k → ⊥
    pub value : (b c : C) → Value b → Value c → b ≡ c
    pub fault : (p q : ℕ) (j k : PatternKind) → Fault p j → Fault q k → (p ≡ q) × (j ≡ k)
