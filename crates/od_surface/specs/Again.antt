-- The first capture whose name stands before it already, told by its place.
use Rattle.std.specs.Prelude.{◌≡◌, ℕ, ◌<◌, Bool, false, List, [], ◌∷◌, ◌++◌, Option, String}
use Rattle.std.specs.HashSet.{HashSet, contains_text}
use Rattle.od_language.specs.declared.lexeme.Lexeme.{Lexeme}
use Rattle.od_language.specs.declared.lexeme.LexKind.{LexKind}
use Rattle.od_language.specs.declared.lexeme.LexKind.TheVariants.{NameOpen}
use Rattle.od_syntax.specs.Rules.{is_one_of}
use Rattle.od_surface.specs.Reading.{is_at}

-- a lexeme opens a capture whose name is one of these
abbrev pub opens_again : List (List ℕ) → LexKind → Bool
opens_again names (NameOpen name) = is_one_of names name
opens_again names x = false

-- the names behind a lexeme
abbrev pub named_behind : List (List ℕ) → LexKind → List (List ℕ)
named_behind names (NameOpen name) = names ++ name ∷ []
named_behind names x = names

-- a place tells whether a lexeme opens a capture again
abbrev pub IsMarked : Option ℕ → List (List ℕ) → ℕ → LexKind → Type 0
IsMarked again names at (NameOpen name) = is_at again at ≡ is_one_of names name
IsMarked again names at x = Unit {0}

-- the same of all lexemes up to the first that does
abbrev pub Marks : Option ℕ → List (List ℕ) → List Lexeme → Type 0
Marks again names [] = Unit {0}
Marks again names (x ∷ l) =
    IsMarked again names x.at x.kind ×
    (opens_again names x.kind ≡ false → Marks again (named_behind names x.kind) l)

-- the places of lexemes ascend
abbrev pub Ascends : List Lexeme → Type 0
Ascends [] = Unit {0}
Ascends (x ∷ []) = Unit {0}
Ascends (x ∷ y ∷ l) = (x.at < y.at) × Ascends (y ∷ l)

-- a set has these names
abbrev pub Knows : {Y S : Type 0} → HashSet (String Y) S → List (List ℕ) → Type 0
Knows set names = (name : List ℕ) → contains_text set name ≡ is_one_of names name
