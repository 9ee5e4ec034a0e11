-- The lexemes of a hop, in which each `(` is told apart: it opens steps, or it is a surface's or a
-- constraint's.
use Rattle.std.specs.Prelude.{ℕ, Bool, true, false, if◌then◌else◌, List, [], ◌∷◌}
use Rattle.od_language.specs.declared.lexeme.Lexeme.{Lexeme}
use Rattle.od_language.specs.declared.lexeme.LexKind.{LexKind}
use Rattle.od_language.specs.declared.lexeme.LexKind.TheVariants.{Word, Equal, End, SquareOpen, SquareClose, RoundOpen, Along, Against, AnyAlong, AnyAgainst}
use Rattle.od_language.specs.Alphabet.{Alphabet, plain, kinds}

-- a lexeme as it stands, or a `(` that opens steps
pub data Told : Type 0 where
  lexeme : LexKind → Told
  steps_open : Told

-- a lexeme with its place, told apart
pub record ToldLexeme : Type 0 where
  pub at : ℕ
  pub told : Told

-- the alphabet of hops and of steps
abbrev pub told_apart : Alphabet ToldLexeme Told
told_apart = record {
  place = λ x. x.at;
  sort = λ x. x.told;
  word = λ text. lexeme (Word text);
  equal = lexeme Equal;
  end = lexeme End;
}

-- `>`, `<`, `>>` or `<<`
abbrev pub is_arrow : LexKind → Bool
is_arrow Along = true
is_arrow Against = true
is_arrow AnyAlong = true
is_arrow AnyAgainst = true
is_arrow x = false

-- the first lexeme other than `(` is an arrow
abbrev pub leads_to_steps : List LexKind → Bool
leads_to_steps [] = false
leads_to_steps (RoundOpen ∷ more) = leads_to_steps more
leads_to_steps (x ∷ more) = is_arrow x

-- whether a constraint is open behind a lexeme, where one was or was not before it
abbrev pub in_constraint : Bool → LexKind → Bool
in_constraint within SquareOpen = true
in_constraint within SquareClose = false
in_constraint within x = within

-- what a lexeme is before others: a `(` opens steps where an arrow comes first, and no constraint is
-- open
abbrev pub told_of : Bool → LexKind → List LexKind → Told
told_of false RoundOpen more = if leads_to_steps more then steps_open else lexeme RoundOpen
told_of within x more = lexeme x

-- lexemes told apart, where a constraint is open before them or is not
abbrev pub told_from : Bool → List Lexeme → List ToldLexeme
told_from within [] = []
told_from within (x ∷ more) =
    record { at = x.at; told = told_of within x.kind (kinds plain more) } ∷ told_from (in_constraint within x.kind) more

-- lexemes told apart
abbrev pub told : List Lexeme → List ToldLexeme
told lexemes = told_from false lexemes

-- lexemes of which none opens steps
abbrev pub as_told : List LexKind → List Told
as_told [] = []
as_told (x ∷ more) = lexeme x ∷ as_told more

-- what was told apart, as it stands in the text
abbrev pub untold : Told → LexKind
untold (lexeme x) = x
untold steps_open = RoundOpen

abbrev pub all_untold : List Told → List LexKind
all_untold [] = []
all_untold (x ∷ more) = untold x ∷ all_untold more
