-- A sentence with the table that its texts are numbers of.
use Rattle.std.specs.Prelude.{◌≡◌, ℕ, List, Contains, Option, None, MatchOption, IsSomeAnd}
use Rattle.od_text.specs.Lists.{Each}
use Rattle.od_document.specs.declared.sentence.Sentence.{Sentence}
use Rattle.od_pattern.specs.declared.pattern.Field.{Field}
use Rattle.od_index.specs.Terms.{Term, sentence_terms}
use Rattle.od_index.specs.Tables.{IsNumber}

-- a sentence, and a table
pub record Indexed : Type 0 where
  pub sentence : Sentence
  pub table : List Term

-- the table has each of these terms
abbrev pub HasTerms : List Term → List Term → Type 0
HasTerms table terms = Each (Contains table) terms

-- the table has each term of the sentence
abbrev pub IsIndexed : Indexed → Type 0
IsIndexed s = HasTerms s.table (sentence_terms s.sentence)

-- the number of a text in a field, and none where there is no text
abbrev pub NumbersText : List Term → Field → Option (List ℕ) → Option ℕ → Type 0
NumbersText table field text number =
    MatchOption text (number ≡ None) (λ t. IsSomeAnd number (IsNumber table field t))
