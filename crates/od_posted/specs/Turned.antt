-- For each label that comes in, the number with which it goes out.
use Rattle.std.specs.Prelude.{◌≡◌, ℕ, ◌-◌, ◌≤◌, ◌<◌, List, length, Contains, Some, slice_get, slice_index}
use Rattle.od_pattern.specs.declared.pattern.Field.TheVariants.{Incoming, Outgoing}
use Rattle.od_index.specs.Tables.{IsNumber}
use Rattle.od_index.specs.Sentences.{Indexed, HasTerms}
use Rattle.od_index.specs.Terms.{Term, sentence_terms}
use Rattle.od_posted.specs.declared.turned.Turned.{Turned}

-- the number stands as far behind the first as the label does in its field
pub record IsTurned (table : List Term) (first : ℕ) (numbers : List ℕ) (n : ℕ) (label : List ℕ) : Type 0 where
  pub from : first ≤ n
  pub within : n - first < length numbers
  pub number : IsNumber table Outgoing label (slice_index numbers (n - first))

-- so it does for each label that the table has in both fields
abbrev pub AreTurned : List Term → ℕ → List ℕ → Type 0
AreTurned table first numbers =
    (n : ℕ) (label : List ℕ) → IsNumber table Incoming label n → Contains table (Outgoing, label)
    → IsTurned table first numbers n label

-- as many numbers as labels, and for each label the one with which it goes out, where it does
pub record GoOut (table : List Term) (labels : List (List ℕ)) (numbers : List ℕ) : Type 0 where
  pub long : length numbers ≡ length labels
  pub are :
      (i : ℕ) (label : List ℕ) → slice_get labels i ≡ Some label → Contains table (Outgoing, label)
      → IsNumber table Outgoing label (slice_index numbers i)

-- a sentence whose table has its terms, with the labels of the table
pub record IsServed (s : Indexed) (t : Turned) : Type 0 where
  pub has : HasTerms s.table (sentence_terms s.sentence)
  pub labels : AreTurned s.table t.first t.numbers.items
