-- The table of some terms: each of them once, in ascending order, numbered by its place.
use Rattle.std.specs.Prelude.{◌≡◌, ℕ, List, Bool, ◌==◌, ◌&&◌, bytes_eq, Some, slice_get}
use Rattle.std.specs.declared.cmp.Ordering.{Ordering}
use Rattle.std.specs.Ordering.{ordering_then, nat_cmp}
use Rattle.std.specs.Cmp.Lexicographic.{slice_cmp}
use Rattle.std.specs.List.Sorted.{IsStrictlySortedBy}
use Rattle.od_pattern.specs.declared.pattern.Field.{Field}
use Rattle.od_pattern.specs.declared.pattern.Field.TheVariants.{Word, Norm, Lemma, Upos, Tag, Entity, Chunk, Incoming, Outgoing}
use Rattle.od_index.specs.Ascending.{IsAscendingOf, ascending}
use Rattle.od_index.specs.Terms.{Term}

-- the place of a field among the fields
abbrev pub field_place : Field → ℕ
field_place Word = 0
field_place Norm = 1
field_place Lemma = 2
field_place Upos = 3
field_place Tag = 4
field_place Entity = 5
field_place Chunk = 6
field_place Incoming = 7
field_place Outgoing = 8

-- by the places of the fields, and then by the bytes of the texts
abbrev pub term_cmp : Term → Term → Ordering
term_cmp a b = ordering_then (nat_cmp (field_place a.0) (field_place b.0)) (slice_cmp nat_cmp a.1 b.1)

-- the same text in the same field
abbrev pub same_term : Term → Term → Bool
same_term a b = field_place a.0 == field_place b.0 && bytes_eq a.1 b.1

-- each term is below those after it
abbrev pub IsAscending : List Term → Type 0
IsAscending table = IsStrictlySortedBy term_cmp table

-- a table of some terms: exactly these, ascending
abbrev pub IsTableOf : List Term → List Term → Type 0
IsTableOf terms table = IsAscendingOf term_cmp terms table

-- it is computed by putting one term after another into its place
abbrev pub table_of : List Term → List Term
table_of terms = ascending term_cmp terms

-- number n of the table is this text in this field
abbrev pub IsNumber : List Term → Field → List ℕ → ℕ → Type 0
IsNumber table field text n = slice_get table n ≡ Some (field, text)
