-- Tables of truths on a sentence.
use Rattle.std.specs.Prelude.{◌≡◌, ℕ, suc, Bool, List, [], ◌∷◌, length, map, Some, slice_get}
use Rattle.std.specs.List.{range_with_len}
use Rattle.od_asked.specs.Asked.{Asked, at_tokens, at_edges}
use Rattle.od_asked.specs.Holds.{holds}
use Rattle.od_asked.specs.Texts.{fits}
use Rattle.od_document.specs.declared.sentence.Sentence.{Sentence}

-- the truths of a constraint at the tokens, or of a value at the labels of the edges, each in their order
abbrev pub truths : Sentence → Asked → List Bool
truths s (at_tokens c) = map (holds s c) (range_with_len 0 (length s.tokens))
truths s (at_edges value) = map (λ edge. fits value edge.label) s.edges

-- the table of what is asked, one row each
abbrev pub columns_of : Sentence → List Asked → List (List Bool)
columns_of s asked = map (truths s) asked

-- from the row `first` on, the rows are the truths of what is asked, one after another;
-- other rows may stand before them and follow
abbrev pub RowsFit : List (List Bool) → Sentence → ℕ → List Asked → Type 0
RowsFit rows s first [] = Unit {0}
RowsFit rows s first (a ∷ asked) =
    (slice_get rows first ≡ Some (truths s a)) × RowsFit rows s (suc first) asked
