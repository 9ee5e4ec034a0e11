-- The truths of a constraint's parts at the tokens of a sentence.
use Rattle.std.specs.Prelude.{◌≡◌, ℕ, Bool, true, false, not, ◌==◌, ◌&&◌, ◌||◌, List, [], ◌∷◌, ◌++◌, length, map, filter}
use Rattle.std.specs.List.{list_any, range_with_len}
use Rattle.std.specs.Global.{Vec}
use Rattle.od_asked.specs.Holds.{has_text, labels_of}
use Rattle.od_asked.specs.Texts.{fits}
use Rattle.od_document.specs.declared.sentence.Sentence.{Sentence}
use Rattle.od_document.specs.declared.token.Edge.{Edge}
use Rattle.od_index.specs.Sentences.{Indexed}
use Rattle.od_pattern.specs.declared.pattern.Field.{Field}
use Rattle.od_pattern.specs.declared.pattern.Field.TheVariants.{Incoming, Outgoing}
use Rattle.od_pattern.specs.declared.pattern.Value.{Value}
use Rattle.od_constraint.specs.declared.hits.Hits.{Hits}
use Rattle.od_constraint.specs.Hits.{AreHits, asked_field}
use Rattle.od_constraint.specs.Steps.{Part, any, test, not_, and_, or_}

-- a test at each token of a sentence
abbrev pub token_row : Sentence → (ℕ → Bool) → List Bool
token_row s holds_at = map holds_at (range_with_len 0 (length s.tokens))

-- two rows as one; where the first ends, the second stays as it is
abbrev pub zipped : (Bool → Bool → Bool) → List Bool → List Bool → List Bool
zipped f [] ys = ys
zipped f (x ∷ xs) [] = []
zipped f (x ∷ xs) (y ∷ ys) = f x y ∷ zipped f xs ys

-- the topmost row, changed
abbrev pub with_top : (List Bool → List Bool) → List (List Bool) → List (List Bool)
with_top f [] = []
with_top f (top ∷ rows) = f top ∷ rows

-- the two topmost rows as one
abbrev pub joined_top : (Bool → Bool → Bool) → List (List Bool) → List (List Bool)
joined_top f [] = []
joined_top f (top ∷ []) = top ∷ []
joined_top f (top ∷ under ∷ rows) = zipped f top under ∷ rows

-- both, or one of them
abbrev pub joined : Bool → Bool → Bool → Bool
joined true a b = a && b
joined false a b = a || b

-- the row of a part onto the rows of its operands
abbrev pub onto : Sentence → Part → List (List Bool) → List (List Bool)
onto s any rows = token_row s (λ k. true) ∷ rows
onto s (test field value) rows = token_row s (has_text s field value) ∷ rows
onto s not_ rows = with_top (map not) rows
onto s and_ rows = joined_top (joined true) rows
onto s or_ rows = joined_top (joined false) rows

-- the rows that parts leave, from the last part to the first
abbrev pub rows_of : Sentence → List Part → List (List Bool)
rows_of s [] = []
rows_of s (p ∷ ps) = onto s p (rows_of s ps)

-- one end of an edge
abbrev pub end_of : Bool → Edge → ℕ
end_of true edge = edge.governor
end_of false edge = edge.dependent

-- the field of the labels at that end
abbrev pub end_field : Bool → Field
end_field true = Outgoing
end_field false = Incoming

-- a field in which a token has a text of its own
abbrev pub IsOwn : Field → Type 0
IsOwn Incoming = ⊥
IsOwn Outgoing = ⊥
IsOwn field = Unit {0}

-- at each of n tokens, whether some of the edges with that end there has a label that fits
abbrev pub marks : Bool → Value → List Edge → ℕ → List Bool
marks outgoing value edges n =
    map (λ k. list_any (fits value) (labels_of (filter (λ e. end_of outgoing e == k) edges))) (range_with_len 0 n)

-- where these are the hits of a value of the field, the row has at each token whether some text fits
abbrev pub IsRowOf : Indexed → Field → Hits → List Bool → Type 0
IsRowOf s field hits row =
    (value : Value) → AreHits s.table (asked_field field) value hits
    → row ≡ token_row s.sentence (has_text s.sentence field value)

-- where these are the hits of a label, the row has at each token whether one of the edges fits
abbrev pub AreMarks : Indexed → Bool → Hits → List Edge → List Bool → Type 0
AreMarks s outgoing hits edges row =
    (value : Value) → AreHits s.table Incoming value hits
    → row ≡ marks outgoing value edges (length s.sentence.tokens)

-- the rows of a stack, the topmost, which is the last, first
abbrev pub stacked : List (Vec Bool) → List (List Bool)
stacked [] = []
stacked (top ∷ rows) = stacked rows ++ top.items ∷ []
