-- The edges at each token of a sentence: the first of them, and behind each the next one.
use Rattle.std.specs.Prelude.{◌≡◌, ℕ, ◌+◌, ◌<◌, ◌≤◌, ◌==◌, List, [], ◌∷◌, length, map, filter, flat_map, drop, Option, Some, None, slice_get, slice_index, if◌then◌else◌}
use Rattle.od_document.specs.declared.sentence.Sentence.{Sentence}
use Rattle.od_document.specs.declared.token.Edge.{Edge}
use Rattle.od_document.specs.declared.token.Token.{Token}
use Rattle.od_index.specs.Postings.{Posting}
use Rattle.od_index.specs.Terms.{Term, text_in, term_in, token_fields}
use Rattle.od_pattern.specs.declared.pattern.Field.{Field}
use Rattle.od_pattern.specs.declared.pattern.Field.TheVariants.{Incoming, Outgoing}
use Rattle.od_posted.specs.Entries.{Mark, marks_at}
use Rattle.od_posted.specs.declared.chains.Chains.{Chains}
use Rattle.od_posted.specs.declared.chains.End.{End}
use Rattle.od_posted.specs.declared.chains.End.TheVariants.{Dependent, Governor}

-- the token at an end of an edge
abbrev pub end_of : End → Edge → ℕ
end_of Dependent edge = edge.dependent
end_of Governor edge = edge.governor

-- the field in which the label stands there
abbrev pub field_of : End → Field
field_of Dependent = Incoming
field_of Governor = Outgoing

-- the label of an edge, as it stands at an end
abbrev pub label_of : End → Edge → Term
label_of end edge = (field_of end, edge.label)

-- the edges that have this end at a token
abbrev pub edges_at : End → ℕ → List Edge → List Edge
edges_at end token edges = filter (λ edge. end_of end edge == token) edges

-- the labels of these
abbrev pub labels_at : End → ℕ → List Edge → List Term
labels_at end token edges = map (label_of end) (edges_at end token edges)

-- the place of the first edge that has this end at a token; the edges stand behind n others.
-- Where there is none, the place behind all
abbrev pub first_at : End → ℕ → ℕ → List Edge → ℕ
first_at end token n [] = n
first_at end token n (edge ∷ edges) =
    if end_of end edge == token then n else first_at end token (n + 1) edges

-- the first of the edges from a place on
abbrev pub first_from : End → ℕ → ℕ → List Edge → ℕ
first_from end token n edges = first_at end token n (drop n edges)

-- from a place on, the first edge of each token, and behind each edge the next one of its token
pub record AreChained
    (end : End) (s : Sentence) (from : ℕ) (firsts nexts : List ℕ) : Type 0 where
  pub tokens : length firsts ≡ length s.tokens
  pub edges : length nexts ≡ length s.edges
  pub first :
      (t : ℕ) → t < length s.tokens → slice_index firsts t ≡ first_from end t from s.edges
  pub next :
      (place : ℕ) (edge : Edge) → from ≤ place → slice_get s.edges place ≡ Some edge
      → slice_index nexts place ≡ first_from end (end_of end edge) (place + 1) s.edges

-- the edges of a sentence by their tokens
abbrev pub AreChainsOf : Sentence → Chains → Type 0
AreChainsOf s c = AreChained c.end s 0 c.firsts.items c.nexts.items

-- the term of a token in a field
abbrev pub own_term : Field → Option Token → List Term
own_term field None = []
own_term field (Some token) = term_in field (text_in field token)

-- the terms of a token, where it stands
abbrev pub own_marks : Posting → Option Token → List Mark
own_marks at token = flat_map (λ field. marks_at at (own_term field token)) token_fields
