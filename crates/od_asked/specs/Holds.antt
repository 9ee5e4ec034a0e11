-- Where a constraint holds in a sentence.
use Rattle.std.specs.Prelude.{ℕ, Bool, true, not, ◌&&◌, ◌||◌, ◌==◌, List, [], ◌∷◌, map, filter, Option, Some, None, slice_get}
use Rattle.std.specs.List.{list_any}
use Rattle.od_asked.specs.Texts.{fits}
use Rattle.od_document.specs.declared.token.Token.{Token}
use Rattle.od_document.specs.declared.token.Edge.{Edge}
use Rattle.od_document.specs.declared.sentence.Sentence.{Sentence}
use Rattle.od_pattern.specs.declared.pattern.Field.{Field}
use Rattle.od_pattern.specs.declared.pattern.Field.TheVariants.{Word, Norm, Lemma, Upos, Tag, Entity, Chunk, Incoming, Outgoing}
use Rattle.od_pattern.specs.declared.pattern.Value.{Value}
use Rattle.od_pattern.specs.declared.pattern.Constraint.{Constraint, Any, Is, Not', And', Or', end_of-Constraint, more_of-Constraint}

-- the text of a field, where it has a value
abbrev pub one_text : Option (List ℕ) → List (List ℕ)
one_text None = []
one_text (Some text) = text ∷ []

-- the labels of some edges, in their order
abbrev pub labels_of : List Edge → List (List ℕ)
labels_of edges = map (λ edge. edge.label) edges

-- the texts that a field has at token k of the sentence: the token's own text,
-- or the labels of the edges that end or begin there
abbrev pub texts_of : Sentence → ℕ → Token → Field → List (List ℕ)
texts_of s k token Word = token.word ∷ []
texts_of s k token Norm = token.norm ∷ []
texts_of s k token Lemma = one_text token.lemma
texts_of s k token Upos = one_text token.upos
texts_of s k token Tag = one_text token.tag
texts_of s k token Entity = one_text token.entity
texts_of s k token Chunk = one_text token.chunk
texts_of s k token Incoming = labels_of (filter (λ edge. edge.dependent == k) s.edges)
texts_of s k token Outgoing = labels_of (filter (λ edge. edge.governor == k) s.edges)

-- the same, at a place where there may be no token
abbrev pub texts_there : Sentence → ℕ → Field → Option Token → List (List ℕ)
texts_there s k field None = []
texts_there s k field (Some token) = texts_of s k token field

-- the texts that a field has at a place; where there is no token it has none
abbrev pub texts_at : Sentence → ℕ → Field → List (List ℕ)
texts_at s k field = texts_there s k field (slice_get s.tokens k)

-- some text of the field at token k fits the value
abbrev pub has_text : Sentence → Field → Value → ℕ → Bool
has_text s field value k = list_any (fits value) (texts_at s k field)

-- the constraint holds at token k of the sentence; who asks sees to it that there is such a token
module _ (s : Sentence) where
  unfoldable pub holds : Constraint → ℕ → Bool
  holds Any k = true
  holds (Is field value) k = has_text s field value k
  holds (Not' v (more_of-Constraint c end_of-Constraint)) k = not (holds c k)
  holds (And' v (more_of-Constraint c end_of-Constraint) w (more_of-Constraint d end_of-Constraint)) k =
      holds c k && holds d k
  holds (Or' v (more_of-Constraint c end_of-Constraint) w (more_of-Constraint d end_of-Constraint)) k =
      holds c k || holds d k
