-- Each field of a constraint on a short sentence, worked out.
use Rattle.std.proofs.Common.{◌≡◌, ℕ, List, [], ◌∷◌, map, refl, lit<, lit≤}
use Rattle.std.proofs.lemmas.List.Elements.{All-from_recursion}
use Rattle.std.specs.List.{AllByRecursion}
use Rattle.std.specs.Prelude.{Bool, true, false, ◌<◌, codes, Some, None}
use denote.Hole.Carrier.{hidden}
use Rattle.od_asked.proofs.TextExamples.{computing}
use Rattle.od_asked.specs.Holds.{holds}
use Rattle.od_document.specs.Edges.{EndsWithin}
use Rattle.od_document.specs.declared.sentence.Sentence.{Sentence}
use Rattle.od_document.specs.declared.token.Edge.{Edge}
use Rattle.od_document.specs.declared.token.Token.{Token}
use Rattle.od_pattern.specs.declared.pattern.Constraint as constraint
use Rattle.od_pattern.specs.declared.pattern.Constraint.{Constraint}
use Rattle.od_pattern.specs.declared.pattern.Constraint.TheBlock.{hidden-the_row-Constraint-0}
use Rattle.od_pattern.specs.declared.pattern.Field.{Field}
use Rattle.od_pattern.specs.declared.pattern.Field.TheVariants.{Word, Norm, Lemma, Upos, Tag, Entity, Chunk, Incoming, Outgoing}
use Rattle.od_pattern.specs.declared.pattern.Value.TheVariants.{Plain, Regex}

-- a token without a value in any other field
abbrev bare : List ℕ → Token
bare text = record { word = text; norm = text; lemma = None; upos = None; tag = None; entity = None; chunk = None }

-- a token with a value in every field
abbrev dogs : Token
dogs = record {
  word = codes "Dogs";
  norm = codes "dogs";
  lemma = Some (codes "dog");
  upos = Some (codes "NOUN");
  tag = Some (codes "NNS");
  entity = Some (codes "ANIMAL");
  chunk = Some (codes "B-NP");
}

abbrev edge : ℕ → ℕ → List ℕ → Edge
edge dependent governor label = record { governor = governor; dependent = dependent; label = label }

abbrev edges : List Edge
edges = edge 0 1 (codes "nsubj") ∷ edge 0 2 (codes "nsubj") ∷ edge 1 1 (codes "self") ∷ []

pub within : AllByRecursion (λ e. (e.governor < 3) × (e.dependent < 3)) edges → EndsWithin 3 edges
within h = All-from_recursion (λ e. (e.governor < 3) × (e.dependent < 3)) edges h

-- `Dogs bark loud`: the first token depends on the other two, and the second one on itself
abbrev pub bark : Sentence
bark = record {
  tokens = dogs ∷ bare (codes "bark") ∷ bare (codes "loud") ∷ [];
  edges = edges;
  some = lit< tt;
  few = lit≤ tt;
  few_edges = lit≤ tt;
  ends = within ((lit< tt, lit< tt), ((lit< tt, lit< tt), ((lit< tt, lit< tt), tt)));
  distinct = refl;
}

-- where a constraint holds: at the three tokens, and behind them
abbrev at : Constraint → List Bool
at c = map (holds bark c) (0 ∷ 1 ∷ 2 ∷ 3 ∷ [])

abbrev is : Field → List ℕ → Constraint
is field text = constraint.Is field (Plain text)

-- at the first token alone, and nowhere
abbrev first_alone : List Bool
first_alone = true ∷ false ∷ false ∷ false ∷ []

abbrev nowhere : List Bool
nowhere = false ∷ false ∷ false ∷ false ∷ []

-- the word is as it stands, the norm is folded
by_word : at (is Word (codes "Dogs")) ≡ first_alone
unfolding holds
by_word = refl

by_folded_word : at (is Word (codes "dogs")) ≡ nowhere
unfolding holds
by_folded_word = refl

by_norm : at (is Norm (codes "dogs")) ≡ first_alone
unfolding holds
by_norm = refl

-- the other columns, which may have no value
by_lemma : at (is Lemma (codes "dog")) ≡ first_alone
unfolding holds
by_lemma = refl

by_upos : at (is Upos (codes "NOUN")) ≡ first_alone
unfolding holds
by_upos = refl

by_tag : at (is Tag (codes "NNS")) ≡ first_alone
unfolding holds
by_tag = refl

by_entity : at (is Entity (codes "ANIMAL")) ≡ first_alone
unfolding holds
by_entity = refl

by_chunk : at (is Chunk (codes "B-NP")) ≡ first_alone
unfolding holds
by_chunk = refl

-- a column without a value is not the empty text either
by_no_text : at (is Tag []) ≡ nowhere
unfolding holds
by_no_text = refl

-- incoming labels stand at the dependent, outgoing ones at the governor
by_incoming : at (is Incoming (codes "nsubj")) ≡ first_alone
unfolding holds
by_incoming = refl

by_outgoing : at (is Outgoing (codes "nsubj")) ≡ false ∷ true ∷ true ∷ false ∷ []
unfolding holds
by_outgoing = refl

-- an edge from a token to itself is both
incoming_self : at (is Incoming (codes "self")) ≡ false ∷ true ∷ false ∷ false ∷ []
unfolding holds
incoming_self = refl

outgoing_self : at (is Outgoing (codes "self")) ≡ false ∷ true ∷ false ∷ false ∷ []
unfolding holds
outgoing_self = refl

-- `[tag=/NNS?/]`, and `[outgoing=/s(elf|ubj)/]` fits one of several labels
by_expression : at (constraint.Is Tag (Regex (codes "NNS?"))) ≡ first_alone
unfolding computing holds
by_expression = refl

by_expression_on_labels : at (constraint.Is Outgoing (Regex (codes "(n|)s(elf|u)"))) ≡ false ∷ true ∷ false ∷ false ∷ []
unfolding computing holds
by_expression_on_labels = refl

-- an expression on the norm sees the folded text, and is not folded itself
by_expression_on_norm : at (constraint.Is Norm (Regex (codes "Dogs"))) ≡ nowhere
unfolding computing holds
by_expression_on_norm = refl

-- `[tag=NNS & lemma=cat]`, `[tag=NNS & lemma=dog]`
both_of_one : at (constraint.And (is Tag (codes "NNS")) (is Lemma (codes "cat"))) ≡ nowhere
unfolding holds hidden hidden-the_row-Constraint-0
both_of_one = refl

both_of_two : at (constraint.And (is Tag (codes "NNS")) (is Lemma (codes "dog"))) ≡ first_alone
unfolding holds hidden hidden-the_row-Constraint-0
both_of_two = refl

-- `[norm=bark | lemma=dog]`, `[norm=cat | lemma=cat]`
either_of_two : at (constraint.Or (is Norm (codes "bark")) (is Lemma (codes "dog"))) ≡ true ∷ true ∷ false ∷ false ∷ []
unfolding holds hidden hidden-the_row-Constraint-0
either_of_two = refl

either_of_none : at (constraint.Or (is Norm (codes "cat")) (is Lemma (codes "cat"))) ≡ nowhere
unfolding holds hidden hidden-the_row-Constraint-0
either_of_none = refl

-- `[!tag=NNS]` holds where there is another value, and where there is none
not_the_tag : map (holds bark (constraint.Not (is Tag (codes "NNS")))) (0 ∷ 1 ∷ 2 ∷ []) ≡ false ∷ true ∷ true ∷ []
unfolding holds hidden hidden-the_row-Constraint-0
not_the_tag = refl
