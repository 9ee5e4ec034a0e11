-- The text that a token itself has in a field.
use Rattle.std.proofs.Common.{◌≡◌, ℕ, Bool, false, List, refl, sym, ◌∙◌, ap, slice_get, Option, Some, None}
use Rattle.std.specs.Prelude.{◌||◌, IsSomeAnd, true}
use Rattle.std.specs.List.{list_any}
use Rattle.od_asked.specs.Holds.{has_text, one_text, texts_of, texts_there}
use Rattle.od_asked.specs.Texts.{fits}
use Rattle.od_document.specs.declared.sentence.Sentence.{Sentence}
use Rattle.od_document.specs.declared.token.Token.{Token}
use Rattle.od_index.specs.Sentences.{NumbersText}
use Rattle.od_index.specs.Tables.{IsNumber}
use Rattle.od_index.specs.Terms.{Term, text_in}
use Rattle.od_pattern.specs.declared.pattern.Field.{Field}
use Rattle.od_pattern.specs.declared.pattern.Field.TheVariants.{Word, Norm, Lemma, Upos, Tag, Entity, Chunk, Incoming, Outgoing}
use Rattle.od_pattern.specs.declared.pattern.Value.{Value}
use Rattle.od_constraint.specs.declared.hits.Hits.{Hits}
use Rattle.od_constraint.specs.Hits.{AreHits, asked_field, has_number}
use Rattle.od_constraint.specs.Rows.{IsOwn}

own_texts : (s : Sentence) (k : ℕ) (token : Token) (field : Field) → IsOwn field → texts_of s k token field ≡ one_text (text_in field token)
own_texts s k token Word h = refl
own_texts s k token Norm h = refl
own_texts s k token Lemma h = refl
own_texts s k token Upos h = refl
own_texts s k token Tag h = refl
own_texts s k token Entity h = refl
own_texts s k token Chunk h = refl
own_texts s k token Incoming h = absurd h
own_texts s k token Outgoing h = absurd h

-- what the number of a text says of it
abbrev pub answer : Hits → Option ℕ → Bool
answer hits None = false
answer hits (Some n) = has_number hits n

or_none : (a : Bool) → (a || false) ≡ a
or_none true = refl
or_none false = refl

answered : (table : List Term) (field : Field) (value : Value) (hits : Hits) (text : Option (List ℕ)) (number : Option ℕ) → AreHits table field value hits
    → NumbersText table field text number → answer hits number ≡ list_any (fits value) (one_text text)
answered table field value hits None number h n = ap (answer hits) n
answered table field value hits (Some text) None h n = absurd n
answered table field value hits (Some text) (Some k) h n = h k text n ∙ sym (or_none (fits value text))

pub own_answer : (s : Sentence) (table : List Term) (field : Field) (value : Value) (hits : Hits) (k : ℕ) (number : Option ℕ) → IsOwn field → AreHits table field value hits
    → IsSomeAnd (slice_get s.tokens k) (λ token. NumbersText table field (text_in field token) number) → answer hits number ≡ has_text s field value k
own_answer s table field value hits k number own h n = by (slice_get s.tokens k) n
  where
    by : (o : Option Token) → IsSomeAnd o (λ token. NumbersText table field (text_in field token) number) → answer hits number ≡ list_any (fits value) (texts_there s k field o)
    by None n = absurd n
    by (Some token) n = answered table field value hits (text_in field token) number h n ∙ ap (list_any (fits value)) (sym (own_texts s k token field own))

-- the fields but those of labels
pub is_own : (field : Field) → (field ≡ Incoming → ⊥) → (field ≡ Outgoing → ⊥) → IsOwn field
is_own Word i o = tt
is_own Norm i o = tt
is_own Lemma i o = tt
is_own Upos i o = tt
is_own Tag i o = tt
is_own Entity i o = tt
is_own Chunk i o = tt
is_own Incoming i o = i refl
is_own Outgoing i o = o refl

pub own_asked : (field : Field) → IsOwn field → asked_field field ≡ field
own_asked Word h = refl
own_asked Norm h = refl
own_asked Lemma h = refl
own_asked Upos h = refl
own_asked Tag h = refl
own_asked Entity h = refl
own_asked Chunk h = refl
own_asked Incoming h = absurd h
own_asked Outgoing h = absurd h
