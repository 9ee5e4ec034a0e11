-- The numbers of the texts that fit a value.
use Rattle.std.specs.Prelude.{◌≡◌, ℕ, ◌-◌, Bool, false, ◌&&◌, ◌==◌, nat_le, List, ◌++◌, Some, None, slice_get, slice_index_or, IsSomeAnd}
use Rattle.od_asked.specs.Texts.{fits}
use Rattle.od_index.specs.Tables.{IsNumber}
use Rattle.od_index.specs.Terms.{Term}
use Rattle.od_pattern.specs.declared.pattern.Field.{Field}
use Rattle.od_pattern.specs.declared.pattern.Field.TheVariants.{Incoming, Outgoing}
use Rattle.od_pattern.specs.declared.pattern.Value.{Value}
use Rattle.od_constraint.specs.declared.hits.Hits.{Hits}
use Rattle.od_constraint.specs.declared.hits.Hits.TheVariants.{One, Run}

-- whether the text of a number fits
abbrev pub has_number : Hits → ℕ → Bool
has_number (One None) n = false
has_number (One (Some hit)) n = hit == n
has_number (Run first truths) n = nat_le first n && slice_index_or truths.items (n - first) false

-- they are the numbers of those texts of a field that fit the value
abbrev pub AreHits : List Term → Field → Value → Hits → Type 0
AreHits table field value hits =
    (n : ℕ) (text : List ℕ) → IsNumber table field text n → has_number hits n ≡ fits value text

-- the field whose texts are asked: an edge has the number of its label as an incoming one
abbrev pub asked_field : Field → Field
asked_field Outgoing = Incoming
asked_field field = field

-- at a place among several stand those of a field and a value
abbrev pub HasHits : List Term → List Hits → Field → Value → ℕ → Type 0
HasHits table all field value place = IsSomeAnd (slice_get all place) (AreHits table field value)

-- the second are the first, and perhaps more behind them
abbrev pub Begins : List Hits → List Hits → Type 0
Begins old new = (more : List Hits) × (new ≡ old ++ more)
