-- Which regular expressions were run over the texts of which fields.
use Rattle.std.specs.Prelude.{◌≡◌, ℕ, List, [], ◌∷◌, Option, Some, None, IfSome}
use Rattle.od_index.specs.Terms.{Term}
use Rattle.od_pattern.specs.declared.pattern.Field.{Field}
use Rattle.od_pattern.specs.declared.pattern.Field.TheVariants.{Word, Norm, Lemma, Upos, Tag, Entity, Chunk, Incoming, Outgoing}
use Rattle.od_pattern.specs.declared.pattern.Value.TheVariants.{Regex}
use Rattle.od_constraint.specs.declared.hits.Hits.{Hits}
use Rattle.od_constraint.specs.declared.noted.Noted.{Noted}
use Rattle.od_constraint.specs.Hits.{HasHits}

-- the place that is noted for a field
abbrev pub noted_in : Field → Noted → Option ℕ
noted_in Word noted = noted.word
noted_in Norm noted = noted.norm
noted_in Lemma noted = noted.lemma
noted_in Upos noted = noted.upos
noted_in Tag noted = noted.tag
noted_in Entity noted = noted.entity
noted_in Chunk noted = noted.chunk
noted_in Incoming noted = noted.incoming
noted_in Outgoing noted = None

-- with a place for a field
abbrev pub with_noted : Field → ℕ → Noted → Noted
with_noted Word place noted = record noted { word = Some place }
with_noted Norm place noted = record noted { norm = Some place }
with_noted Lemma place noted = record noted { lemma = Some place }
with_noted Upos place noted = record noted { upos = Some place }
with_noted Tag place noted = record noted { tag = Some place }
with_noted Entity place noted = record noted { entity = Some place }
with_noted Chunk place noted = record noted { chunk = Some place }
with_noted Incoming place noted = record noted { incoming = Some place }
with_noted Outgoing place noted = noted

-- at a noted place stand the hits of the expression over the texts of the field
abbrev pub IsAt : List Term → List Hits → List ℕ → Field → Option ℕ → Type 0
IsAt table all text field place = IfSome place (HasHits table all field (Regex text))

-- at each noted place
abbrev pub IsNoted : List Term → List Hits → List ℕ → Noted → Type 0
IsNoted table all text noted =
    IsAt table all text Word noted.word × IsAt table all text Norm noted.norm
    × IsAt table all text Lemma noted.lemma × IsAt table all text Upos noted.upos
    × IsAt table all text Tag noted.tag × IsAt table all text Entity noted.entity
    × IsAt table all text Chunk noted.chunk × IsAt table all text Incoming noted.incoming

-- the same for each of some expressions
abbrev pub AreNoted : List Term → List Hits → List (List ℕ) → List Noted → Type 0
AreNoted table all [] [] = Unit {0}
AreNoted table all [] (noted ∷ more) = ⊥
AreNoted table all (text ∷ texts) [] = ⊥
AreNoted table all (text ∷ texts) (noted ∷ more) =
    IsNoted table all text noted × AreNoted table all texts more
