-- What is kept of a committed document.
use Rattle.std.specs.Prelude.{◌≡◌, ℕ, List, [], ◌∷◌}
use Rattle.od_document.specs.declared.doc.Doc.{Doc}
use Rattle.od_index.specs.Segments.{Stored, StandsFor}

-- its name, and a segment that stands for it alone
pub record Keeps (doc : Doc) (name : List ℕ) (segment : Stored) : Type 0 where
  pub name_is : name ≡ doc.name
  pub stands : StandsFor (doc ∷ []) segment
