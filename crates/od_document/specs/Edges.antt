-- What the edges of each sentence keep.
use Rattle.std.specs.Prelude.{ℕ, ◌<◌, ◌==◌, ◌&&◌, not, Bool, true, List, [], ◌∷◌, IsTrue}
use Rattle.std.specs.List.{All, list_all}
use Rattle.std.specs.Str.{bytes_eq}
use Rattle.od_document.specs.declared.token.Edge.{Edge}

-- each edge lies between two of this many tokens
abbrev pub EndsWithin : ℕ → List Edge → Type 0
EndsWithin count edges = All (λ e. (e.governor < count) × (e.dependent < count)) edges

-- whether two edges have the same ends and label
abbrev pub same_edge : Edge → Edge → Bool
same_edge e f = e.governor == f.governor && e.dependent == f.dependent && bytes_eq e.label f.label

-- whether each edge differs from every later one
abbrev pub all_differ : List Edge → Bool
all_differ [] = true
all_differ (e ∷ es) = list_all (λ f. not (same_edge e f)) es && all_differ es

-- no two edges are equal
abbrev pub AreDistinct : List Edge → Type 0
AreDistinct edges = IsTrue (all_differ edges)
