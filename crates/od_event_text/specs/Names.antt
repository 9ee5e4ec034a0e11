-- Names that are taken.
use Rattle.std.specs.Prelude.{ℕ, List, [], ◌∷◌, ◌++◌, String}
use Rattle.std.specs.HashSet.{HashSet}
use Rattle.od_pattern.specs.declared.pattern.Surface.{Surface}
use Rattle.od_surface.specs.Again.{Knows}
use Rattle.od_syntax.specs.Events.{captures}

-- the names of the captures of patterns, one after another
abbrev pub captures_in : List Surface → List (List ℕ)
captures_in [] = []
captures_in (p ∷ ps) = captures p ++ captures_in ps

-- a set with more names
abbrev pub Adds : {Y S : Type 0} → HashSet (String Y) S → HashSet (String Y) S → List (List ℕ) →
    Type 0
Adds old new more = (before : List (List ℕ)) → Knows old before → Knows new (before ++ more)
