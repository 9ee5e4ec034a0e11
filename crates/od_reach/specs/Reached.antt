-- The tokens to which a path leads, as marks.
use Rattle.std.specs.Prelude.{◌≡◌, ℕ, ◌<◌, Bool, false, List, slice_index_or}
use Rattle.od_asked.specs.Asked.{asked_path}
use Rattle.od_asked.specs.Tables.{RowsFit}
use Rattle.od_document.specs.declared.sentence.Sentence.{Sentence}
use Rattle.od_matching.specs.Matching.Reach.{nodes, reached}
use Rattle.od_pattern.specs.declared.path.Path.{Path}
use Rattle.od_reach.specs.Code.{code_of}
use Rattle.od_reach.specs.Walking.{set_of}
use Rattle.od_reach.specs.declared.moves.Move.{Move}

-- each mark says whether the path leads to its token from one of the tokens marked in `from`
abbrev pub AreReached : Sentence → Path → List Bool → List Bool → Type 0
AreReached s p from marks =
    (b : ℕ) → b < nodes s → slice_index_or marks b false ≡ reached s p (set_of from) b

-- the same, of each path that these moves are of and whose rows stand in the table
abbrev pub AreReachedBy :
    List Move → List (List Bool) → Sentence → List Bool → List Bool → Type 0
AreReachedBy code rows s from marks =
    (p : Path) (first : ℕ) → code ≡ code_of first p → RowsFit rows s first (asked_path p)
    → AreReached s p from marks
