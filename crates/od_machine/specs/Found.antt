-- What a program finds, and the captures of a way as the trail tells them from its end.
use Rattle.std.specs.Prelude.{◌≡◌, ℕ, ◌≤◌, ◌<◌, ◌+◌, ◌*◌, ◌⊎◌, ◌++◌, Bool, true, false, List, length, reverse, slice_index_or}
use Rattle.od_asked.specs.Asked.{asked_surface}
use Rattle.od_asked.specs.Tables.{RowsFit}
use Rattle.od_document.specs.declared.sentence.Sentence.{Sentence}
use Rattle.od_extraction.specs.declared.mention.Labelled.{Labelled}
use Rattle.od_extraction.specs.declared.mention.Match.{Match}
use Rattle.od_extraction.specs.declared.mention.Part.{Part}
use Rattle.od_machine.specs.Code.{program_of}
use Rattle.od_machine.specs.Machine.{Input, state, run}
use Rattle.od_machine.specs.declared.instruction.Instruction.{Instruction}
use Rattle.od_machine.specs.declared.program.Program.{Program}
use Rattle.od_matching.specs.Matching.Derives.{World, first}
use Rattle.od_matching.specs.Matching.First.{Ending, accept}
use Rattle.od_matching.specs.Matching.Scan.{scan_at, scan_of}
use Rattle.od_pattern.specs.declared.pattern.Surface.{Surface}

-- the program is the pattern's
abbrev pub IsProgramOf : Program → Surface → Type 0
IsProgramOf program p = program.code ≡ program_of p

-- the matches are those of each pattern that the program is of, in each sentence of so many tokens
-- whose truths stand in the rows from `first` on
abbrev pub AreMatchesOf :
    Program → ℕ → List (List Bool) → ℕ → List Labelled → List Match → Type 0
AreMatchesOf program tokens rows first labels matches =
    (p : Surface) (s : Sentence) → IsProgramOf program p → length s.tokens ≡ tokens
    → RowsFit rows s first (asked_surface p) → matches ≡ scan_of p s labels

-- what was read of the trail, from its end: the captures that began, the last one first,
-- and the ends of those that have not
abbrev pub so_far : ℕ → List Part → List ℕ → Ending
so_far end parts ends = record { end = end; captures = reverse parts; ends = reverse ends }

-- from each place the program finds the preferred way through the pattern
pub record Finds (w : Input) (code : List Instruction) (u : World) (p : Surface) : Type 0 where
  pub tokens : w.length ≡ u.length
  pub finds : (i : ℕ) → i ≤ u.length → run w code (state 0 false i) ≡ first u p accept i

-- the matches, with those from the place on, are a pattern's matches from another place on
-- behind others, whatever pattern the program finds the ways of
abbrev pub GoesOn :
    Input → List Instruction → List Match → ℕ → List Match → ℕ → Type 0
GoesOn w code found at before from =
    (u : World) (p : Surface) → Finds w code u p
    → found ++ scan_at u p at ≡ before ++ scan_at u p from

-- the matches are those in the whole sentence of each pattern that the program finds the ways of
abbrev pub AreFound : Input → List Instruction → List Match → Type 0
AreFound w code found = (u : World) (p : Surface) → Finds w code u p → found ≡ scan_at u p 0

-- the marks that are left stood before, and are not the so many of this place
abbrev pub ClearsPlace : ℕ → ℕ → List Bool → List Bool → Type 0
ClearsPlace width at old new =
    (n : ℕ) → slice_index_or new n false ≡ true
    → (slice_index_or old n false ≡ true) × ((n < at * width) ⊎ ((at + 1) * width ≤ n))
