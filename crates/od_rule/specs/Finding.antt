-- What a rule finds on a sentence.
use Rattle.std.specs.Prelude.{ℕ, Bool, List, map}
use Rattle.od_text.specs.Lists.{Each}
use Rattle.od_asked.specs.Asked.{asked_surface}
use Rattle.od_asked.specs.Tables.{RowsFit}
use Rattle.od_document.specs.declared.sentence.Sentence.{Sentence}
use Rattle.od_extraction.specs.Mentions.{distinct}
use Rattle.od_extraction.specs.declared.mention.Labelled.{Labelled}
use Rattle.od_extraction.specs.declared.mention.Match.{Match}
use Rattle.od_extraction.specs.declared.mention.Mention.{Mention}
use Rattle.od_matching.specs.Matching.Scan.{scan_of}
use Rattle.od_pattern.specs.declared.pattern.Surface.{Surface}
use Rattle.od_pattern.specs.declared.rule.Body.{Body}
use Rattle.od_pattern.specs.declared.rule.Body.TheVariants.{Basic, Event}

-- the rows of what each surface asks stand in a table, from its own row on
abbrev pub FitEach : List (List Bool) → Sentence → List (ℕ × Surface) → Type 0
FitEach rows s surfaces = Each (λ p. RowsFit rows s p.0 (asked_surface p.1)) surfaces

-- the matches of each surface
abbrev pub scans_of : Sentence → List Labelled → List (ℕ × Surface) → List (List Match)
scans_of s m surfaces = map (λ p. scan_of p.1 s m) surfaces

-- the mentions that a body makes of its matches: of a hop equal ones count once
abbrev pub made : Body → List Mention → List Mention
made (Basic h) found = distinct found
made (Event e) found = found
