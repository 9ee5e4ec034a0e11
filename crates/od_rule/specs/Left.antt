-- What is left of what a rule finds.
use Rattle.std.specs.Prelude.{List}
use Rattle.od_extraction.specs.declared.mention.Match.{Match}
use Rattle.od_rule.specs.declared.finder.Found.{Found}
use Rattle.od_rule.specs.declared.finder.Found.TheVariants.{Hop, Event}

-- the matches that are left
abbrev pub left_in : Found → List Match
left_in (Hop pairs) = pairs
left_in (Event found) = found
