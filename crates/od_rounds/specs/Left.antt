-- What is left for a round to meet on a sentence.
use Rattle.std.specs.Prelude.{List}
use Rattle.od_extraction.specs.declared.mention.Match.{Match}
use Rattle.od_matching.specs.Rounds.Round.{Item}
use Rattle.od_rounds.specs.Looked.{items_made}
use Rattle.od_rounds.specs.declared.meet.Meeting.{Meeting}

-- matches of the rule on its sentence as what the round meets
abbrev pub items_left : Meeting → List Match → List Item
items_left meeting matches = items_made meeting.rule.now meeting.document meeting.sentence matches
