use Rattle.od_matching.proofs.Matching.Counting.{event_count-none, hop_count-none}
use Rattle.od_matching.proofs.matching_laws.counts_are_of_lists.Goals as goal

pub returns-clause-event : goal.returns-clause-event
returns-clause-event c = event_count-none

pub returns-clause-hop : goal.returns-clause-hop
returns-clause-hop c = hop_count-none
