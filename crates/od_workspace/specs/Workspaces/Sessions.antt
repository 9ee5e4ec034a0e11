-- What stands beside the state of a session: the session that runs.
use Rattle.std.specs.Prelude.{◌≡◌, ◌≤◌, List, length, take, Some}
use Rattle.od_document.specs.declared.doc.Doc.{Doc}
use Rattle.od_extraction.specs.Joined.{joined}
use Rattle.od_extraction.specs.Mentions.{distinct}
use Rattle.od_extraction.specs.Weight.{weight, most_weight}
use Rattle.od_index.specs.Segments.{Tiles}
use Rattle.od_matching.specs.Rounds.Standing.{standing}
use Rattle.od_pattern.specs.declared.grammar.Grammar.{Grammar}
use Rattle.od_rounds.specs.Running.{Running}
use Rattle.od_session.specs.declared.object.SessionState.{SessionState}
use Rattle.od_session.specs.declared.object.TheConstants.{SESSION_ROUNDS}
use Rattle.od_session.specs.Grammars.{grammar_of}

-- the session that runs has the grammar of the state, over the documents that it was opened with, and stands behind its rounds;
-- their mentions differ, and do not weigh too much
pub record IsRunning (docs : List Doc) (s : SessionState) (r : Running) : Type 0 where
  pub grammar : Grammar
  pub reads : grammar_of s.kind s.text ≡ Some grammar
  pub rules_are : grammar.rules ≡ r.rules
  pub within : s.documents ≤ length docs
  pub tiled : Tiles r.seen.segments (take s.documents docs)
  pub documents_are : r.seen.documents ≡ s.documents
  pub limit_is : r.limit ≡ s.limit
  pub stands : r.at ≡ standing s.rounds
  pub differ : distinct (joined s.rounds) ≡ joined s.rounds
  pub light : weight (joined s.rounds) ≤ most_weight
  pub few : length s.rounds ≤ s.limit
  pub limited : s.limit ≤ SESSION_ROUNDS
