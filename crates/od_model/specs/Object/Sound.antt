-- Which objects are sound: their sessions' lists are those of the rounds.
use Rattle.std.specs.Prelude.{◌≡◌, ◌≢◌, ◌≤◌, List, length, take, Some}
use Rattle.od_document.specs.declared.doc.Doc.{Doc}
use Rattle.od_pattern.specs.declared.grammar.Grammar.{Grammar}
use Rattle.od_extraction.specs.declared.phase.Phase.TheVariants.{Finished}
use Rattle.od_session.specs.declared.object.SessionState.{SessionState}
use Rattle.od_session.specs.declared.object.OneThread.{OneThread}
use Rattle.od_session.specs.declared.object.TheConstants.{SESSION_ROUNDS}
use Rattle.od_session.specs.Grammars.{grammar_of}
use Rattle.od_text.specs.Lists.{Each, EachPoint}
use Rattle.od_matching.specs.Rounds.Round.{rounds}
use Rattle.od_matching.specs.Rounds.Phases.{phase, greatest_first}
use Rattle.od_session.specs.Parts.{Distinct}

-- the lists of the session are those of the rounds over its documents, and none but the last leaves it finished
pub record IsSoundSession (docs : List Doc) (s : SessionState) : Type 0 where
  pub grammar : Grammar
  pub reads : grammar_of s.kind s.text ≡ Some grammar
  pub within : s.documents ≤ length docs
  pub few : length s.rounds ≤ s.limit
  pub hundred : s.limit ≤ SESSION_ROUNDS
  pub rounds_are : rounds (take s.documents docs) grammar (length s.rounds) ≡ Some s.rounds
  pub unfinished : EachPoint (λ before list. phase (greatest_first grammar.rules) s.limit before ≢ Finished) s.rounds

-- no two sessions have one name, and each is sound
pub record IsSound (o : OneThread) : Type 0 where
  pub distinct : Distinct o.sessions
  pub sound : Each (IsSoundSession o.docs) o.sessions
