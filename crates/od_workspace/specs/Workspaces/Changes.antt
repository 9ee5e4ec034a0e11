-- What an answer changes.
use Rattle.std.specs.Prelude.{◌≡◌, ℕ, zero, suc, ◌<◌, List, [], ◌∷◌, ◌++◌, length, slice_get, Some, false}
use Rattle.od_document.specs.declared.doc.Doc.{Doc}
use Rattle.od_pattern.specs.declared.grammar.Head.{Head}
use Rattle.od_extraction.specs.declared.mention.Mention.{Mention}
use Rattle.od_extraction.specs.declared.mention.RoundResult.TheVariants.{Found}
use Rattle.od_extraction.specs.declared.phase.Phase.TheVariants.{Going}
use Rattle.od_command.specs.declared.history.Command.{Command}
use Rattle.od_session.specs.declared.object.SessionState.{SessionState}
use Rattle.od_session.specs.declared.object.OneThread.{OneThread}
use Rattle.od_session.specs.declared.object.TheConstants.{SESSIONS}
use Rattle.od_session.specs.Parts.{has_doc, is_full, has_session, phase_with, round_at}
use Rattle.od_model.specs.Object.Replies.{Replies}
use Rattle.od_model.specs.Object.Effects.{change, effect_of}
use Rattle.od_workspace.specs.declared.workspace.change.Change.{Change}
use Rattle.od_workspace.specs.declared.workspace.change.Change.TheVariants.{Nothing, Document, Opening, Round, Holder}
use Rattle.od_workspace.specs.declared.workspace.change.Answer.{Answer}
use Rattle.od_workspace.specs.Workspaces.Sessions.{IsRunning}

-- the session at a place, changed
abbrev pub changed_at : ℕ → (SessionState → SessionState) → List SessionState → List SessionState
changed_at place f [] = []
changed_at zero f (s ∷ sessions) = f s ∷ sessions
changed_at (suc place) f (s ∷ sessions) = s ∷ changed_at place f sessions

-- a change of the session of a name is one of the session at this place
abbrev pub ChangesAt : List ℕ → List SessionState → ℕ → Type 0
ChangesAt name sessions place = (f : SessionState → SessionState) → change name f sessions ≡ changed_at place f sessions

-- the object after a change
abbrev pub changed : OneThread → Change → OneThread
changed o Nothing = o
changed o (Document doc) = record o { docs = o.docs ++ doc ∷ [] }
changed o (Opening state running) = record o { sessions = o.sessions ++ state ∷ [] }
changed o (Round place added) = record o { sessions = changed_at place (λ s. record s { rounds = s.rounds ++ added ∷ [] }) o.sessions }
changed o (Holder place holder) = record o { sessions = changed_at place (λ s. record s { holder = holder }) o.sessions }

-- a session stands at the place, of which P holds
abbrev pub SessionAt : List SessionState → ℕ → (SessionState → Type 0) → Type 0
SessionAt sessions place P = (s : SessionState) × (slice_get sessions place ≡ Some s) × P s

-- the session goes on, and its next round finds these mentions
abbrev pub IsNextRound : List Doc → List Mention → SessionState → Type 0
IsNextRound docs added s = (phase_with s s.rounds ≡ Going) × (round_at docs s ≡ Found added)

-- the object has room for the change
abbrev pub Fits : OneThread → Change → Type 0
Fits o Nothing = Unit {0}
Fits o (Document doc) = (has_doc o doc.name ≡ false) × (is_full o doc.size ≡ false)
Fits o (Opening state running) = (has_session o state.name ≡ false) × (length o.sessions < SESSIONS) × IsRunning o.docs state running
Fits o (Round place added) = SessionAt o.sessions place (IsNextRound o.docs added)
Fits o (Holder place holder) = SessionAt o.sessions place (λ s. Unit {0})

-- the object answers the caller's command so, and the change is its effect
pub record IsAnswer (heads : List Head) (o : OneThread) (caller : ℕ) (command : Command) (answer : Answer) : Type 0 where
  pub replies : Replies heads o caller command answer.reply
  pub effect : effect_of heads o caller command answer.reply ≡ changed o answer.change
  pub fits : Fits o answer.change
