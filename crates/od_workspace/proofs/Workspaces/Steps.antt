-- What the answer to a step reads.
use Rattle.std.proofs.Common.{◌≡◌, List, [], Result, Ok, Err, MatchResult, refl, ap, ◌∙◌}
use Rattle.od_command.specs.declared.history.Refusal.{Refusal}
use Rattle.od_command.specs.declared.history.Reply.TheVariants.{Refused}
use Rattle.od_document.specs.declared.doc.Doc.{Doc}
use Rattle.od_extraction.specs.declared.mention.Mention.{Mention}
use Rattle.od_extraction.specs.declared.mention.RoundResult.TheVariants.{Found}
use Rattle.od_extraction.specs.declared.phase.Phase.{Phase}
use Rattle.od_extraction.specs.declared.phase.Phase.TheVariants.{Going, Finished, AtLimit}
use Rattle.od_session.specs.declared.object.SessionState.{SessionState}
use Rattle.od_session.specs.declared.object.OneThread.{OneThread}
use Rattle.od_session.specs.Parts.{phase_with, round_at}
use Rattle.od_model.specs.Object.Replies.{reply_phase, reply_round, reply_step}
use Rattle.od_workspace.specs.Workspaces.Steps.{step_reply}

-- the answer reads the documents alone
phase-docs : (o : OneThread) (s : SessionState) (p : Phase) → reply_phase o s p ≡ reply_phase (record { docs = o.docs; sessions = [] }) s p
phase-docs o s Finished = refl
phase-docs o s AtLimit = refl
phase-docs o s Going = refl

-- so the answer to a step does
pub step-docs : (o : OneThread) (s : SessionState) → reply_step o (Ok s) ≡ step_reply o.docs s
step-docs o s = phase-docs o s (phase_with s s.rounds)

-- where the rounds go on, it is that of the next round
pub step-going : (docs : List Doc) (s : SessionState) → phase_with s s.rounds ≡ Going → (next : Result (List Mention) Refusal)
    → MatchResult next (λ added. round_at docs s ≡ Found added) (λ refusal. reply_round s (round_at docs s) ≡ Refused refusal)
    → MatchResult next (λ added. (phase_with s s.rounds ≡ Going) × (round_at docs s ≡ Found added)) (λ refusal. step_reply docs s ≡ Refused refusal)
step-going docs s going (Ok added) h = (going, h)
step-going docs s going (Err refusal) h = ap (reply_phase (record { docs = docs; sessions = [] }) s) going ∙ h
