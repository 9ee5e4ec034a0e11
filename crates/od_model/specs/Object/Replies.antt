-- What the one-thread object answers to a command. The tests of each command stand in their order.
use Rattle.std.specs.Prelude.{◌≡◌, ℕ, ◌+◌, ◌≤◌, List, [], ◌∷◌, ◌++◌, length, sum, Option, Some, None, Result, Ok, Err, ◌||◌, if◌then◌else◌, ◌==◌, nat_lt, nat_le}
use Rattle.od_document.specs.declared.conllu.ConlluFault.{ConlluFault}
use Rattle.od_pattern.specs.declared.grammar.Head.{Head}
use Rattle.od_extraction.specs.declared.mention.RoundResult.{RoundResult}
use Rattle.od_extraction.specs.declared.mention.RoundResult.TheVariants.{Found}
use Rattle.od_extraction.specs.declared.mention.RoundResult.TheVariants as outcome
use Rattle.od_extraction.specs.declared.phase.Phase.{Phase}
use Rattle.od_extraction.specs.declared.phase.Phase.TheVariants as stage
use Rattle.od_command.specs.declared.history.Command.{Command}
use Rattle.od_command.specs.declared.history.Command.TheVariants.{AddDoc, OpenSession, Step, Resume, Print, Release, Settle}
use Rattle.od_command.specs.declared.history.Reply.{Reply}
use Rattle.od_command.specs.declared.history.Reply.TheVariants.{Added, Opened, Stepped, Resumed, Printed, Released, Settled, Refused}
use Rattle.od_command.specs.declared.history.Refusal.{Refusal}
use Rattle.od_command.specs.declared.history.Refusal.TheVariants.{BadDoc, Duplicate, Full, NoGrammar, BadLimit, Taken, NoRoom, NoSession, Busy, NotHeld, Finished, AtLimit, Crowded, TooMany}
use Rattle.od_session.specs.declared.object.SessionState.{SessionState}
use Rattle.od_session.specs.declared.object.OneThread.{OneThread}
use Rattle.od_session.specs.declared.object.TheConstants.{SESSIONS, SESSION_ROUNDS}
use Rattle.od_document.specs.Faults.{doc_fault}
use Rattle.od_text.specs.Lists.{Each}
use Rattle.od_extraction.specs.Joined.{joined}
use Rattle.od_model.specs.Object.Due.{due}
use Rattle.od_session.specs.Parts.{has_doc, size_of, sentence_count, is_full, session_of, has_session, head_of, is_known, phase_with, round_at}

-- bytes with a fault, or a document of their length
abbrev pub reply_read : OneThread → List ℕ → List ℕ → Option ConlluFault → Reply
reply_read o name body (Some fault) = Refused (BadDoc fault.line fault.kind)
reply_read o name body None =
    if has_doc o name then Refused Duplicate
    else (if is_full o (length body) then Refused (Full (length o.docs) (size_of o.docs))
    else Added (length o.docs + 1))

abbrev pub reply_doc : OneThread → List ℕ → List ℕ → Reply
reply_doc o name body = reply_read o name body (doc_fault body)

-- a session of a grammar that the script may have
abbrev pub reply_headed : OneThread → List ℕ → ℕ → Option Head → Reply
reply_headed o name limit None = Refused NoGrammar
reply_headed o name limit (Some head) =
    if nat_lt limit 1 || nat_lt SESSION_ROUNDS limit then Refused (BadLimit limit)
    else (if has_session o name then Refused Taken
    else (if nat_le SESSIONS (length o.sessions) then Refused (NoRoom (length o.sessions))
    else Opened (length o.docs) limit))

abbrev pub reply_open : List Head → OneThread → List ℕ → List ℕ → ℕ → Reply
reply_open heads o name grammar limit = reply_headed o name limit (head_of grammar heads)

-- the session that the caller holds, or why there is none
abbrev pub held_as : ℕ → SessionState → Option ℕ → Result SessionState Refusal
held_as caller s None = Err NotHeld
held_as caller s (Some owner) = if owner == caller then Ok s else Err (Busy owner)

abbrev pub held_in : ℕ → Option SessionState → Result SessionState Refusal
held_in caller None = Err NoSession
held_in caller (Some s) = held_as caller s s.holder

abbrev pub held : OneThread → ℕ → List ℕ → Result SessionState Refusal
held o caller name = held_in caller (session_of name o.sessions)

-- a round that was run, or its refusal
abbrev pub reply_round : SessionState → RoundResult → Reply
reply_round s (Found new) = Stepped (length s.rounds + 1) (length new) (phase_with s (s.rounds ++ new ∷ []))
reply_round s (outcome.Crowded rule document sentence count) = Refused (Crowded rule document sentence count)
reply_round s (outcome.TooMany total) = Refused (TooMany total)

abbrev pub reply_phase : OneThread → SessionState → Phase → Reply
reply_phase o s stage.Finished = Refused (Finished (length s.rounds))
reply_phase o s stage.AtLimit = Refused (AtLimit (length s.rounds))
reply_phase o s stage.Going = reply_round s (round_at o.docs s)

abbrev pub reply_step : OneThread → Result SessionState Refusal → Reply
reply_step o (Err refusal) = Refused refusal
reply_step o (Ok s) = reply_phase o s (phase_with s s.rounds)

abbrev pub reply_unheld : List Head → SessionState → Option ℕ → Reply
reply_unheld heads s (Some owner) = Refused (Busy owner)
reply_unheld heads s None =
    if is_known heads s then Resumed s.documents s.limit (length s.rounds) (length (joined s.rounds)) (phase_with s s.rounds)
    else Refused NoGrammar

abbrev pub reply_resume : List Head → Option SessionState → Reply
reply_resume heads None = Refused NoSession
reply_resume heads (Some s) = reply_unheld heads s s.holder

abbrev pub reply_print : Result SessionState Refusal → Reply
reply_print (Err refusal) = Refused refusal
reply_print (Ok s) = Printed (length s.rounds) (length (joined s.rounds)) (phase_with s s.rounds)

abbrev pub reply_release : Result SessionState Refusal → Reply
reply_release (Err refusal) = Refused refusal
reply_release (Ok s) = Released

-- sizes from 1 whose sum is the number of committed sentences and in which no merge is due
pub record Settles (o : OneThread) (sizes : List ℕ) : Type 0 where
  pub whole : sum sizes ≡ sentence_count o.docs
  pub some : Each (λ size. 1 ≤ size) sizes
  pub none_due : due sizes ≡ None

-- the object answers the caller's command so; `Settle` alone leaves a choice
abbrev pub Replies : List Head → OneThread → ℕ → Command → Reply → Type 0
Replies heads o caller (AddDoc name body) reply = reply ≡ reply_doc o name body
Replies heads o caller (OpenSession name grammar limit) reply = reply ≡ reply_open heads o name grammar limit
Replies heads o caller (Step name) reply = reply ≡ reply_step o (held o caller name)
Replies heads o caller (Resume name) reply = reply ≡ reply_resume heads (session_of name o.sessions)
Replies heads o caller (Print name) reply = reply ≡ reply_print (held o caller name)
Replies heads o caller (Release name) reply = reply ≡ reply_release (held o caller name)
Replies heads o caller Settle reply = (sizes : List ℕ) × (reply ≡ Settled sizes) × Settles o sizes
