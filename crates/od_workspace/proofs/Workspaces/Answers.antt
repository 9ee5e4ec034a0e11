-- What is answered, from what was read.
use Rattle.std.proofs.Common.{◌≡◌, ℕ, ◌+◌, List, [], ◌∷◌, ◌++◌, length, slice_get, ◌<◌, ◌≤◌, Ok, Option, Some, None, true, false, ◌||◌, cond, nat_lt, nat_le, refl, sym, ap, ◌∙◌}
use Rattle.std.proofs.lemmas.Bool.{or_from, le-ltb, lt-leb}
use Rattle.od_document.specs.declared.doc.Doc.{Doc}
use Rattle.od_pattern.specs.declared.grammar.Head.{Head}
use Rattle.od_extraction.specs.declared.mention.Mention.{Mention}
use Rattle.od_extraction.specs.declared.mention.RoundResult.TheVariants.{Found}
use Rattle.od_extraction.specs.declared.phase.Phase.TheVariants.{Going}
use Rattle.od_command.specs.declared.history.Command.TheVariants.{AddDoc, OpenSession, Step, Resume, Release}
use Rattle.od_command.specs.declared.history.Reply.{Reply}
use Rattle.od_command.specs.declared.history.Reply.TheVariants.{Added, Opened, Resumed, Released, Refused}
use Rattle.od_command.specs.declared.history.Refusal.{Refusal}
use Rattle.od_command.specs.declared.history.Refusal.TheVariants.{BadLimit, Duplicate, Full, NoGrammar, NoRoom, Taken}
use Rattle.od_session.specs.declared.object.SessionState.{SessionState}
use Rattle.od_session.specs.declared.object.OneThread.{OneThread}
use Rattle.od_document.specs.Reading.{Reads}
use Rattle.od_extraction.specs.Joined.{joined}
use Rattle.od_session.specs.declared.object.TheConstants.{SESSION_ROUNDS, SESSIONS}
use Rattle.od_session.specs.Parts.{head_of, has_session, session_of, has_doc, is_full, size_of, is_known, phase_with, round_at}
use Rattle.od_model.specs.Object.Effects.{doc_made, found_of, opened, stepped, taken_by, let_go}
use Rattle.od_model.specs.Object.Replies.{held, reply_headed, reply_read, reply_step, reply_phase, reply_round, reply_resume, reply_unheld, reply_release}
use Rattle.od_rounds.specs.Running.{Running}
use Rattle.od_document.proofs.Existence.{Reads-document_of}
use Rattle.od_workspace.specs.declared.workspace.change.Change.TheVariants.{Nothing, Document, Opening, Round, Holder}
use Rattle.od_workspace.specs.Workspaces.Changes.{ChangesAt, IsAnswer}
use Rattle.od_workspace.specs.Workspaces.Sessions.{IsRunning}
use Rattle.od_workspace.specs.Workspaces.Steps.{step_reply}
use Rattle.od_workspace.proofs.Workspaces.Changes.{changed_at-same}
use Rattle.od_workspace.proofs.Workspaces.Steps.{step-docs}

-- the state of a session of a head that is opened now
abbrev pub state_of : OneThread → ℕ → List ℕ → ℕ → Head → SessionState
state_of o caller name limit head = record { name = name; kind = head.kind; text = head.text; documents = length o.docs; limit = limit; rounds = []; holder = Some caller }

module _ (heads : List Head) (o : OneThread) (caller : ℕ) (name : List ℕ) where
  -- ## A document

  -- one that was read, whose name is new and for which there is room
  pub answer-added : (body : List ℕ) (doc : Doc) → Reads name body doc → has_doc o name ≡ false → is_full o doc.size ≡ false → IsAnswer heads o caller (AddDoc name body) (record { reply = Added (length o.docs + 1); change = Document doc })
  answer-added body doc reads new room =
      let free : is_full o (length body) ≡ false = ap (is_full o) (sym reads.size_is) ∙ room in
      record {
        replies = sym (ap (reply_read o name body) reads.faultless ∙ ap (λ b. cond b (Refused Duplicate) (cond (is_full o (length body)) (Refused (Full (length o.docs) (size_of o.docs))) (Added (length o.docs + 1)))) new
            ∙ ap (λ b. cond b (Refused (Full (length o.docs) (size_of o.docs))) (Added (length o.docs + 1))) free);
        effect = ap (λ made. record { docs = o.docs ++ doc_made made; sessions = o.sessions }) (Reads-document_of name body doc reads);
        fits = (ap (has_doc o) reads.name_is ∙ new, room);
      }

  -- ## A session that is opened

  -- of a new name, where there is room
  pub answer-opened : (grammar : List ℕ) (limit : ℕ) (head : Head) (running : Running) → head_of grammar heads ≡ Some head → 1 ≤ limit → limit ≤ SESSION_ROUNDS
      → has_session o name ≡ false → length o.sessions < SESSIONS → IsRunning o.docs (state_of o caller name limit head) running
      → IsAnswer heads o caller (OpenSession name grammar limit) (record { reply = Opened (length o.docs) limit; change = Opening (state_of o caller name limit head) running })
  answer-opened grammar limit head running found least most free room runs =
      let bounds : (nat_lt limit 1 || nat_lt SESSION_ROUNDS limit) ≡ false = or_from (nat_lt limit 1) (nat_lt SESSION_ROUNDS limit) (le-ltb limit 1 least) (le-ltb SESSION_ROUNDS limit most) in
      let taken = cond (has_session o name) (Refused Taken) (cond (nat_le SESSIONS (length o.sessions)) (Refused (NoRoom (length o.sessions))) (Opened (length o.docs) limit)) in
      record {
        replies = sym (ap (reply_headed o name limit) found
            ∙ ap (λ b. cond b (Refused (BadLimit limit)) taken) bounds
            ∙ ap (λ b. cond b (Refused Taken) (cond (nat_le SESSIONS (length o.sessions)) (Refused (NoRoom (length o.sessions))) (Opened (length o.docs) limit))) free
            ∙ ap (λ b. cond b (Refused (NoRoom (length o.sessions))) (Opened (length o.docs) limit)) (lt-leb SESSIONS (length o.sessions) room));
        effect = ap (λ (h : Option Head). record { docs = o.docs; sessions = o.sessions ++ opened name (length o.docs) limit caller h }) found;
        fits = (free, room, runs);
      }

  -- ## The session of the name

  module _ (s : SessionState) (place : ℕ) (at : slice_get o.sessions place ≡ Some s) (found : session_of name o.sessions ≡ Some s) (changes : ChangesAt name o.sessions place) where
    -- one that nobody holds and whose grammar is known
    pub answer-resumed : (reply : Reply) → s.holder ≡ None → is_known heads s ≡ true → reply ≡ Resumed s.documents s.limit (length s.rounds) (length (joined s.rounds)) (phase_with s s.rounds)
        → IsAnswer heads o caller (Resume name) (record { reply = reply; change = Holder place (Some caller) })
    answer-resumed reply free known is = rw is (record {
      replies = sym (ap (reply_resume heads) found ∙ ap (reply_unheld heads s) free ∙ ap (λ b. cond b (Resumed s.documents s.limit (length s.rounds) (length (joined s.rounds)) (phase_with s s.rounds)) (Refused NoGrammar)) known);
      effect = ap (λ (l : List SessionState). record { docs = o.docs; sessions = l }) (changes (taken_by caller));
      fits = (s, at, tt);
    })

    module _ (holds : held o caller name ≡ Ok s) where
      -- one that the caller lets go
      pub answer-released : IsAnswer heads o caller (Release name) (record { reply = Released; change = Holder place None })
      answer-released = record {
        replies = sym (ap reply_release holds);
        effect = ap (λ (l : List SessionState). record { docs = o.docs; sessions = l }) (changes let_go);
        fits = (s, at, tt);
      }

      -- one whose step is refused
      pub answer-not_stepped : (refusal : Refusal) → step_reply o.docs s ≡ Refused refusal → IsAnswer heads o caller (Step name) (record { reply = Refused refusal; change = Nothing })
      answer-not_stepped refusal is = record {
        replies = sym (ap (reply_step o) holds ∙ step-docs o s ∙ is);
        effect = refl;
        fits = tt;
      }

      -- one whose next round finds these mentions
      pub answer-stepped : (added : List Mention) (reply : Reply) → phase_with s s.rounds ≡ Going → round_at o.docs s ≡ Found added → reply ≡ reply_round s (Found added)
          → IsAnswer heads o caller (Step name) (record { reply = reply; change = Round place added })
      answer-stepped added reply going finds is = rw is (record {
        replies = sym (ap (reply_step o) holds ∙ ap (reply_phase o s) going ∙ ap (reply_round s) finds);
        effect = ap (λ (l : List SessionState). record { docs = o.docs; sessions = l })
            (changes (stepped o.docs) ∙ changed_at-same (stepped o.docs) (λ t. record t { rounds = t.rounds ++ added ∷ [] }) o.sessions place s at (ap (λ r. record s { rounds = s.rounds ++ found_of r ∷ [] }) finds));
        fits = (s, at, (going, finds));
      })
