-- What is so of the object where it gives an answer other than a refusal.
use Rattle.std.proofs.Common.{◌≡◌, ℕ, List, length, Option, Some, None, Result, Ok, Err, Bool, true, false, ◌||◌, nat_lt, nat_le, refl, sym, ap, ◌∙◌, subst, if◌then◌else◌, eqb}
use Rattle.std.proofs.lemmas.Bool.{eqb-true, or_parts}
use Rattle.od_pattern.specs.declared.grammar.Head.{Head}
use Rattle.od_extraction.specs.Joined.{joined}
use Rattle.od_extraction.specs.declared.mention.Mention.{Mention}
use Rattle.od_extraction.specs.declared.mention.RoundResult.{RoundResult}
use Rattle.od_extraction.specs.declared.mention.RoundResult.TheVariants.{Found}
use Rattle.od_extraction.specs.declared.mention.RoundResult.TheVariants as outcome
use Rattle.od_extraction.specs.declared.phase.Phase.{Phase}
use Rattle.od_extraction.specs.declared.phase.Phase.TheVariants as stage
use Rattle.od_command.specs.declared.history.Command.{Command}
use Rattle.od_command.specs.declared.history.Command.TheVariants.{AddDoc, OpenSession, Step, Resume, Print, Release, Settle}
use Rattle.od_command.specs.declared.history.Reply.{Reply}
use Rattle.od_command.specs.declared.history.Reply.TheVariants.{Opened, Stepped, Resumed, Printed, Released, Refused}
use Rattle.od_command.specs.declared.history.Refusal.{Refusal}
use Rattle.od_command.specs.declared.history.Refusal.TheVariants.{BadLimit, Taken, NoRoom, NoGrammar, Busy, NotHeld, NoSession}
use Rattle.od_session.specs.declared.object.SessionState.{SessionState}
use Rattle.od_session.specs.declared.object.OneThread.{OneThread}
use Rattle.od_session.specs.declared.object.TheConstants.{SESSIONS, SESSION_ROUNDS}
use Rattle.od_session.specs.Parts.{session_of, has_session, head_of, is_known, phase_with, round_at}
use Rattle.od_model.specs.Object.Replies.{reply_headed, reply_step, reply_phase, reply_round, reply_unheld, reply_resume, reply_print, reply_release, held, held_in, held_as, Replies}

-- ## What an answer tells

-- the caller holds the session of this name
pub record IsHolding (o : OneThread) (caller : ℕ) (name : List ℕ) : Type 0 where
  pub session : SessionState
  pub there : session_of name o.sessions ≡ Some session
  pub holds : session.holder ≡ Some caller

-- nobody holds it
pub record IsFree (o : OneThread) (name : List ℕ) : Type 0 where
  pub session : SessionState
  pub there : session_of name o.sessions ≡ Some session
  pub free : session.holder ≡ None

-- no session has the name, and the script has the grammar
pub record IsOpening (heads : List Head) (o : OneThread) (name grammar : List ℕ) (limit documents shown : ℕ) : Type 0 where
  pub head : Head
  pub head_is : head_of grammar heads ≡ Some head
  pub few : nat_lt SESSION_ROUNDS limit ≡ false
  pub new : has_session o name ≡ false
  pub documents_are : documents ≡ length o.docs
  pub shown_is : shown ≡ limit

-- the caller's session goes on, and its round finds these
pub record IsStepping (o : OneThread) (caller : ℕ) (name : List ℕ) : Type 0 where
  pub holding : IsHolding o caller name
  pub going : phase_with holding.session holding.session.rounds ≡ stage.Going
  pub new : List Mention
  pub finds : round_at o.docs holding.session ≡ Found new

-- the numbers are those of the caller's session
pub record IsPrinting (o : OneThread) (caller : ℕ) (name : List ℕ) (number mentions : ℕ) (state : Phase) : Type 0 where
  pub holding : IsHolding o caller name
  pub number_is : number ≡ length holding.session.rounds
  pub mentions_are : mentions ≡ length (joined holding.session.rounds)
  pub state_is : state ≡ phase_with holding.session holding.session.rounds

abbrev pub Answered : List Head → OneThread → ℕ → Command → Reply → Type 0
Answered heads o caller (OpenSession name grammar limit) (Opened documents shown) = IsOpening heads o name grammar limit documents shown
Answered heads o caller (Step name) (Stepped round added phase) = IsStepping o caller name
Answered heads o caller (Resume name) (Resumed documents limit round mentions phase) = IsFree o name
Answered heads o caller (Print name) (Printed number mentions state) = IsPrinting o caller name number mentions state
Answered heads o caller (Release name) Released = IsHolding o caller name
Answered heads o caller command reply = Unit {0}

-- ## That it does

module _ (heads : List Head) (o : OneThread) (caller : ℕ) where
  -- an answer tells what it says
  abbrev Tells : Command → Reply → Type 0
  Tells command reply = Answered heads o caller command reply

  tells-opening : (name grammar : List ℕ) (limit : ℕ) (head : Head) → head_of grammar heads ≡ Some head → (bad taken full : Bool) → (nat_lt limit 1 || nat_lt SESSION_ROUNDS limit) ≡ bad → has_session o name ≡ taken
      → Tells (OpenSession name grammar limit) (if bad then Refused (BadLimit limit) else (if taken then Refused Taken else (if full then Refused (NoRoom (length o.sessions)) else Opened (length o.docs) limit)))
  tells-opening name grammar limit head is true taken full few new = tt
  tells-opening name grammar limit head is false true full few new = tt
  tells-opening name grammar limit head is false false true few new = tt
  tells-opening name grammar limit head is false false false few new = record {
    head = head;
    head_is = is;
    few = (or_parts (nat_lt limit 1) (nat_lt SESSION_ROUNDS limit) few).1;
    new = new;
    documents_are = refl;
    shown_is = refl;
  }

  tells-open : (name grammar : List ℕ) (limit : ℕ) (head : Option Head) → head_of grammar heads ≡ head → Tells (OpenSession name grammar limit) (reply_headed o name limit head)
  tells-open name grammar limit None is = tt
  tells-open name grammar limit (Some head) is = tells-opening name grammar limit head is (nat_lt limit 1 || nat_lt SESSION_ROUNDS limit) (has_session o name) (nat_le SESSIONS (length o.sessions)) refl refl

  module _ (name : List ℕ) where
    -- what holds of each refusal and of the session that the caller holds
    by-held : (P : Result SessionState Refusal → Type 0) → ((refusal : Refusal) → P (Err refusal)) → ((h : IsHolding o caller name) → P (Ok h.session)) → P (held o caller name)
    by-held P refused holding = found (session_of name o.sessions) refl
      where
        owned : (s : SessionState) → session_of name o.sessions ≡ Some s → (owner : ℕ) → s.holder ≡ Some owner → (b : Bool) → eqb owner caller ≡ b → P (if b then Ok s else Err (Busy owner))
        owned s at owner holder true is = holding (record { session = s; there = at; holds = holder ∙ ap Some (eqb-true owner caller is) })
        owned s at owner holder false is = refused (Busy owner)

        by-holder : (s : SessionState) → session_of name o.sessions ≡ Some s → (holder : Option ℕ) → s.holder ≡ holder → P (held_as caller s holder)
        by-holder s at None holder = refused NotHeld
        by-holder s at (Some owner) holder = owned s at owner holder (eqb owner caller) refl

        found : (f : Option SessionState) → session_of name o.sessions ≡ f → P (held_in caller f)
        found None at = refused NoSession
        found (Some s) at = by-holder s at s.holder refl

    tells-round : (h : IsHolding o caller name) → phase_with h.session h.session.rounds ≡ stage.Going → (r : RoundResult) → round_at o.docs h.session ≡ r → Tells (Step name) (reply_round h.session r)
    tells-round h going (Found new) is = record { holding = h; going = going; new = new; finds = is }
    tells-round h going (outcome.Crowded rule document sentence count) is = tt
    tells-round h going (outcome.TooMany total) is = tt

    tells-phase : (h : IsHolding o caller name) (p : Phase) → phase_with h.session h.session.rounds ≡ p → Tells (Step name) (reply_phase o h.session p)
    tells-phase h stage.Going is = tells-round h is (round_at o.docs h.session) refl
    tells-phase h stage.Finished is = tt
    tells-phase h stage.AtLimit is = tt

    tells-step : Tells (Step name) (reply_step o (held o caller name))
    tells-step = by-held (λ r. Tells (Step name) (reply_step o r)) (λ refusal. tt) (λ h. tells-phase h (phase_with h.session h.session.rounds) refl)

    tells-print : Tells (Print name) (reply_print (held o caller name))
    tells-print = by-held (λ r. Tells (Print name) (reply_print r)) (λ refusal. tt) (λ h. record { holding = h; number_is = refl; mentions_are = refl; state_is = refl })

    tells-release : Tells (Release name) (reply_release (held o caller name))
    tells-release = by-held (λ r. Tells (Release name) (reply_release r)) (λ refusal. tt) (λ h. h)

    tells-known : (s : SessionState) → IsFree o name → (b : Bool) → Tells (Resume name) (if b then Resumed s.documents s.limit (length s.rounds) (length (joined s.rounds)) (phase_with s s.rounds) else Refused NoGrammar)
    tells-known s h true = h
    tells-known s h false = tt

    tells-unheld : (s : SessionState) → session_of name o.sessions ≡ Some s → (holder : Option ℕ) → s.holder ≡ holder → Tells (Resume name) (reply_unheld heads s holder)
    tells-unheld s at None free = tells-known s (record { session = s; there = at; free = free }) (is_known heads s)
    tells-unheld s at (Some owner) free = tt

    tells-resume : (found : Option SessionState) → session_of name o.sessions ≡ found → Tells (Resume name) (reply_resume heads found)
    tells-resume None at = tt
    tells-resume (Some s) at = tells-unheld s at s.holder refl

  -- what the object answers tells it
  pub answered : (command : Command) (reply : Reply) → Replies heads o caller command reply → Answered heads o caller command reply
  answered (AddDoc name body) reply r = tt
  answered (OpenSession name grammar limit) reply r = subst (Tells (OpenSession name grammar limit)) (sym r) (tells-open name grammar limit (head_of grammar heads) refl)
  answered (Step name) reply r = subst (Tells (Step name)) (sym r) (tells-step name)
  answered (Resume name) reply r = subst (Tells (Resume name)) (sym r) (tells-resume name (session_of name o.sessions) refl)
  answered (Print name) reply r = subst (Tells (Print name)) (sym r) (tells-print name)
  answered (Release name) reply r = subst (Tells (Release name)) (sym r) (tells-release name)
  answered Settle reply r = tt
