-- Every command has an answer, and its answers have one effect.
use Rattle.std.proofs.Common.{◌≡◌, ◌≢◌, ℕ, ◌+◌, length, zero, suc, map, ◌++◌, append-nil, append_assoc, List, [], ◌∷◌, refl, sym, ap, ◌∙◌, arith}
use Rattle.od_pattern.specs.declared.grammar.Head.{Head}
use Rattle.od_command.specs.declared.history.Command.{Command}
use Rattle.od_command.specs.declared.history.Command.TheVariants.{AddDoc, OpenSession, Step, Resume, Print, Release, Settle}
use Rattle.od_command.specs.declared.history.Reply.{Reply}
use Rattle.od_command.specs.declared.history.Reply.TheVariants.{Settled}
use Rattle.od_command.specs.declared.history.Entry.{Entry}
use Rattle.od_session.specs.declared.object.OneThread.{OneThread}
use Rattle.od_session.specs.Parts.{sentence_count, session_of}
use Rattle.od_text.specs.Lists.{Each, points_after}
use Rattle.od_model.specs.History.Legal.{state_after, mine, IsNext, Legal}
use Rattle.od_model.specs.History.Laws.{one_segment, asked}
use Rattle.od_model.specs.Object.Replies.{reply_doc, reply_open, reply_step, reply_resume, reply_print, reply_release, held, Settles, Replies}
use Rattle.od_model.specs.Object.Effects.{effect_of}
use Rattle.od_model.proofs.Histories.Steps.{state_after-snoc, Legal-snoc}

settles : (o : OneThread) (count : ℕ) → sentence_count o.docs ≡ count → Settles o (one_segment count)
settles o zero e = record { whole = sym e; some = tt; none_due = refl }
settles o (suc count) e = record { whole = omega (arith, e); some = (omega arith, tt); none_due = refl }

-- one segment with all sentences settles the object, or none where there is no sentence
pub one-settles : (o : OneThread) → Settles o (one_segment (sentence_count o.docs))
one-settles o = settles o (sentence_count o.docs) refl

-- the object answers every command
pub answer : (heads : List Head) (o : OneThread) (caller : ℕ) (command : Command) → (reply : Reply) × Replies heads o caller command reply
answer heads o caller (AddDoc name body) = (reply_doc o name body, refl)
answer heads o caller (OpenSession name grammar limit) = (reply_open heads o name grammar limit, refl)
answer heads o caller (Step name) = (reply_step o (held o caller name), refl)
answer heads o caller (Resume name) = (reply_resume heads (session_of name o.sessions), refl)
answer heads o caller (Print name) = (reply_print (held o caller name), refl)
answer heads o caller (Release name) = (reply_release (held o caller name), refl)
answer heads o caller Settle = let sizes = one_segment (sentence_count o.docs) in (Settled sizes, (sizes, refl, one-settles o))

-- two answers to a command other than to settle are equal
pub one-answer : (heads : List Head) (o : OneThread) (caller : ℕ) (command : Command) (one other : Reply) → command ≢ Settle → Replies heads o caller command one → Replies heads o caller command other → one ≡ other
one-answer heads o caller (AddDoc name body) one other h r k = r ∙ sym k
one-answer heads o caller (OpenSession name grammar limit) one other h r k = r ∙ sym k
one-answer heads o caller (Step name) one other h r k = r ∙ sym k
one-answer heads o caller (Resume name) one other h r k = r ∙ sym k
one-answer heads o caller (Print name) one other h r k = r ∙ sym k
one-answer heads o caller (Release name) one other h r k = r ∙ sym k
one-answer heads o caller Settle one other h r k = absurd (h refl)

-- two answers to a command have one effect
pub one-effect : (heads : List Head) (o : OneThread) (caller : ℕ) (command : Command) (one other : Reply) → Replies heads o caller command one → Replies heads o caller command other → effect_of heads o caller command one ≡ effect_of heads o caller command other
one-effect heads o caller (AddDoc name body) one other r k = ap (effect_of heads o caller (AddDoc name body)) (r ∙ sym k)
one-effect heads o caller (OpenSession name grammar limit) one other r k = ap (effect_of heads o caller (OpenSession name grammar limit)) (r ∙ sym k)
one-effect heads o caller (Step name) one other r k = ap (effect_of heads o caller (Step name)) (r ∙ sym k)
one-effect heads o caller (Resume name) one other r k = ap (effect_of heads o caller (Resume name)) (r ∙ sym k)
one-effect heads o caller (Print name) one other r k = refl
one-effect heads o caller (Release name) one other r k = ap (effect_of heads o caller (Release name)) (r ∙ sym k)
one-effect heads o caller Settle one other r k = ap (effect_of heads o caller Settle) r.1 ∙ sym (ap (effect_of heads o caller Settle) k.1)

-- ## Commands of a history

-- any command of any caller may come next
pub legal-goes-on : (start : OneThread) (heads : List Head) (es : List Entry) (caller : ℕ) (command : Command) → Legal start heads es → (e : Entry) × (asked e ≡ (caller, command)) × Legal start heads (es ++ e ∷ [])
legal-goes-on start heads es caller command legal =
    let (reply, replies) = answer heads (state_after start heads es) caller command in
    let e : Entry = record { caller = caller; call = length (mine caller es) + 1; command = command; reply = reply } in
    (e, refl, Legal-snoc start heads es e legal (record { replies = replies; numbered = refl }))

module _ (heads : List Head) where
  -- equal commands of equal callers lead from equal objects to equal ones
  same-effect : (o o' : OneThread) (caller caller' : ℕ) (command command' : Command) (one other : Reply) → o ≡ o' → caller ≡ caller' → command ≡ command'
      → Replies heads o caller command one → Replies heads o' caller' command' other → effect_of heads o caller command one ≡ effect_of heads o' caller' command' other
  same-effect o o' caller caller' command command' one other objects callers commands r k =
      let r' : Replies heads o' caller' command' one = rw (objects, callers, commands) at r in
      rw (objects, callers, commands) (one-effect heads o' caller' command' one other r' k)

  module _ (start : OneThread) where
    -- the object after the entries is the same
    abbrev LeadAlike : List Entry → List Entry → Type 0
    LeadAlike es fs = state_after start heads es ≡ state_after start heads fs

    decide-from : (seen seen' es fs : List Entry) → LeadAlike seen seen' → Each (λ p. IsNext start heads p.0 p.1) (points_after seen es) → Each (λ p. IsNext start heads p.0 p.1) (points_after seen' fs)
        → map asked es ≡ map asked fs → LeadAlike (seen ++ es) (seen' ++ fs)
    decide-from seen seen' [] [] same legal legal' is = rw (append-nil seen, append-nil seen') same
    decide-from seen seen' [] (f ∷ fs) same legal legal' is = absurd cc
    decide-from seen seen' (e ∷ es) [] same legal legal' is = absurd cc
    decide-from seen seen' (e ∷ es) (f ∷ fs) same legal legal' is =
        let first : asked e ≡ asked f = cc in
        let callers : e.caller ≡ f.caller = ap (λ (p : ℕ × Command). p.0) first in
        let commands : e.command ≡ f.command = ap (λ (p : ℕ × Command). p.1) first in
        let rest : map asked es ≡ map asked fs = cc in
        let next = same-effect (state_after start heads seen) (state_after start heads seen') e.caller f.caller e.command f.command e.reply f.reply same callers commands legal.0.replies legal'.0.replies in
        let here : LeadAlike (seen ++ e ∷ []) (seen' ++ f ∷ []) = state_after-snoc start heads seen e ∙ next ∙ sym (state_after-snoc start heads seen' f) in
        rw (append_assoc seen (e ∷ []) es, append_assoc seen' (f ∷ []) fs) at (decide-from (seen ++ e ∷ []) (seen' ++ f ∷ []) es fs here legal.1 legal'.1 rest)

-- the commands and their callers decide the object
pub commands-decide : (start : OneThread) (heads : List Head) (es fs : List Entry) → Legal start heads es → Legal start heads fs → map asked es ≡ map asked fs → state_after start heads es ≡ state_after start heads fs
commands-decide start heads es fs legal legal' is = decide-from heads start [] [] es fs refl legal legal' is
