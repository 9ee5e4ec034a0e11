-- What entries leave alone: the documents before, the sessions that other callers hold, and their next rounds.
use Rattle.std.proofs.Common.{◌≡◌, ◌≢◌, ℕ, ◌+◌, ◌≤◌, List, [], ◌∷◌, ◌++◌, length, Option, Some, None, Ok, Err, Bool, true, false, cond, refl, sym, ap, ◌∙◌, subst, append-nil, append_assoc, if◌then◌else◌, eqb, bytes_eq}
use Rattle.std.specs.Option.{option_or}
use Rattle.std.proofs.lemmas.List.{take-append-le}
use Rattle.std.proofs.lemmas.List.Folds.{find-append}
use Rattle.od_document.specs.declared.doc.Doc.{Doc}
use Rattle.od_pattern.specs.declared.grammar.Head.{Head}
use Rattle.od_extraction.specs.declared.phase.Phase.{Phase}
use Rattle.od_extraction.specs.declared.phase.Phase.TheVariants.{Going, Finished, AtLimit}
use Rattle.od_extraction.specs.Joined.{joined}
use Rattle.od_matching.specs.Rounds.Round.{round}
use Rattle.od_command.specs.declared.history.Command.{Command}
use Rattle.od_command.specs.declared.history.Command.TheVariants.{AddDoc, OpenSession, Step, Resume, Print, Release, Settle}
use Rattle.od_command.specs.declared.history.Reply.{Reply}
use Rattle.od_command.specs.declared.history.Reply.TheVariants.{Added, Opened, Stepped, Resumed, Released}
use Rattle.od_command.specs.declared.history.Refusal.TheVariants.{Busy}
use Rattle.od_command.specs.declared.history.Entry.{Entry}
use Rattle.od_session.specs.declared.object.SessionState.{SessionState}
use Rattle.od_session.specs.declared.object.OneThread.{OneThread}
use Rattle.od_session.specs.Parts.{is_named, session_of, head_of, grammar_at, phase_with, round_at}
use Rattle.od_document.specs.Building.{document_of}
use Rattle.od_text.specs.Lists.{Each, points_after}
use Rattle.od_text.proofs.Lists.{EachPoint-rest, Each-find}
use Rattle.od_model.specs.Object.Replies.{reply_round, reply_phase, reply_step, reply_print, reply_release, held, held_in, held_as, Replies}
use Rattle.od_model.specs.Object.Effects.{doc_made, change, stepped, taken_by, let_go, opened, effect_of, effect}
use Rattle.od_model.specs.Object.Sound.{IsSound, IsSoundSession}
use Rattle.od_model.specs.History.Legal.{state_after, IsNext}
use Rattle.od_model.specs.History.Laws.{IsHeldThrough, IsOn}
use Rattle.od_model.proofs.Objects.Answered.{IsHolding, IsFree, Answered, answered}
use Rattle.od_model.proofs.Objects.Names.{same-name}
use Rattle.od_model.proofs.Histories.Steps.{state_after-snoc, state_after-append}

-- ## Documents

-- the documents, and some more behind them
abbrev pub Grows : OneThread → OneThread → Type 0
Grows o after = (more : List Doc) × (after.docs ≡ o.docs ++ more)

same-docs : (o : OneThread) → Grows o o
same-docs o = ([], sym (append-nil o.docs))

grows-by : (heads : List Head) (o : OneThread) (caller : ℕ) (command : Command) (reply : Reply) → Grows o (effect_of heads o caller command reply)
grows-by heads o caller (AddDoc name body) (Added documents) = (doc_made (document_of name body), refl)
grows-by heads o caller (AddDoc name body) reply = same-docs o
grows-by heads o caller (OpenSession name grammar limit) (Opened documents shown) = ([], sym (append-nil o.docs))
grows-by heads o caller (OpenSession name grammar limit) reply = same-docs o
grows-by heads o caller (Step name) (Stepped round added phase) = ([], sym (append-nil o.docs))
grows-by heads o caller (Step name) reply = same-docs o
grows-by heads o caller (Resume name) (Resumed documents limit round mentions phase) = ([], sym (append-nil o.docs))
grows-by heads o caller (Resume name) reply = same-docs o
grows-by heads o caller (Print name) reply = same-docs o
grows-by heads o caller (Release name) Released = ([], sym (append-nil o.docs))
grows-by heads o caller (Release name) reply = same-docs o
grows-by heads o caller Settle reply = same-docs o

grows-then : (o mid after : OneThread) → Grows o mid → Grows mid after → Grows o after
grows-then o mid after (more, h) (rest, k) = (more ++ rest, k ∙ ap (λ l. l ++ rest) h ∙ append_assoc o.docs more rest)

-- entries only add documents, behind those that are there
pub docs-grow : (o : OneThread) (heads : List Head) (fs : List Entry) → Grows o (state_after o heads fs)
unfolding state_after
docs-grow o heads [] = same-docs o
docs-grow o heads (e ∷ fs) = grows-then o (effect heads o e) (state_after (effect heads o e) heads fs) (grows-by heads o e.caller e.command e.reply) (docs-grow (effect heads o e) heads fs)

pub docs-grow-after : (start : OneThread) (heads : List Head) (es fs : List Entry) → Grows (state_after start heads es) (state_after start heads (es ++ fs))
docs-grow-after start heads es fs = subst (Grows (state_after start heads es)) (sym (state_after-append start heads es fs)) (docs-grow (state_after start heads es) heads fs)

-- a round over the documents before, however many there are now
pub same-round : (docs more : List Doc) (s : SessionState) → s.documents ≤ length docs → round_at (docs ++ more) s ≡ round_at docs s
same-round docs more s within = ap (λ l. round l (grammar_at s) (length s.rounds + 1) (joined s.rounds)) (take-append-le s.documents docs more within)

pub next-round-stays : (start : OneThread) (heads : List Head) (es fs : List Entry) (name : List ℕ) (s : SessionState) → IsSound (state_after start heads es) → session_of name (state_after start heads es).sessions ≡ Some s
    → round_at (state_after start heads (es ++ fs)).docs s ≡ round_at (state_after start heads es).docs s
next-round-stays start heads es fs name s sound at =
    let o = state_after start heads es in
    let own : IsSoundSession o.docs s = Each-find (IsSoundSession o.docs) (is_named name) s o.sessions sound.sound at in
    let (more, grows) = docs-grow-after start heads es fs in
    ap (λ docs. round_at docs s) grows ∙ same-round o.docs more s own.within

-- ## Sessions that another caller holds

still-first : (s : SessionState) (found rest : Option SessionState) → found ≡ Some s → option_or found rest ≡ Some s
still-first s found rest e = rw e refl

-- a session more behind leaves the one of the name
session-before : (name : List ℕ) (xs ys : List SessionState) (s : SessionState) → session_of name xs ≡ Some s → session_of name (xs ++ ys) ≡ Some s
session-before name xs ys s at = find-append (is_named name) xs ys ∙ still-first s (session_of name xs) (session_of name ys) at

not-named : (a name : List ℕ) (b : Bool) → bytes_eq a name ≡ b → a ≢ name → b ≡ false
not-named a name true e h = absurd (h (same-name a name e))
not-named a name false e h = refl

module _ (other name : List ℕ) (f : SessionState → SessionState) (keeps : (s : SessionState) → (f s).name ≡ s.name) (apart : other ≢ name) where
  passed : (x : SessionState) (rest : Option SessionState) → x.name ≡ other → cond (is_named name x) (Some x) rest ≡ rest
  passed x rest is = ap (λ b. cond b (Some x) rest) (not-named x.name name (is_named name x) refl (λ same. apart (sym is ∙ same)))

  apart-one : (x : SessionState) (rest : Option SessionState) (b : Bool) → is_named other x ≡ b → cond (is_named name (cond b (f x) x)) (Some (cond b (f x) x)) rest ≡ cond (is_named name x) (Some x) rest
  apart-one x rest true is = let called : x.name ≡ other = same-name x.name other is in passed (f x) rest (keeps x ∙ called) ∙ sym (passed x rest called)
  apart-one x rest false is = refl

  -- a change of another name leaves the session of the name
  change-apart : (xs : List SessionState) → session_of name (change other f xs) ≡ session_of name xs
  change-apart [] = refl
  change-apart (x ∷ xs) = apart-one x (session_of name (change other f xs)) (is_named other x) refl ∙ ap (λ rest. cond (is_named name x) (Some x) rest) (change-apart xs)

module _ (heads : List Head) (o : OneThread) (caller other : ℕ) (name : List ℕ) (s : SessionState) (others : other ≢ caller) (there : session_of name o.sessions ≡ Some s) (holds : s.holder ≡ Some caller) where
  -- the session of the name is the same
  abbrev Stays : OneThread → Type 0
  Stays after = session_of name after.sessions ≡ Some s

  -- another caller holds no session of the name, and it is not free
  not-held : (asked : List ℕ) → IsHolding o other asked → asked ≢ name
  not-held asked h is =
      let found : session_of name o.sessions ≡ Some h.session = subst (λ n. session_of n o.sessions ≡ Some h.session) is h.there in
      let same : h.session ≡ s = cc in
      let owner : Some other ≡ Some caller = sym h.holds ∙ ap (λ (t : SessionState). t.holder) same ∙ holds in
      others cc

  not-free : (asked : List ℕ) → IsFree o asked → asked ≢ name
  not-free asked h is =
      let found : session_of name o.sessions ≡ Some h.session = subst (λ n. session_of n o.sessions ≡ Some h.session) is h.there in
      let same : h.session ≡ s = cc in
      let owner : None ≡ Some caller = sym h.free ∙ ap (λ (t : SessionState). t.holder) same ∙ holds in
      absurd cc

  -- a change of a session of another name
  changed : (asked : List ℕ) (f : SessionState → SessionState) → ((t : SessionState) → (f t).name ≡ t.name) → asked ≢ name → Stays (record o { sessions = change asked f o.sessions })
  changed asked f keeps apart = change-apart asked name f keeps apart o.sessions ∙ there

  stays-next : (command : Command) (reply : Reply) → Answered heads o other command reply → Stays (effect_of heads o other command reply)
  stays-next (AddDoc asked body) (Added documents) a = there
  stays-next (AddDoc asked body) reply a = there
  stays-next (OpenSession asked grammar limit) (Opened documents shown) a = session-before name o.sessions (opened asked documents limit other (head_of grammar heads)) s there
  stays-next (OpenSession asked grammar limit) reply a = there
  stays-next (Step asked) (Stepped round added phase) a = changed asked (stepped o.docs) (λ t. refl) (not-held asked a.holding)
  stays-next (Step asked) reply a = there
  stays-next (Resume asked) (Resumed documents limit round mentions phase) a = changed asked (taken_by other) (λ t. refl) (not-free asked a)
  stays-next (Resume asked) reply a = there
  stays-next (Print asked) reply a = there
  stays-next (Release asked) Released a = changed asked let_go (λ t. refl) (not-held asked a)
  stays-next (Release asked) reply a = there
  stays-next Settle reply a = there

module _ (start : OneThread) (heads : List Head) (caller : ℕ) (name : List ℕ) (s : SessionState) (holds : s.holder ≡ Some caller) where
  stays-from : (seen es : List Entry) → session_of name (state_after start heads seen).sessions ≡ Some s → Each (λ e. e.caller ≢ caller) es → Each (λ p. IsNext start heads p.0 p.1) (points_after seen es)
      → session_of name (state_after start heads (seen ++ es)).sessions ≡ Some s
  stays-from seen [] there others legal = rw (append-nil seen) there
  stays-from seen (e ∷ es) there others legal =
      let next = stays-next heads (state_after start heads seen) caller e.caller name s others.0 there holds e.command e.reply (answered heads (state_after start heads seen) e.caller e.command e.reply legal.0.replies) in
      let here : session_of name (state_after start heads (seen ++ e ∷ [])).sessions ≡ Some s = rw (state_after-snoc start heads seen e) next in
      rw (append_assoc seen (e ∷ []) es) at (stays-from (seen ++ e ∷ []) es here others.1 legal.1)

-- the session that a caller holds is the same after entries of others
pub held-session-stays : (start : OneThread) (heads : List Head) (es fs : List Entry) (caller : ℕ) (name : List ℕ) (s : SessionState) → IsHeldThrough start heads es fs caller name s → session_of name (state_after start heads (es ++ fs)).sessions ≡ Some s
held-session-stays start heads es fs caller name s h = stays-from start heads caller name s h.held es fs h.there h.others (EachPoint-rest (IsNext start heads) es fs h.legal)

-- ## Answers to the one that holds it

module _ (heads : List Head) (o after : OneThread) (caller : ℕ) (name : List ℕ) (s : SessionState) (before : session_of name o.sessions ≡ Some s) (now : session_of name after.sessions ≡ Some s) (rounds : round_at after.docs s ≡ round_at o.docs s) where
  held-same : (asked : List ℕ) → asked ≡ name → held o caller asked ≡ held after caller asked
  held-same asked is = ap (held_in caller) (ap (λ n. session_of n o.sessions) is ∙ before ∙ sym now ∙ ap (λ n. session_of n after.sessions) (sym is))

  phase-same : (p : Phase) → reply_phase o s p ≡ reply_phase after s p
  phase-same Going = ap (reply_round s) (sym rounds)
  phase-same Finished = refl
  phase-same AtLimit = refl

  owned-same : (owner : ℕ) (b : Bool) → reply_step o (if b then Ok s else Err (Busy owner)) ≡ reply_step after (if b then Ok s else Err (Busy owner))
  owned-same owner true = phase-same (phase_with s s.rounds)
  owned-same owner false = refl

  holder-same : (holder : Option ℕ) → reply_step o (held_as caller s holder) ≡ reply_step after (held_as caller s holder)
  holder-same None = refl
  holder-same (Some owner) = owned-same owner (eqb owner caller)

  step-same : (asked : List ℕ) → asked ≡ name → reply_step o (held o caller asked) ≡ reply_step after (held after caller asked)
  step-same asked is =
      let found : session_of asked o.sessions ≡ Some s = ap (λ n. session_of n o.sessions) is ∙ before in
      ap (λ t. reply_step o (held_in caller t)) found ∙ holder-same s.holder ∙ ap (reply_step after) (sym (ap (held_in caller) found) ∙ held-same asked is)

  same-answer : (command : Command) (reply : Reply) → IsOn name command → Replies heads o caller command reply → Replies heads after caller command reply
  same-answer (Step asked) reply on r = r ∙ step-same asked on
  same-answer (Print asked) reply on r = r ∙ ap reply_print (held-same asked on)
  same-answer (Release asked) reply on r = r ∙ ap reply_release (held-same asked on)
  same-answer (AddDoc asked body) reply on r = absurd on
  same-answer (OpenSession asked grammar limit) reply on r = absurd on
  same-answer (Resume asked) reply on r = absurd on
  same-answer Settle reply on r = absurd on

pub held-answer-stays : (start : OneThread) (heads : List Head) (es fs : List Entry) (caller : ℕ) (name : List ℕ) (s : SessionState) (command : Command) (reply : Reply)
    → IsSound (state_after start heads es) → IsHeldThrough start heads es fs caller name s → IsOn name command
    → Replies heads (state_after start heads es) caller command reply → Replies heads (state_after start heads (es ++ fs)) caller command reply
held-answer-stays start heads es fs caller name s command reply sound h on r =
    same-answer heads (state_after start heads es) (state_after start heads (es ++ fs)) caller name s h.there (held-session-stays start heads es fs caller name s h)
    (next-round-stays start heads es fs name s sound h.there) command reply on r
