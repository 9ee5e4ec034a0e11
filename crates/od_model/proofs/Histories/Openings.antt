-- Along a legal history each session is one that an entry opened, or that was there at the start.
use Rattle.std.proofs.Common.{◌≡◌, inl, inr, ℕ, List, [], ◌∷◌, ◌++◌, length, take, Option, Some, None, Bool, true, false, cond, ◌||◌, refl, ap, ◌∙◌, append-nil, append_assoc}
use Rattle.std.specs.List.{list_any}
use Rattle.std.proofs.lemmas.List.{take-append-le}
use Rattle.std.proofs.Math.Seq.{take-length}
use Rattle.od_document.specs.declared.doc.Doc.{Doc}
use Rattle.od_pattern.specs.declared.grammar.Head.{Head}
use Rattle.od_command.specs.declared.history.Command.{Command}
use Rattle.od_command.specs.declared.history.Command.TheVariants.{AddDoc, OpenSession, Step, Resume, Print, Release, Settle}
use Rattle.od_command.specs.declared.history.Reply.{Reply}
use Rattle.od_command.specs.declared.history.Reply.TheVariants.{Added, Opened, Stepped, Resumed, Released}
use Rattle.od_command.specs.declared.history.Entry.{Entry}
use Rattle.od_session.specs.declared.object.SessionState.{SessionState}
use Rattle.od_session.specs.declared.object.OneThread.{OneThread}
use Rattle.od_document.specs.Building.{document_of}
use Rattle.od_text.specs.Lists.{Each, points_after}
use Rattle.od_session.specs.Parts.{IsAccepted, is_named, Distinct, session_of, head_of}
use Rattle.od_model.specs.Object.Effects.{doc_made, change, stepped, taken_by, let_go, effect_of}
use Rattle.od_model.specs.History.Legal.{state_after, IsNext, Legal}
use Rattle.od_model.specs.History.Prints.{Opening, IsOpened}
use Rattle.od_model.specs.History.Alike.{opening_of}
use Rattle.od_text.proofs.Lists.{Each-append, Each-weaker, Each-both}
use Rattle.od_model.proofs.Objects.Answered.{IsOpening, Answered, answered}
use Rattle.od_model.proofs.Objects.Names.{Each-changed}
use Rattle.od_model.proofs.Objects.Places.{name-itself}
use Rattle.od_model.proofs.Histories.Steps.{state_after-start, state_after-snoc}
use Rattle.od_model.specs.Object.Sound.{IsSound, IsSoundSession}
use Rattle.od_model.proofs.Histories.Sound.{keeps}

-- ## The sessions of the start

skipped : (name : List ℕ) (x : SessionState) (rest : Option SessionState) (b : Bool) → is_named name x ≡ b → (b || false) ≡ false → cond b (Some x) rest ≡ rest
skipped name x rest true is e = absurd (cc)
skipped name x rest false is e = refl

-- a search passes sessions of other names
find-behind : (name : List ℕ) (seen xs : List SessionState) → list_any (is_named name) seen ≡ false → session_of name (seen ++ xs) ≡ session_of name xs
find-behind name [] xs h = refl
find-behind name (x ∷ seen) xs h = apart (is_named name x) (list_any (is_named name) seen) h (find-behind name seen xs)
  where
    apart : (a b : Bool) → (a || b) ≡ false → (b ≡ false → session_of name (seen ++ xs) ≡ session_of name xs) → cond a (Some x) (session_of name (seen ++ xs)) ≡ session_of name xs
    apart true b e k = absurd (cc)
    apart false b e k = k e

found-from : (seen xs : List SessionState) → Each (λ p. list_any (is_named p.1.name) p.0 ≡ false) (points_after seen xs) → Each (λ s. session_of s.name (seen ++ xs) ≡ Some s) xs
found-from seen [] h = tt
found-from seen (x ∷ xs) h = (
  find-behind x.name seen (x ∷ xs) h.0 ∙ ap (λ b. cond b (Some x) (session_of x.name xs)) (name-itself x.name),
  rw (append_assoc seen (x ∷ []) xs) at (found-from (seen ++ x ∷ []) xs h.1),
)

-- among sessions of different names, each is the one that its name finds
pub each-found : (sessions : List SessionState) → Distinct sessions → Each (λ s. session_of s.name sessions ≡ Some s) sessions
each-found sessions h = found-from [] sessions h

-- ## One entry more

module _ (start : OneThread) (heads : List Head) where
  -- the session was opened so, while these documents are committed
  abbrev pub IsOpenedSession : List Entry → List Doc → SessionState → Type 0
  IsOpenedSession seen docs s = IsOpened start heads seen s.name (opening_of s docs)

  -- what was opened is so after further entries
  pub opened-later : (seen more : List Entry) (name : List ℕ) (opening : Opening) → IsOpened start heads seen name opening → IsOpened start heads (seen ++ more) name opening
  opened-later seen more name opening (inl h) = inl (record {
    before = h.before;
    entry = h.entry;
    since = h.since ++ more;
    seen_is = ap (λ l. l ++ more) h.seen_is ∙ append_assoc h.before (h.entry ∷ h.since) more;
    grammar = h.grammar;
    head = h.head;
    head_is = h.head_is;
    command_is = h.command_is;
    reply_is = h.reply_is;
    opening_is = h.opening_is;
  })
  opened-later seen more name opening (inr h) = inr h

  -- one more document changes nothing of a session before
  opened-more : (seen : List Entry) (docs : List Doc) (made : Option Doc) (s : SessionState) → IsSoundSession docs s → IsOpenedSession seen docs s → IsOpenedSession seen (docs ++ doc_made made) s
  opened-more seen docs None s sound h = rw (append-nil docs) h
  opened-more seen docs (Some doc) s sound h = rw (take-append-le s.documents docs (doc ∷ []) sound.within) h

  module _ (seen : List Entry) (e : Entry) (o : OneThread) (is : o ≡ state_after start heads seen) (sound : IsSound o) (h : Each (IsOpenedSession seen o.docs) o.sessions) where
    -- the sessions of such an object were opened so, by the entries up to this one
    abbrev AreOpened : OneThread → Type 0
    AreOpened after = Each (IsOpenedSession (seen ++ e ∷ []) after.docs) after.sessions

    all-later : AreOpened o
    all-later = Each-weaker (IsOpenedSession seen o.docs) (IsOpenedSession (seen ++ e ∷ []) o.docs) (λ s k. opened-later seen (e ∷ []) s.name (opening_of s o.docs) k) o.sessions h

    one-made : (made : Option Doc) → AreOpened (record o { docs = o.docs ++ doc_made made })
    one-made made = Each-both (IsSoundSession o.docs) (IsOpenedSession (seen ++ e ∷ []) o.docs) (IsOpenedSession (seen ++ e ∷ []) (o.docs ++ doc_made made)) (λ s. opened-more (seen ++ e ∷ []) o.docs made s) o.sessions sound.sound all-later

    changed : (name : List ℕ) (f : SessionState → SessionState) → ((s : SessionState) → IsOpenedSession (seen ++ e ∷ []) o.docs s → IsOpenedSession (seen ++ e ∷ []) o.docs (f s)) → AreOpened (record o { sessions = change name f o.sessions })
    changed name f stays = Each-changed (IsOpenedSession (seen ++ e ∷ []) o.docs) name f stays o.sessions all-later

    -- a session as this entry opens it
    new-session : (name grammar : List ℕ) (limit : ℕ) (head : Head) → head_of grammar heads ≡ Some head → e.command ≡ OpenSession name grammar limit → e.reply ≡ Opened (length o.docs) limit
        → IsOpened start heads (seen ++ e ∷ []) name (record { kind = head.kind; text = head.text; docs = take (length o.docs) o.docs; limit = limit })
    new-session name grammar limit head found command reply = rw (take-length o.docs) (inl (record {
      before = seen;
      entry = e;
      since = [];
      seen_is = refl;
      grammar = grammar;
      head = head;
      head_is = found;
      command_is = command;
      reply_is = reply;
      opening_is = rw is refl;
    }))

    add-session : (name grammar : List ℕ) (limit documents shown : ℕ) → e.command ≡ OpenSession name grammar limit → e.reply ≡ Opened documents shown → IsOpening heads o name grammar limit documents shown
        → AreOpened (effect_of heads o e.caller (OpenSession name grammar limit) (Opened documents shown))
    add-session name grammar limit documents shown command reply a =
        let says : e.reply ≡ Opened (length o.docs) limit = rw (a.documents_are, a.shown_is) at reply in
        rw (a.head_is, a.documents_are) (Each-append (IsOpenedSession (seen ++ e ∷ []) o.docs) o.sessions _ all-later (new-session name grammar limit a.head a.head_is command says, tt))

    -- after the object's answer
    opened-next : (command : Command) (reply : Reply) → e.command ≡ command → e.reply ≡ reply → Answered heads o e.caller command reply → AreOpened (effect_of heads o e.caller command reply)
    opened-next (AddDoc name body) (Added documents) c r k = one-made (document_of name body)
    opened-next (AddDoc name body) reply c r k = all-later
    opened-next (OpenSession name grammar limit) (Opened documents shown) c r k = add-session name grammar limit documents shown c r k
    opened-next (OpenSession name grammar limit) reply c r k = all-later
    opened-next (Step name) (Stepped round added phase) c r k = changed name (stepped o.docs) (λ s h. h)
    opened-next (Step name) reply c r k = all-later
    opened-next (Resume name) (Resumed documents limit round mentions phase) c r k = changed name (taken_by e.caller) (λ s h. h)
    opened-next (Resume name) reply c r k = all-later
    opened-next (Print name) reply c r k = all-later
    opened-next (Release name) Released c r k = changed name let_go (λ s h. h)
    opened-next (Release name) reply c r k = all-later
    opened-next Settle reply c r k = all-later

-- ## Along a history

-- the sessions that entries lead to were opened so
abbrev pub AreOpenedAfter : OneThread → List Head → List Entry → Type 0
AreOpenedAfter start heads es = Each (IsOpenedSession start heads es (state_after start heads es).docs) (state_after start heads es).sessions

module _ (start : OneThread) (heads : List Head) (accepted : Each IsAccepted heads) where
  opened-from : (seen es : List Entry) → IsSound (state_after start heads seen) → AreOpenedAfter start heads seen → Each (λ p. IsNext start heads p.0 p.1) (points_after seen es) → AreOpenedAfter start heads (seen ++ es)
  opened-from seen [] sound h legal = rw (append-nil seen) h
  opened-from seen (e ∷ es) sound h legal =
      let o = state_after start heads seen in
      let more : IsSound (state_after start heads (seen ++ e ∷ [])) = rw (state_after-snoc start heads seen e) (keeps heads accepted o sound e.caller e.command e.reply legal.0.replies) in
      let here : AreOpenedAfter start heads (seen ++ e ∷ []) = rw (state_after-snoc start heads seen e) (opened-next start heads seen e o refl sound h e.command e.reply refl refl (answered heads o e.caller e.command e.reply legal.0.replies)) in
      rw (append_assoc seen (e ∷ []) es) at (opened-from (seen ++ e ∷ []) es more here legal.1)

  opened-start : IsSound start → AreOpenedAfter start heads []
  opened-start sound = rw (state_after-start start heads) (Each-weaker (λ s. session_of s.name start.sessions ≡ Some s) (IsOpenedSession start heads [] start.docs) (λ s is. inr (record { session = s; is = is; opening_is = refl })) start.sessions (each-found start.sessions sound.distinct))

  -- each session that a legal history leads to is one that an entry opened, or that was there at the start
  pub opened-after : (es : List Entry) → IsSound start → Legal start heads es → AreOpenedAfter start heads es
  opened-after es sound legal = opened-from [] es (rw (state_after-start start heads) sound) (opened-start sound) legal
