-- A session of a name is opened once.
use Rattle.std.proofs.Common.{◌≡◌, ◌⊎◌, inl, inr, ℕ, List, [], ◌∷◌, ◌++◌, length, take, Some, true, false, refl, sym, ap, ◌∙◌, subst}
use Rattle.std.specs.List.{list_any}
use Rattle.std.proofs.lemmas.List.Folds.{list_any-append}
use Rattle.od_pattern.specs.declared.grammar.Head.{Head}
use Rattle.od_command.specs.declared.history.Command.{Command}
use Rattle.od_command.specs.declared.history.Command.TheVariants.{AddDoc, OpenSession, Step, Resume, Print, Release, Settle}
use Rattle.od_command.specs.declared.history.Reply.{Reply}
use Rattle.od_command.specs.declared.history.Reply.TheVariants.{Added, Opened, Stepped, Resumed, Released}
use Rattle.od_command.specs.declared.history.Entry.{Entry}
use Rattle.od_session.specs.declared.object.SessionState.{SessionState}
use Rattle.od_session.specs.declared.object.OneThread.{OneThread}
use Rattle.od_session.specs.Parts.{is_named, has_session, head_of}
use Rattle.od_model.specs.Object.Replies.{Replies}
use Rattle.od_model.specs.Object.Effects.{change, stepped, taken_by, let_go, opened, effect_of, effect}
use Rattle.od_model.specs.History.Legal.{state_after, Legal}
use Rattle.od_model.specs.History.Prints.{Opening, IsOpenedWithin, IsOpenedBefore, IsOpened}
use Rattle.od_model.proofs.Objects.Answered.{answered}
use Rattle.od_model.proofs.Objects.Names.{or_from_left, or_from_right, found-any, any-change}
use Rattle.od_model.proofs.Objects.Places.{name-itself}
use Rattle.od_model.proofs.Histories.Steps.{state_after-append, Legal-at}

-- ## A session that is there stays

module _ (name : List ℕ) where
  -- a session has the name
  abbrev HasIt : OneThread → Type 0
  HasIt o = has_session o name ≡ true

  changed : (o : OneThread) (asked : List ℕ) (f : SessionState → SessionState) → ((s : SessionState) → (f s).name ≡ s.name) → list_any (is_named name) o.sessions ≡ true → list_any (is_named name) (change asked f o.sessions) ≡ true
  changed o asked f keeps h = any-change name asked f keeps o.sessions ∙ h

  stays-by : (heads : List Head) (o : OneThread) (caller : ℕ) (command : Command) (reply : Reply) → HasIt o → HasIt (effect_of heads o caller command reply)
  stays-by heads o caller (AddDoc asked body) (Added documents) h = h
  stays-by heads o caller (AddDoc asked body) reply h = h
  stays-by heads o caller (OpenSession asked grammar limit) (Opened documents shown) h =
      let new = opened asked documents limit caller (head_of grammar heads) in
      list_any-append (is_named name) o.sessions new ∙ or_from_left (list_any (is_named name) o.sessions) (list_any (is_named name) new) h
  stays-by heads o caller (OpenSession asked grammar limit) reply h = h
  stays-by heads o caller (Step asked) (Stepped round added phase) h = changed o asked (stepped o.docs) (λ s. refl) h
  stays-by heads o caller (Step asked) reply h = h
  stays-by heads o caller (Resume asked) (Resumed documents limit round mentions phase) h = changed o asked (taken_by caller) (λ s. refl) h
  stays-by heads o caller (Resume asked) reply h = h
  stays-by heads o caller (Print asked) reply h = h
  stays-by heads o caller (Release asked) Released h = changed o asked let_go (λ s. refl) h
  stays-by heads o caller (Release asked) reply h = h
  stays-by heads o caller Settle reply h = h

  stays-after : (o : OneThread) (heads : List Head) (es : List Entry) → HasIt o → HasIt (state_after o heads es)
  unfolding state_after
  stays-after o heads [] h = h
  stays-after o heads (e ∷ es) h = stays-after (effect heads o e) heads es (stays-by heads o e.caller e.command e.reply h)

  -- it is there once it is opened
  made-by : (heads : List Head) (o : OneThread) (caller : ℕ) (grammar : List ℕ) (limit documents shown : ℕ) (head : Head) → head_of grammar heads ≡ Some head → HasIt (effect_of heads o caller (OpenSession name grammar limit) (Opened documents shown))
  made-by heads o caller grammar limit documents shown head is =
      let new = opened name documents limit caller (head_of grammar heads) in
      let called : list_any (is_named name) new ≡ true = ap (λ h. list_any (is_named name) (opened name documents limit caller h)) is ∙ or_from_left (is_named name (record { name = name; kind = head.kind; text = head.text; documents = documents; limit = limit; rounds = []; holder = Some caller })) false (name-itself name) in
      list_any-append (is_named name) o.sessions new ∙ or_from_right (list_any (is_named name) o.sessions) (list_any (is_named name) new) called

-- ## Two entries of one list

-- they are the same one, or one stands behind the other
abbrev Orders : List Entry → Entry → List Entry → Entry → Type 0
Orders before e before' e' = ((before ≡ before') × (e ≡ e')) ⊎ (((between : List Entry) × (before' ≡ before ++ e ∷ between)) ⊎ ((between : List Entry) × (before ≡ before' ++ e' ∷ between)))

past-one : (x : Entry) (before : List Entry) (e : Entry) (before' : List Entry) (e' : Entry) → Orders before e before' e' → Orders (x ∷ before) e (x ∷ before') e'
past-one x before e before' e' (inl (same, is)) = inl (ap (λ l. x ∷ l) same, is)
past-one x before e before' e' (inr (inl (between, is))) = inr (inl (between, ap (λ l. x ∷ l) is))
past-one x before e before' e' (inr (inr (between, is))) = inr (inr (between, ap (λ l. x ∷ l) is))

in-order : (before : List Entry) (e : Entry) (since before' : List Entry) (e' : Entry) (since' : List Entry) → before ++ e ∷ since ≡ before' ++ e' ∷ since' → Orders before e before' e'
in-order [] e since [] e' since' is = inl (refl, cc)
in-order [] e since (y ∷ before') e' since' is = let same : y ≡ e = cc in inr (inl (before', ap (λ x. x ∷ before') same))
in-order (x ∷ before) e since [] e' since' is = let same : x ≡ e' = cc in inr (inr (before, ap (λ y. y ∷ before) same))
in-order (x ∷ before) e since (y ∷ before') e' since' is =
    let same : x ≡ y = cc in let rest : before ++ e ∷ since ≡ before' ++ e' ∷ since' = cc in
    subst (λ z. Orders (x ∷ before) e (z ∷ before') e') same (past-one x before e before' e' (in-order before e since before' e' since' rest))

-- ## Two openings

module _ (start : OneThread) (heads : List Head) (seen : List Entry) (name : List ℕ) where
  -- behind its opening it is there
  there-behind : (opening : Opening) (h : IsOpenedWithin start heads seen name opening) (between : List Entry) → has_session (state_after start heads (h.before ++ h.entry ∷ between)) name ≡ true
  unfolding state_after
  there-behind opening h between =
      let o = state_after start heads h.before in
      let made : has_session (effect heads o h.entry) name ≡ true = rw (h.command_is, h.reply_is) (made-by name heads o h.entry.caller h.grammar opening.limit (length opening.docs) opening.limit h.head h.head_is) in
      rw (state_after-append start heads h.before (h.entry ∷ between)) (stays-after name (effect heads o h.entry) heads between made)

module _ (start : OneThread) (heads : List Head) (seen : List Entry) (name : List ℕ) (legal : Legal start heads seen) where
  -- before it is opened there is none
  none-before : (opening : Opening) (h : IsOpenedWithin start heads seen name opening) → has_session (state_after start heads h.before) name ≡ false
  none-before opening h =
      let o = state_after start heads h.before in
      let next = Legal-at start heads h.before h.entry h.since (subst (Legal start heads) h.seen_is legal) in
      let says : Replies heads o h.entry.caller (OpenSession name h.grammar opening.limit) (Opened (length opening.docs) opening.limit) = rw (h.command_is, h.reply_is) at next.replies in
      let tells = answered heads o h.entry.caller (OpenSession name h.grammar opening.limit) (Opened (length opening.docs) opening.limit) says in
      tells.new

  not-again : (one other : Opening) (h : IsOpenedWithin start heads seen name one) (k : IsOpenedWithin start heads seen name other) (between : List Entry) → k.before ≡ h.before ++ h.entry ∷ between → ⊥
  not-again one other h k between is =
      let there : has_session (state_after start heads k.before) name ≡ true = rw is (there-behind start heads seen name one h between) in
      let none = none-before other k in
      absurd cc

  not-there : (one other : Opening) (h : IsOpenedWithin start heads seen name one) (k : IsOpenedBefore start name other) → ⊥
  not-there one other h k =
      let there = stays-after name start heads h.before (found-any name start.sessions k.session k.is) in
      let none = none-before one h in
      absurd cc

  -- an opening by one entry
  same-entry : (one other : Opening) (h : IsOpenedWithin start heads seen name one) (k : IsOpenedWithin start heads seen name other) → h.before ≡ k.before → h.entry ≡ k.entry → one ≡ other
  same-entry one other h k before entry =
      let command : OpenSession name h.grammar one.limit ≡ OpenSession name k.grammar other.limit = sym h.command_is ∙ ap (λ (e : Entry). e.command) entry ∙ k.command_is in
      let grammar : h.grammar ≡ k.grammar = cc in
      let limit : one.limit ≡ other.limit = cc in
      let found : Some h.head ≡ Some k.head = sym h.head_is ∙ ap (λ g. head_of g heads) grammar ∙ k.head_is in
      let head : h.head ≡ k.head = cc in
      h.opening_is ∙ ap (λ (x : Head). made x h.before one.limit) head ∙ ap (λ l. made k.head l one.limit) before ∙ ap (made k.head k.before) limit ∙ sym k.opening_is
    where
      made : Head → List Entry → ℕ → Opening
      made head before limit = record { kind = head.kind; text = head.text; docs = (state_after start heads before).docs; limit = limit }

  within-once : (one other : Opening) (h : IsOpenedWithin start heads seen name one) (k : IsOpenedWithin start heads seen name other) → Orders h.before h.entry k.before k.entry → one ≡ other
  within-once one other h k (inl (before, entry)) = same-entry one other h k before entry
  within-once one other h k (inr (inl (between, is))) = absurd (not-again one other h k between is)
  within-once one other h k (inr (inr (between, is))) = absurd (not-again other one k h between is)

  before-once : (one other : Opening) (h : IsOpenedBefore start name one) (k : IsOpenedBefore start name other) → one ≡ other
  before-once one other h k =
      let found : Some h.session ≡ Some k.session = sym h.is ∙ k.is in
      let same : h.session ≡ k.session = cc in
      h.opening_is ∙ ap made same ∙ sym k.opening_is
    where
      made : SessionState → Opening
      made s = record { kind = s.kind; text = s.text; docs = take s.documents start.docs; limit = s.limit }

  opened-once : (one other : Opening) → IsOpened start heads seen name one → IsOpened start heads seen name other → one ≡ other
  opened-once one other (inl h) (inl k) = within-once one other h k (in-order h.before h.entry h.since k.before k.entry k.since (sym h.seen_is ∙ k.seen_is))
  opened-once one other (inl h) (inr k) = absurd (not-there one other h k)
  opened-once one other (inr h) (inl k) = absurd (not-there other one k h)
  opened-once one other (inr h) (inr k) = before-once one other h k

-- a session that was opened is there
pub opened-there : (start : OneThread) (heads : List Head) (es : List Entry) (name : List ℕ) (opening : Opening) → IsOpened start heads es name opening → has_session (state_after start heads es) name ≡ true
opened-there start heads es name opening (inl h) = rw h.seen_is (there-behind start heads es name opening h h.since)
opened-there start heads es name opening (inr h) = stays-after name start heads es (found-any name start.sessions h.session h.is)

-- in a legal history a session of a name is opened once
pub one-opening : (start : OneThread) (heads : List Head) (es : List Entry) (name : List ℕ) (one other : Opening) → Legal start heads es → IsOpened start heads es name one → IsOpened start heads es name other → one ≡ other
one-opening start heads es name one other legal h k = opened-once start heads es name legal one other h k
