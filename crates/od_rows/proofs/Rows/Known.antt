-- Who holds a session holds one of a grammar of the script, and what its next round finds is read back.
use Rattle.std.proofs.Common.{◌≡◌, ℕ, zero, suc, ◌+◌, ◌<◌, ◌≤◌, List, [], ◌∷◌, length, take, find, Option, Some, None, Result, Ok, Err, Bool, true, false, cond, ◌||◌, ◌&&◌, refl, sym, ap, ◌∙◌, subst, bytes_eq, if◌then◌else◌, arith}
use Rattle.std.specs.List.{list_any}
use Rattle.std.specs.Prelude.{IsUtf8, unwrap_or}
use Rattle.std.proofs.lemmas.Bool.{and_parts}
use Rattle.std.proofs.lemmas.Slice.Eq.{bytes_eq-Decides}
use Rattle.od_document.specs.declared.doc.Doc.{Doc}
use Rattle.od_pattern.specs.declared.grammar.Head.{Head}
use Rattle.od_pattern.specs.declared.grammar.Grammar.{Grammar}
use Rattle.od_pattern.specs.declared.grammar.GrammarKind.{GrammarKind}
use Rattle.od_pattern.specs.declared.grammar.GrammarKind.TheVariants.{RuleFile, Query}
use Rattle.od_extraction.specs.declared.mention.Mention.{Mention}
use Rattle.od_extraction.specs.declared.mention.RoundResult.{RoundResult}
use Rattle.od_extraction.specs.declared.mention.RoundResult.TheVariants.{Found, Crowded, TooMany}
use Rattle.od_extraction.specs.Joined.{joined}
use Rattle.od_rule_text.specs.declared.grammar_fault.GrammarFault.{GrammarFault}
use Rattle.od_rule_text.specs.declared.limits.TheConstants.{GRAMMAR_EXPRESSIONS}
use Rattle.od_grammars.specs.Grammars.{grammar_read}
use Rattle.od_stored.specs.declared.limits.TheConstants.{NUMBER_END}
use Rattle.od_stored.specs.Mentions.{list_bytes, IsWritable}
use Rattle.od_stored.specs.ReadMentions.{list_read}
use Rattle.od_command.specs.declared.history.Command.{Command}
use Rattle.od_command.specs.declared.history.Command.TheVariants.{AddDoc, OpenSession, Step, Resume, Print, Release, Settle}
use Rattle.od_command.specs.declared.history.Reply.{Reply}
use Rattle.od_command.specs.declared.history.Reply.TheVariants.{Added, Opened, Stepped, Resumed, Released, Refused}
use Rattle.od_command.specs.declared.history.Refusal.TheVariants.{NoGrammar}
use Rattle.od_session.specs.declared.object.SessionState.{SessionState}
use Rattle.od_session.specs.declared.object.OneThread.{OneThread}
use Rattle.od_session.specs.Grammars.{grammar_of, value_in}
use Rattle.od_session.specs.Parts.{IsAccepted, Distinct, is_named, session_of, head_of, same_kind, is_known, phase_with, round_at, grammar_at}
use Rattle.od_text.specs.Lists.{Each}
use Rattle.od_text.proofs.Lists.{Each-append, Each-weaker}
use Rattle.od_model.specs.Object.Effects.{stepped, taken_by, let_go, opened, effect_of}
use Rattle.od_model.specs.Object.Replies.{Replies, reply_resume, reply_unheld}
use Rattle.od_model.proofs.Objects.Names.{or_from_left, or_from_right, session-unique, Each-change, Each-changed}
use Rattle.od_named.specs.Laws.{AreUtf8}
use Rattle.od_named.specs.Named.{IsWellNamed}
use Rattle.od_named.proofs.Storable.{any-by, grammars_are_well_named, names_are_utf8, rounds_are_read_back, rounds_are_writable}
use Rattle.od_rows.specs.After.{IsReadBack}

-- where somebody holds the session, a grammar of the script has its kind and text
abbrev pub IsHeldKnown : List Head → SessionState → Type 0
IsHeldKnown heads s = (caller : ℕ) → s.holder ≡ Some caller → is_known heads s ≡ true

any-found-by : (b : Bool) (p q : Head → Bool) (h head : Head) (more : List Head) → p h ≡ b → cond b (Some h) (find p more) ≡ Some head → q head ≡ true → (find p more ≡ Some head → list_any q more ≡ true) → (q h || list_any q more) ≡ true
any-found-by true p q h head more is e ok go = let same : h ≡ head = cc in or_from_left (q h) (list_any q more) (ap q same ∙ ok)
any-found-by false p q h head more is e ok go = or_from_right (q h) (list_any q more) (go e)

-- what is found by one test is among those that pass another, where it does
any-found : (p q : Head → Bool) (heads : List Head) (head : Head) → find p heads ≡ Some head → q head ≡ true → list_any q heads ≡ true
any-found p q [] head e ok = absurd (cc)
any-found p q (h ∷ heads) head e ok = any-found-by (p h) p q h head heads refl e ok (λ k. any-found p q heads head k ok)

same-kind-itself : (kind : GrammarKind) → same_kind kind kind ≡ true
same-kind-itself RuleFile = refl
same-kind-itself Query = refl

same-kind-is : (a b : GrammarKind) → same_kind a b ≡ true → a ≡ b
same-kind-is RuleFile RuleFile e = refl
same-kind-is RuleFile Query e = absurd (cc)
same-kind-is Query RuleFile e = absurd (cc)
same-kind-is Query Query e = refl

-- ## One command

module _ (heads : List Head) (o : OneThread) (caller : ℕ) (apart : Distinct o.sessions) (h : Each (IsHeldKnown heads) o.sessions) where
  abbrev Knows : Command → Reply → Type 0
  Knows command reply = Each (IsHeldKnown heads) (effect_of heads o caller command reply).sessions

  knows-doc : (name body : List ℕ) (reply : Reply) → Knows (AddDoc name body) reply
  knows-doc name body (Added documents) = h
  knows-doc name body reply = h

  knows-opened : (name : List ℕ) (documents limit : ℕ) (grammar : List ℕ) (found : Option Head) → head_of grammar heads ≡ found → Each (IsHeldKnown heads) (opened name documents limit caller found)
  knows-opened name documents limit grammar None e = tt
  knows-opened name documents limit grammar (Some head) e = (
    (λ owner is. any-found (λ x. bytes_eq x.name grammar) (λ x. same_kind x.kind head.kind && bytes_eq x.text head.text) heads head e
        (rw (same-kind-itself head.kind, (bytes_eq-Decides head.text head.text).1 refl) refl)),
    tt,
  )

  knows-open : (name grammar : List ℕ) (limit : ℕ) (reply : Reply) → Knows (OpenSession name grammar limit) reply
  knows-open name grammar limit (Opened documents shown) = Each-append (IsHeldKnown heads) o.sessions (opened name documents limit caller (head_of grammar heads)) h (knows-opened name documents limit grammar (head_of grammar heads) refl)
  knows-open name grammar limit reply = h

  knows-step : (name : List ℕ) (reply : Reply) → Knows (Step name) reply
  knows-step name (Stepped round added phase) = Each-changed (IsHeldKnown heads) name (stepped o.docs) (λ s k. k) o.sessions h
  knows-step name reply = h

  knows-release : (name : List ℕ) (reply : Reply) → Knows (Release name) reply
  knows-release name Released = Each-changed (IsHeldKnown heads) name let_go (λ s k owner e. absurd (cc)) o.sessions h
  knows-release name reply = h

  knows-print : (name : List ℕ) (reply : Reply) → Knows (Print name) reply
  knows-print name reply = h

  knows-settle : (reply : Reply) → Knows Settle reply
  knows-settle reply = h

  resume-if : (name : List ℕ) (s : SessionState) → session_of name o.sessions ≡ Some s → (b : Bool) → is_known heads s ≡ b
      → Knows (Resume name) (if b then Resumed s.documents s.limit (length s.rounds) (length (joined s.rounds)) (phase_with s s.rounds) else Refused NoGrammar)
  resume-if name s at true e =
      Each-change (IsHeldKnown heads) name (taken_by caller) o.sessions h
      (Each-weaker (λ t. is_named name t ≡ true → t ≡ s) (λ t. is_named name t ≡ true → IsHeldKnown heads (taken_by caller t))
      (λ t only yes owner is. ap (is_known heads) (only yes) ∙ e) o.sessions (session-unique name o.sessions s apart at))
  resume-if name s at false e = h

  resume-unheld : (name : List ℕ) (s : SessionState) → session_of name o.sessions ≡ Some s → (holder : Option ℕ) → Knows (Resume name) (reply_unheld heads s holder)
  resume-unheld name s at None = resume-if name s at (is_known heads s) refl
  resume-unheld name s at (Some owner) = h

  resume-found : (name : List ℕ) (found : Option SessionState) → session_of name o.sessions ≡ found → Knows (Resume name) (reply_resume heads found)
  resume-found name None at = h
  resume-found name (Some s) at = resume-unheld name s at s.holder

  -- after a reply it is so as before
  pub knows : (command : Command) (reply : Reply) → Replies heads o caller command reply → Knows command reply
  knows (AddDoc name body) reply r = knows-doc name body reply
  knows (OpenSession name grammar limit) reply r = knows-open name grammar limit reply
  knows (Step name) reply r = knows-step name reply
  knows (Resume name) reply r = subst (Knows (Resume name)) (sym r) (resume-found name (session_of name o.sessions) refl)
  knows (Print name) reply r = knows-print name reply
  knows (Release name) reply r = knows-release name reply
  knows Settle reply r = knows-settle reply

-- ## Its next round

-- the grammar of a session, which is one of the script
record HasGrammar (s : SessionState) : Type 0 where
  grammar : Grammar
  reads : grammar_of s.kind s.text ≡ Some grammar
  utf8 : IsUtf8 s.text

abbrev pub IsGood : Head → Type 0
IsGood head = IsAccepted head × IsUtf8 head.text

grammar-known : (heads : List Head) (s : SessionState) → Each IsGood heads → is_known heads s ≡ true → HasGrammar s
grammar-known heads s good known = any-by (λ x. same_kind x.kind s.kind && bytes_eq x.text s.text) IsGood (HasGrammar s)
    (λ head e k. let both = and_parts (same_kind head.kind s.kind) (bytes_eq head.text s.text) e in
    let kind : head.kind ≡ s.kind = same-kind-is head.kind s.kind both.0 in
    let text : head.text ≡ s.text = (bytes_eq-Decides head.text s.text).0 both.1 in
    record {
      grammar = k.0.0;
      reads = ap (λ z. grammar_of z s.text) (sym kind) ∙ ap (grammar_of head.kind) (sym text) ∙ k.0.1;
      utf8 = subst IsUtf8 text k.1;
    }) heads good known

value-read : (x : Result Grammar GrammarFault) (g : Grammar) → value_in x ≡ Some g → x ≡ Ok g
value-read (Ok h) g e = let same : h ≡ g = cc in ap (λ z. Ok z) same
value-read (Err f) g e = absurd (cc)

read-of : (kind : GrammarKind) (text : List ℕ) (g : Grammar) → grammar_of kind text ≡ Some g → grammar_read kind text GRAMMAR_EXPRESSIONS ≡ Ok g
unfolding grammar_of
read-of kind text g e = value-read (grammar_read kind text GRAMMAR_EXPRESSIONS) g e

back-by : (r : RoundResult) → ((new : List Mention) → r ≡ Found new → list_read (list_bytes new) ≡ Ok new) → IsReadBack r
back-by (Found new) h = h new refl
back-by (Crowded rule document sentence count) h = tt
back-by (TooMany total) h = tt

take-short : (n : ℕ) (docs : List Doc) → length (take n docs) ≤ length docs
take-short zero docs = omega arith
take-short (suc n) [] = omega arith
take-short (suc n) (d ∷ docs) = omega (arith, take-short n docs)

-- what the next round of a session that somebody holds finds is read back
pub held-back : (heads : List Head) (docs : List Doc) (s : SessionState) (owner : ℕ) → Each IsGood heads → length docs ≤ NUMBER_END → IsHeldKnown heads s → s.holder ≡ Some owner → IsReadBack (round_at docs s)
held-back heads docs s owner good few known held =
    let g = grammar-known heads s good (known owner held) in
    let read = read-of s.kind s.text g.grammar g.reads in
    let same : g.grammar ≡ grammar_at s = sym (ap (λ x. unwrap_or x (record { kind = s.kind; text = s.text; rules = [] })) g.reads) in
    let well = subst (λ (x : Grammar). Each IsWellNamed x.rules) same (grammars_are_well_named s.kind s.text GRAMMAR_EXPRESSIONS g.grammar read) in
    let utf8 = subst (λ (x : Grammar). AreUtf8 x.rules) same (names_are_utf8 s.kind s.text GRAMMAR_EXPRESSIONS g.grammar g.utf8 read) in
    let short : length (take s.documents docs) ≤ NUMBER_END = omega (arith, few, take-short s.documents docs) in
    back-by (round_at docs s) (λ new e. rounds_are_read_back (take s.documents docs) (grammar_at s) (length s.rounds + 1) (joined s.rounds) new short well utf8 e)

-- and can be written
pub held-writable : (heads : List Head) (docs : List Doc) (s : SessionState) (owner : ℕ) (new : List Mention) → Each IsGood heads → IsHeldKnown heads s → s.holder ≡ Some owner → round_at docs s ≡ Found new → (length new < NUMBER_END) × Each IsWritable new
held-writable heads docs s owner new good known held e =
    let g = grammar-known heads s good (known owner held) in
    let read = read-of s.kind s.text g.grammar g.reads in
    let same : g.grammar ≡ grammar_at s = sym (ap (λ x. unwrap_or x (record { kind = s.kind; text = s.text; rules = [] })) g.reads) in
    let well = subst (λ (x : Grammar). Each IsWellNamed x.rules) same (grammars_are_well_named s.kind s.text GRAMMAR_EXPRESSIONS g.grammar read) in
    rounds_are_writable (take s.documents docs) (grammar_at s) (length s.rounds + 1) (joined s.rounds) new well e
