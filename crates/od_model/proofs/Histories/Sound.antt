-- Along a legal history the lists of each session are those of the rounds over its documents.
use Rattle.std.proofs.Common.{◌≡◌, ◌≢◌, ℕ, suc, ◌+◌, List, [], ◌∷◌, ◌++◌, length, take, Option, Some, None, unwrap_or, Bool, true, false, cond, ◌&&◌, nat_le, refl, ap, ◌∙◌, append-nil, append_assoc, arith, eqb, eq-eqb, length-append, bytes_eq, ltb-false}
use Rattle.std.specs.List.{list_any}
use Rattle.std.proofs.lemmas.List.{take-append-le}
use Rattle.od_document.specs.declared.doc.Doc.{Doc}
use Rattle.od_pattern.specs.declared.grammar.Head.{Head}
use Rattle.od_pattern.specs.declared.grammar.Grammar.{Grammar}
use Rattle.od_extraction.specs.declared.mention.Mention.{Mention}
use Rattle.od_extraction.specs.declared.mention.RoundResult.TheVariants.{Found}
use Rattle.od_extraction.specs.declared.phase.Phase.{Phase}
use Rattle.od_extraction.specs.declared.phase.Phase.TheVariants as stage
use Rattle.od_command.specs.declared.history.Command.{Command}
use Rattle.od_command.specs.declared.history.Command.TheVariants.{AddDoc, OpenSession, Step, Resume, Print, Release, Settle}
use Rattle.od_command.specs.declared.history.Reply.{Reply}
use Rattle.od_command.specs.declared.history.Reply.TheVariants.{Added, Opened, Stepped, Resumed, Released}
use Rattle.od_command.specs.declared.history.Entry.{Entry}
use Rattle.od_session.specs.declared.object.SessionState.{SessionState}
use Rattle.od_session.specs.declared.object.OneThread.{OneThread}
use Rattle.od_session.specs.Grammars.{grammar_of}
use Rattle.od_document.specs.Building.{document_of}
use Rattle.od_text.specs.Lists.{Each, points_after}
use Rattle.od_matching.specs.Rounds.Round.{round, rounds, one_more, with_found}
use Rattle.od_extraction.specs.Joined.{joined}
use Rattle.od_matching.specs.Rounds.Phases.{phase, greatest_first, ends_empty}
use Rattle.od_session.specs.declared.object.TheConstants.{SESSION_ROUNDS}
use Rattle.od_session.specs.Parts.{nothing, IsAccepted, is_named, grammar_at, phase_with, round_at}
use Rattle.od_model.specs.Object.Replies.{Replies}
use Rattle.od_model.specs.Object.Sound.{IsSoundSession, IsSound}
use Rattle.od_model.specs.Object.Effects.{doc_made, change, found_of, stepped, effect_of}
use Rattle.od_model.specs.History.Legal.{state_after, IsNext, Legal}
use Rattle.od_text.proofs.Lists.{Each-append, Each-weaker, Each-find, EachPoint-snoc}
use Rattle.od_model.proofs.Objects.Answered.{IsOpening, IsStepping, Answered, answered}
use Rattle.od_model.proofs.Objects.Names.{session-unique, Each-change, Each-changed, Distinct-change}
use Rattle.od_model.proofs.Histories.Steps.{state_after-start, state_after-snoc}

-- ## Rounds one after another

pub rounds-none : (docs : List Doc) (g : Grammar) → rounds docs g 0 ≡ Some []
unfolding rounds
rounds-none docs g = refl

pub rounds-suc : (docs : List Doc) (g : Grammar) (r : ℕ) → rounds docs g (suc r) ≡ one_more docs g (rounds docs g r)
unfolding rounds
rounds-suc docs g r = refl

length-snoc : {X : Type 0} (xs : List X) (x : X) → length (xs ++ x ∷ []) ≡ suc (length xs)
length-snoc [] x = refl
length-snoc (y ∷ xs) x = ap suc (length-snoc xs x)

pub rounds-snoc : (docs : List Doc) (g : Grammar) (lists : List (List Mention)) (new : List Mention) → rounds docs g (length lists) ≡ Some lists → round docs g (length lists + 1) (joined lists) ≡ Found new → rounds docs g (length (lists ++ new ∷ [])) ≡ Some (lists ++ new ∷ [])
rounds-snoc docs g lists new h k = ap (rounds docs g) (length-snoc lists new) ∙ rounds-suc docs g (length lists) ∙ ap (one_more docs g) h ∙ ap (with_found lists) k

not_limit : (a b : Bool) → cond a stage.Finished (cond b stage.AtLimit stage.Going) ≡ stage.Going → b ≡ false
not_limit true b e = absurd (cc)
not_limit false true e = absurd (cc)
not_limit false false e = refl

-- a session that goes on is not at its limit
pub going-below : (first limit : ℕ) (lists : List (List Mention)) → phase first limit lists ≡ stage.Going → length lists ≡ limit → ⊥
unfolding phase
going-below first limit lists e k = let b : eqb (length lists) limit ≡ false = not_limit (ends_empty lists && nat_le first (length lists)) (eqb (length lists) limit) e in
    let t : eqb (length lists) limit ≡ true = eq-eqb (length lists) limit k in absurd (cc)

going_not : {p : Phase} → p ≡ stage.Going → p ≡ stage.Finished → ⊥
going_not h k = cc

pub grammar-is : (s : SessionState) (g : Grammar) → grammar_of s.kind s.text ≡ Some g → grammar_at s ≡ g
grammar-is s g e = ap (λ f. unwrap_or f (record { kind = s.kind; text = s.text; rules = [] })) e

-- ## What each command keeps

session-more : (docs : List Doc) (doc : Doc) (s : SessionState) → IsSoundSession docs s → IsSoundSession (docs ++ doc ∷ []) s
session-more docs doc s h = record {
  grammar = h.grammar;
  reads = h.reads;
  within = omega (arith, length-append docs (doc ∷ []), h.within);
  few = h.few;
  hundred = h.hundred;
  rounds_are = rw (take-append-le s.documents docs (doc ∷ []) h.within) h.rounds_are;
  unfinished = h.unfinished;
}

made-more : (o : OneThread) → IsSound o → (made : Option Doc) → IsSound (record o { docs = o.docs ++ doc_made made })
made-more o h None = rw (append-nil o.docs) (record { distinct = h.distinct; sound = h.sound })
made-more o h (Some doc) = record { distinct = h.distinct; sound = Each-weaker (IsSoundSession o.docs) (IsSoundSession (o.docs ++ doc ∷ [])) (session-more o.docs doc) o.sessions h.sound }

sound-step : (docs : List Doc) (s : SessionState) (new : List Mention) → IsSoundSession docs s → phase_with s s.rounds ≡ stage.Going → round_at docs s ≡ Found new → IsSoundSession docs (record s { rounds = s.rounds ++ new ∷ [] })
sound-step docs s new h going finds =
    let g : grammar_at s ≡ h.grammar = grammar-is s h.grammar h.reads in
    let goes : phase (greatest_first h.grammar.rules) s.limit s.rounds ≡ stage.Going = rw g at going in
    let below = going-below (greatest_first h.grammar.rules) s.limit s.rounds goes in
    record {
      grammar = h.grammar;
      reads = h.reads;
      within = h.within;
      few = let few = h.few in let apart : length s.rounds ≢ s.limit = below in omega (arith, few, apart, length-append s.rounds (new ∷ []));
      hundred = h.hundred;
      rounds_are = rounds-snoc (take s.documents docs) h.grammar s.rounds new h.rounds_are (rw g at finds);
      unfinished = EachPoint-snoc (λ before list. phase (greatest_first h.grammar.rules) s.limit before ≢ stage.Finished) s.rounds new h.unfinished (λ e. going_not goes e);
    }

-- a session as an opening makes it
abbrev bare-session : ℕ → List Doc → List ℕ → ℕ → Head → SessionState
bare-session caller docs name limit head = record { name = name; kind = head.kind; text = head.text; documents = length docs; limit = limit; rounds = []; holder = Some caller }

module _ (heads : List Head) (accepted : Each IsAccepted heads) (o : OneThread) (h : IsSound o) (caller : ℕ) where
  -- after this reply to this command it stands as before
  abbrev Keeps : Command → Reply → Type 0
  Keeps command reply = IsSound (effect_of heads o caller command reply)

  add-session : (name grammar : List ℕ) (limit documents shown : ℕ) → IsOpening heads o name grammar limit documents shown → Keeps (OpenSession name grammar limit) (Opened documents shown)
  add-session name grammar limit documents shown a =
      let ok : IsAccepted a.head = Each-find IsAccepted (λ x. bytes_eq x.name grammar) a.head heads accepted a.head_is in
      let made : IsSoundSession o.docs (bare-session caller o.docs name limit a.head) = record {
        grammar = ok.0;
        reads = ok.1;
        within = omega arith;
        few = omega arith;
        hundred = ltb-false SESSION_ROUNDS limit a.few;
        rounds_are = rounds-none (take (length o.docs) o.docs) ok.0;
        unfinished = tt;
      } in
      rw (a.head_is, a.documents_are) (record {
        distinct = EachPoint-snoc (λ seen s. list_any (is_named s.name) seen ≡ false) o.sessions (bare-session caller o.docs name limit a.head) h.distinct a.new;
        sound = Each-append (IsSoundSession o.docs) o.sessions (bare-session caller o.docs name limit a.head ∷ []) h.sound (made, tt);
      })

  add-round : (name : List ℕ) → IsStepping o caller name → IsSound (record o { sessions = change name (stepped o.docs) o.sessions })
  add-round name a =
      let s = a.holding.session in
      let only = session-unique name o.sessions s h.distinct a.holding.there in
      let own = Each-find (IsSoundSession o.docs) (is_named name) s o.sessions h.sound a.holding.there in
      let one : IsSoundSession o.docs (stepped o.docs s) = rw (ap found_of a.finds) (sound-step o.docs s a.new own a.going a.finds) in
      record {
        distinct = Distinct-change name (stepped o.docs) (λ t. refl) o.sessions h.distinct;
        sound = Each-change (IsSoundSession o.docs) name (stepped o.docs) o.sessions h.sound
            (Each-weaker (λ t. is_named name t ≡ true → t ≡ s) (λ t. is_named name t ≡ true → IsSoundSession o.docs (stepped o.docs t)) (λ t is yes. let e : t ≡ s = is yes in rw e one) o.sessions only);
      }

  sound-held : (s : SessionState) (holder : Option ℕ) → IsSoundSession o.docs s → IsSoundSession o.docs (record s { holder = holder })
  sound-held s holder k = record { grammar = k.grammar; reads = k.reads; within = k.within; few = k.few; hundred = k.hundred; rounds_are = k.rounds_are; unfinished = k.unfinished }

  -- the holder alone changes
  hold-changed : (name : List ℕ) (holder : Option ℕ) → IsSound (record o { sessions = change name (λ s. record s { holder = holder }) o.sessions })
  hold-changed name holder = record {
    distinct = Distinct-change name (λ s. record s { holder = holder }) (λ t. refl) o.sessions h.distinct;
    sound = Each-changed (IsSoundSession o.docs) name (λ s. record s { holder = holder }) (λ s k. sound-held s holder k) o.sessions h.sound;
  }

  keeps-by : (command : Command) (reply : Reply) → Answered heads o caller command reply → Keeps command reply
  keeps-by (AddDoc name body) (Added documents) a = made-more o h (document_of name body)
  keeps-by (AddDoc name body) reply a = h
  keeps-by (OpenSession name grammar limit) (Opened documents shown) a = add-session name grammar limit documents shown a
  keeps-by (OpenSession name grammar limit) reply a = h
  keeps-by (Step name) (Stepped round added phase) a = add-round name a
  keeps-by (Step name) reply a = h
  keeps-by (Resume name) (Resumed documents limit round mentions phase) a = hold-changed name (Some caller)
  keeps-by (Resume name) reply a = h
  keeps-by (Print name) reply a = h
  keeps-by (Release name) Released a = hold-changed name None
  keeps-by (Release name) reply a = h
  keeps-by Settle reply a = h

  -- what the object is after its answer is sound
  pub keeps : (command : Command) (reply : Reply) → Replies heads o caller command reply → IsSound (effect_of heads o caller command reply)
  keeps command reply r = keeps-by command reply (answered heads o caller command reply r)

-- ## Along a history

module _ (start : OneThread) (heads : List Head) (accepted : Each IsAccepted heads) where
  sound-from : (seen es : List Entry) → IsSound (state_after start heads seen) → Each (λ p. IsNext start heads p.0 p.1) (points_after seen es) → IsSound (state_after start heads (seen ++ es))
  sound-from seen [] h legal = rw (append-nil seen) h
  sound-from seen (e ∷ es) h legal =
      let next = keeps heads accepted (state_after start heads seen) h e.caller e.command e.reply legal.0.replies in
      let here : IsSound (state_after start heads (seen ++ e ∷ [])) = rw (state_after-snoc start heads seen e) next in
      rw (append_assoc seen (e ∷ []) es) at (sound-from (seen ++ e ∷ []) es here legal.1)

  -- what a legal history leads to from a sound object is sound
  pub sound-after : (es : List Entry) → IsSound start → Legal start heads es → IsSound (state_after start heads es)
  sound-after es h legal = sound-from [] es (rw (state_after-start start heads) h) legal

pub sound-nothing : IsSound nothing
sound-nothing = record { distinct = tt; sound = tt }
