-- Laws of histories: of answers, of orders, of soundness, and of what others' entries leave alone.
use Rattle.std.specs.Prelude.{◌≡◌, ◌≢◌, ℕ, zero, suc, List, [], ◌∷◌, ◌++◌, map, Some}
use Rattle.od_document.specs.declared.doc.Doc.{Doc}
use Rattle.od_pattern.specs.declared.grammar.Head.{Head}
use Rattle.od_command.specs.declared.history.Command.{Command}
use Rattle.od_command.specs.declared.history.Command.TheVariants.{Step, Print, Release, Settle}
use Rattle.od_command.specs.declared.history.Reply.{Reply}
use Rattle.od_command.specs.declared.history.Entry.{Entry}
use Rattle.od_order.specs.declared.script.Order.{Order}
use Rattle.od_session.specs.declared.object.SessionState.{SessionState}
use Rattle.od_session.specs.declared.object.OneThread.{OneThread}
use Rattle.od_session.specs.Parts.{IsAccepted, sentence_count, session_of, round_at}
use Rattle.od_text.specs.Lists.{Each}
use Rattle.od_model.specs.Object.Effects.{effect_of}
use Rattle.od_model.specs.Object.Replies.{Settles, Replies}
use Rattle.od_model.specs.Object.Sound.{IsSound}
use Rattle.od_model.specs.History.Legal.{state_after, Legal}
use Rattle.od_model.specs.History.Orders.{Follows, Begins}
use Rattle.od_model.specs.History.Prints.{PrintsRounds}

-- ## Answers

-- the object answers every command of every caller
abbrev pub EveryCommandIsAnswered : Type 0
EveryCommandIsAnswered =
    (heads : List Head) (o : OneThread) (caller : ℕ) (command : Command)
    → (reply : Reply) × Replies heads o caller command reply

-- one segment with so many sentences, or no segment where there is none
abbrev pub one_segment : ℕ → List ℕ
one_segment zero = []
one_segment (suc count) = suc count ∷ []

-- one segment with all committed sentences settles the object
abbrev pub OneSegmentSettles : Type 0
OneSegmentSettles = (o : OneThread) → Settles o (one_segment (sentence_count o.docs))

-- to a command other than `Settle` the object has one answer
abbrev pub OneAnswer : Type 0
OneAnswer =
    (heads : List Head) (o : OneThread) (caller : ℕ) (command : Command) (one other : Reply) → command ≢ Settle
    → Replies heads o caller command one → Replies heads o caller command other → one ≡ other

-- all answers to a command have one effect
abbrev pub OneEffect : Type 0
OneEffect =
    (heads : List Head) (o : OneThread) (caller : ℕ) (command : Command) (one other : Reply)
    → Replies heads o caller command one → Replies heads o caller command other
    → effect_of heads o caller command one ≡ effect_of heads o caller command other

-- ## Legal histories

-- who asked for what
abbrev pub asked : Entry → ℕ × Command
asked e = (e.caller, e.command)

-- a legal history may go on with any command of any caller
abbrev pub LegalGoesOn : Type 0
LegalGoesOn =
    (start : OneThread) (heads : List Head) (es : List Entry) (caller : ℕ) (command : Command) → Legal start heads es
    → (e : Entry) × (asked e ≡ (caller, command)) × Legal start heads (es ++ e ∷ [])

-- the front of a legal history is one
abbrev pub FrontsAreLegal : Type 0
FrontsAreLegal =
    (start : OneThread) (heads : List Head) (es fs : List Entry)
    → Legal start heads (es ++ fs) → Legal start heads es

-- the commands of a legal history, with their callers, decide the object that it leads to
abbrev pub CommandsDecide : Type 0
CommandsDecide =
    (start : OneThread) (heads : List Head) (es fs : List Entry) → Legal start heads es → Legal start heads fs
    → map asked es ≡ map asked fs → state_after start heads es ≡ state_after start heads fs

-- ## Orders

-- entries that unfold orders are the beginning of an unfolding
abbrev pub FollowingBegins : Type 0
FollowingBegins = (orders : List Order) (es : List Entry) → Follows orders es → Begins orders es

-- the front of a beginning is a beginning
abbrev pub FrontsBegin : Type 0
FrontsBegin = (orders : List Order) (es fs : List Entry) → Begins orders (es ++ fs) → Begins orders es

-- nothing goes on behind entries that unfold the orders
abbrev pub NothingFollows : Type 0
NothingFollows =
    (orders : List Order) (es fs : List Entry) → Follows orders es → Begins orders (es ++ fs) → fs ≡ []

-- ## Soundness

-- a legal history from a sound object, whose grammars are accepted
pub record IsSoundHistory (start : OneThread) (heads : List Head) (es : List Entry) : Type 0 where
  pub sound : IsSound start
  pub accepted : Each IsAccepted heads
  pub legal : Legal start heads es

-- it leads to a sound object
abbrev pub SoundnessIsKept : Type 0
SoundnessIsKept =
    (start : OneThread) (heads : List Head) (es : List Entry)
    → IsSoundHistory start heads es → IsSound (state_after start heads es)

-- its prints show the rounds
abbrev pub PrintsShowRounds : Type 0
PrintsShowRounds =
    (start : OneThread) (heads : List Head) (es : List Entry)
    → IsSoundHistory start heads es → PrintsRounds start heads es

-- ## What entries leave alone

-- the committed documents stay, and further ones stand behind them
abbrev pub DocumentsGrow : Type 0
DocumentsGrow =
    (start : OneThread) (heads : List Head) (es fs : List Entry)
    → (more : List Doc) × ((state_after start heads (es ++ fs)).docs ≡ (state_after start heads es).docs ++ more)

-- after es the caller holds the session of this name, and fs, which may come next, has no entry of the caller
pub record IsHeldThrough (start : OneThread) (heads : List Head) (es fs : List Entry)
    (caller : ℕ) (name : List ℕ) (s : SessionState) : Type 0 where
  pub legal : Legal start heads (es ++ fs)
  pub there : session_of name (state_after start heads es).sessions ≡ Some s
  pub held : s.holder ≡ Some caller
  pub others : Each (λ e. e.caller ≢ caller) fs

-- the session that a caller holds is the same after entries of others
abbrev pub HeldSessionsStay : Type 0
HeldSessionsStay =
    (start : OneThread) (heads : List Head) (es fs : List Entry) (caller : ℕ) (name : List ℕ) (s : SessionState)
    → IsHeldThrough start heads es fs caller name s
    → session_of name (state_after start heads (es ++ fs)).sessions ≡ Some s

-- a session of a sound object has the same next round after any further entries
abbrev pub NextRoundsStay : Type 0
NextRoundsStay =
    (start : OneThread) (heads : List Head) (es fs : List Entry) (name : List ℕ) (s : SessionState)
    → IsSound (state_after start heads es) → session_of name (state_after start heads es).sessions ≡ Some s
    → round_at (state_after start heads (es ++ fs)).docs s ≡ round_at (state_after start heads es).docs s

-- a step, a print or a release of the session of this name
abbrev pub IsOn : List ℕ → Command → Type 0
IsOn name (Step other) = other ≡ name
IsOn name (Print other) = other ≡ name
IsOn name (Release other) = other ≡ name
IsOn name command = ⊥

-- the answers to the caller that holds it are the same after entries of others
abbrev pub HeldAnswersStay : Type 0
HeldAnswersStay =
    (start : OneThread) (heads : List Head) (es fs : List Entry) (caller : ℕ) (name : List ℕ) (s : SessionState)
    (command : Command) (reply : Reply) → IsSound (state_after start heads es)
    → IsHeldThrough start heads es fs caller name s → IsOn name command
    → Replies heads (state_after start heads es) caller command reply
    → Replies heads (state_after start heads (es ++ fs)) caller command reply
