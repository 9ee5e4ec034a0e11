-- Prints of sessions that were opened alike, in one history or in several.
use Rattle.std.specs.Prelude.{◌≡◌, ℕ, ◌≤◌, List, ◌++◌, map, take}
use Rattle.od_document.specs.declared.doc.Doc.{Doc}
use Rattle.od_pattern.specs.declared.grammar.Head.{Head}
use Rattle.od_extraction.specs.declared.mention.Mention.{Mention}
use Rattle.od_extraction.specs.declared.phase.Phase.{Phase}
use Rattle.od_extraction.specs.declared.phase.Phase.TheVariants.{Finished}
use Rattle.od_command.specs.declared.history.Entry.{Entry}
use Rattle.od_session.specs.declared.object.SessionState.{SessionState}
use Rattle.od_session.specs.declared.object.OneThread.{OneThread}
use Rattle.od_text.specs.Lists.{Each}
use Rattle.od_model.specs.Object.Effects.{let_go}
use Rattle.od_model.specs.History.Legal.{state_after, Legal}
use Rattle.od_model.specs.History.Laws.{IsSoundHistory}
use Rattle.od_model.specs.History.Prints.{Opening, IsOpened, ShowsRounds}

-- ## Openings

-- how a session was opened, while these documents are committed
abbrev pub opening_of : SessionState → List Doc → Opening
opening_of s docs = record { kind = s.kind; text = s.text; docs = take s.documents docs; limit = s.limit }

-- the session was opened so by these entries, or was there at the start
abbrev pub WasOpened : OneThread → List Head → List Entry → SessionState → Type 0
WasOpened start heads es s = IsOpened start heads es s.name (opening_of s (state_after start heads es).docs)

-- each session that such a history leads to was opened so
abbrev pub SessionsWereOpened : Type 0
SessionsWereOpened =
    (start : OneThread) (heads : List Head) (es : List Entry) → IsSoundHistory start heads es
    → Each (WasOpened start heads es) (state_after start heads es).sessions

-- in a legal history the session of a name was opened in one way
abbrev pub OneOpening : Type 0
OneOpening =
    (start : OneThread) (heads : List Head) (es : List Entry) (name : List ℕ) (one other : Opening)
    → Legal start heads es → IsOpened start heads es name one → IsOpened start heads es name other → one ≡ other

-- ## Prints

-- a print: the entries before it, what it says and its lines, which show the rounds
pub record Shown : Type 0 where
  pub start : OneThread
  pub heads : List Head
  pub seen : List Entry
  pub name : List ℕ
  pub number : ℕ
  pub mentions : ℕ
  pub state : Phase
  pub lines : List ℕ
  pub shows : ShowsRounds start heads seen name number mentions state lines

-- their sessions were opened with one grammar, over the same documents, with one limit
abbrev pub AreAlike : Shown → Shown → Type 0
AreAlike one other = one.shows.opening ≡ other.shows.opening

-- prints of the session of one name in one legal history, the other one later
pub record AreInOneHistory (one other : Shown) : Type 0 where
  pub start : one.start ≡ other.start
  pub heads : one.heads ≡ other.heads
  pub between : List Entry
  pub seen : other.seen ≡ one.seen ++ between
  pub legal : Legal other.start other.heads other.seen
  pub name : one.name ≡ other.name

-- they are alike
abbrev pub AlikeInOneHistory : Type 0
AlikeInOneHistory = (one other : Shown) → AreInOneHistory one other → AreAlike one other

-- the object with every session let go, as a new start finds it
abbrev pub let_all_go : OneThread → OneThread
let_all_go o = record o { sessions = map let_go o.sessions }

-- prints of the session of one name, the other one after a new start where the history of the one has ended
pub record AreAcrossStarts (one other : Shown) : Type 0 where
  pub more : List Entry
  pub first : IsSoundHistory one.start one.heads (one.seen ++ more)
  pub again : other.start ≡ let_all_go (state_after one.start one.heads (one.seen ++ more))
  pub second : Legal other.start other.heads other.seen
  pub name : one.name ≡ other.name

-- they are alike too
abbrev pub AlikeAcrossStarts : Type 0
AlikeAcrossStarts = (one other : Shown) → AreAcrossStarts one other → AreAlike one other

-- ## What prints that are alike show

-- as many rounds, the same mentions, and under one name the same lines
pub record ShowSame (one other : Shown) : Type 0 where
  pub number : one.number ≡ other.number
  pub lists : one.shows.lists ≡ other.shows.lists
  pub mentions : one.mentions ≡ other.mentions
  pub lines : one.name ≡ other.name → one.lines ≡ other.lines

-- the other print goes on from what the one shows
pub record GoesOnFrom (one other : Shown) : Type 0 where
  pub more : List (List Mention)
  pub lists_are : other.shows.lists ≡ one.shows.lists ++ more
  pub rest : List ℕ
  pub lines_are : one.name ≡ other.name → other.lines ≡ one.lines ++ rest

-- after as many rounds they show the same
abbrev pub EqualRoundsShowSame : Type 0
EqualRoundsShowSame = (one other : Shown) → AreAlike one other → one.number ≡ other.number → ShowSame one other

-- when both are finished they show the same
abbrev pub FinishedPrintsAgree : Type 0
FinishedPrintsAgree =
    (one other : Shown) → AreAlike one other → one.state ≡ Finished → other.state ≡ Finished → ShowSame one other

-- after more rounds the print goes on from the one after fewer
abbrev pub LaterPrintsGoOn : Type 0
LaterPrintsGoOn = (one other : Shown) → AreAlike one other → one.number ≤ other.number → GoesOnFrom one other

-- a session that is finished before a new start and after it prints the same lines
abbrev pub ResumedPrintsAgree : Type 0
ResumedPrintsAgree =
    (one other : Shown) → AreAcrossStarts one other → one.state ≡ Finished → other.state ≡ Finished
    → one.lines ≡ other.lines
