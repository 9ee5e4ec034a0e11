-- What a print shows.
use Rattle.std.specs.Prelude.{◌≡◌, ◌≢◌, ◌⊎◌, ℕ, List, ◌∷◌, ◌++◌, length, take, flat_map, Some}
use Rattle.od_document.specs.declared.doc.Doc.{Doc}
use Rattle.od_pattern.specs.declared.grammar.Head.{Head}
use Rattle.od_pattern.specs.declared.grammar.Grammar.{Grammar}
use Rattle.od_pattern.specs.declared.grammar.GrammarKind.{GrammarKind}
use Rattle.od_extraction.specs.declared.mention.Mention.{Mention}
use Rattle.od_extraction.specs.declared.phase.Phase.{Phase}
use Rattle.od_extraction.specs.declared.phase.Phase.TheVariants.{Finished}
use Rattle.od_command.specs.declared.history.Command.TheVariants.{OpenSession, Print}
use Rattle.od_command.specs.declared.history.Reply.TheVariants.{Opened, Printed}
use Rattle.od_command.specs.declared.history.Entry.{Entry}
use Rattle.od_session.specs.declared.object.SessionState.{SessionState}
use Rattle.od_session.specs.declared.object.OneThread.{OneThread}
use Rattle.od_session.specs.Grammars.{grammar_of}
use Rattle.od_text.specs.Lists.{Each, EachPoint}
use Rattle.od_extraction.specs.Spans.{LiesIn}
use Rattle.od_matching.specs.Rounds.Round.{rounds}
use Rattle.od_extraction.specs.Joined.{joined}
use Rattle.od_matching.specs.Rounds.Phases.{phase, greatest_first}
use Rattle.od_session.specs.Parts.{head_of, session_of}
use Rattle.od_line.specs.Mentions.{mention_line}
use Rattle.od_model.specs.History.Legal.{state_after}
use Rattle.od_model.specs.History.Lines.{lines_before}

-- how a session was opened: with a grammar of this kind and text, over these documents, for at most so many rounds
pub record Opening : Type 0 where
  pub kind : GrammarKind
  pub text : List ℕ
  pub docs : List Doc
  pub limit : ℕ

-- an entry opened the session of this name so, over the documents that were committed before it
pub record IsOpenedWithin (start : OneThread) (heads : List Head) (seen : List Entry) (name : List ℕ) (opening : Opening) : Type 0 where
  pub before : List Entry
  pub entry : Entry
  pub since : List Entry
  pub seen_is : seen ≡ before ++ entry ∷ since
  pub grammar : List ℕ
  pub head : Head
  pub head_is : head_of grammar heads ≡ Some head
  pub command_is : entry.command ≡ OpenSession name grammar opening.limit
  pub reply_is : entry.reply ≡ Opened (length opening.docs) opening.limit
  pub opening_is : opening ≡ record { kind = head.kind; text = head.text; docs = (state_after start heads before).docs; limit = opening.limit }

-- the session of this name was there at the start, opened so
pub record IsOpenedBefore (start : OneThread) (name : List ℕ) (opening : Opening) : Type 0 where
  pub session : SessionState
  pub is : session_of name start.sessions ≡ Some session
  pub opening_is : opening ≡ record { kind = session.kind; text = session.text; docs = take session.documents start.docs; limit = session.limit }

abbrev pub IsOpened : OneThread → List Head → List Entry → List ℕ → Opening → Type 0
IsOpened start heads seen name opening = IsOpenedWithin start heads seen name opening ⊎ IsOpenedBefore start name opening

-- the printed lines are those of the mentions that the priority rounds find in the documents that were committed when the session was opened:
-- as many as the print says, each in a sentence of these documents; the session finishes first where the definition says so
pub record ShowsRounds (start : OneThread) (heads : List Head) (seen : List Entry) (name : List ℕ) (number mentions : ℕ) (state : Phase) (lines : List ℕ) : Type 0 where
  pub opening : Opening
  pub opened : IsOpened start heads seen name opening
  pub grammar : Grammar
  pub reads : grammar_of opening.kind opening.text ≡ Some grammar
  pub lists : List (List Mention)
  pub rounds_are : rounds opening.docs grammar number ≡ Some lists
  pub mentions_are : mentions ≡ length (joined lists)
  pub mentions_lie : Each (LiesIn opening.docs) (joined lists)
  pub lines_are : lines ≡ flat_map (mention_line name (state_after start heads seen).docs) (joined lists)
  pub state_is : state ≡ phase (greatest_first grammar.rules) opening.limit lists
  pub first_finished : EachPoint (λ before list. phase (greatest_first grammar.rules) opening.limit before ≢ Finished) lists

-- each print of a history shows the rounds over the documents that its session was opened with
abbrev pub PrintsRounds : OneThread → List Head → List Entry → Type 0
PrintsRounds start heads history = (front : List Entry) (e : Entry) (rest : List Entry) (name : List ℕ) (round mentions : ℕ) (state : Phase)
    → history ≡ front ++ e ∷ rest → e.command ≡ Print name → e.reply ≡ Printed round mentions state
    → ShowsRounds start heads front name round mentions state (lines_before (state_after start heads front) e.command e.reply)
