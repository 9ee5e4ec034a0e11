-- A print of a legal history shows the rounds.
use Rattle.std.proofs.Common.{◌≡◌, ℕ, List, ◌∷◌, ◌++◌, length, take, ap, subst}
use Rattle.od_pattern.specs.declared.grammar.Head.{Head}
use Rattle.od_extraction.specs.declared.phase.Phase.{Phase}
use Rattle.od_command.specs.declared.history.Command.TheVariants.{Print}
use Rattle.od_command.specs.declared.history.Reply.TheVariants.{Printed}
use Rattle.od_command.specs.declared.history.Entry.{Entry}
use Rattle.od_session.specs.declared.object.OneThread.{OneThread}
use Rattle.od_text.specs.Lists.{Each}
use Rattle.od_session.specs.Parts.{IsAccepted, is_named, session_of}
use Rattle.od_model.specs.Object.Replies.{Replies}
use Rattle.od_model.specs.History.Legal.{state_after, Legal}
use Rattle.od_model.specs.History.Lines.{lines_of_session}
use Rattle.od_model.specs.History.Alike.{opening_of}
use Rattle.od_model.specs.History.Prints.{IsOpened, ShowsRounds, PrintsRounds}
use Rattle.od_text.proofs.Lists.{Each-find, find-passes}
use Rattle.od_model.proofs.Objects.Answered.{IsPrinting, answered}
use Rattle.od_model.proofs.Objects.Names.{same-name}
use Rattle.od_matching.proofs.Rounds.Lying.{rounds-lie}
use Rattle.od_model.proofs.Histories.Openings.{IsOpenedSession, AreOpenedAfter, opened-after}
use Rattle.od_model.proofs.Histories.Steps.{Legal-front, Legal-at}
use Rattle.od_model.specs.Object.Sound.{IsSound, IsSoundSession}
use Rattle.od_model.proofs.Histories.Sound.{sound-after, grammar-is}

shows : (start : OneThread) (heads : List Head) (seen : List Entry) (caller : ℕ) (name : List ℕ) (number mentions : ℕ) (state : Phase)
    → IsSound (state_after start heads seen) → AreOpenedAfter start heads seen → IsPrinting (state_after start heads seen) caller name number mentions state
    → ShowsRounds start heads seen name number mentions state (lines_of_session (state_after start heads seen).docs name (session_of name (state_after start heads seen).sessions))
shows start heads seen caller name number mentions state sound opened p =
    let o = state_after start heads seen in
    let s = p.holding.session in
    let at = p.holding.there in
    let own : IsSoundSession o.docs s = Each-find (IsSoundSession o.docs) (is_named name) s o.sessions sound.sound at in
    let was : IsOpenedSession start heads seen o.docs s = Each-find (IsOpenedSession start heads seen o.docs) (is_named name) s o.sessions opened at in
    let called : s.name ≡ name = same-name s.name name (find-passes (is_named name) s o.sessions at) in
    record {
      opening = opening_of s o.docs;
      opened = subst (λ n. IsOpened start heads seen n (opening_of s o.docs)) called was;
      grammar = own.grammar;
      reads = own.reads;
      lists = s.rounds;
      rounds_are = rw p.number_is own.rounds_are;
      mentions_are = p.mentions_are;
      mentions_lie = rounds-lie (take s.documents o.docs) own.grammar (length s.rounds) s.rounds own.rounds_are;
      lines_are = ap (lines_of_session o.docs name) at;
      state_is = rw (grammar-is s own.grammar own.reads) at p.state_is;
      first_finished = own.unfinished;
    }

-- every print of a legal history from a sound object, with accepted heads, shows the rounds
pub prints-rounds : (start : OneThread) (heads : List Head) (history : List Entry) → IsSound start → Each IsAccepted heads → Legal start heads history → PrintsRounds start heads history
prints-rounds start heads history sound accepted whole front e rest name number mentions state is command-is reply-is =
    let legal : Legal start heads (front ++ e ∷ rest) = subst (Legal start heads) is whole in
    let before = Legal-front start heads front (e ∷ rest) legal in
    let next = Legal-at start heads front e rest legal in
    let says : Replies heads (state_after start heads front) e.caller (Print name) (Printed number mentions state) = rw (command-is, reply-is) at next.replies in
    let p = answered heads (state_after start heads front) e.caller (Print name) (Printed number mentions state) says in
    rw (command-is, reply-is) (shows start heads front e.caller name number mentions state (sound-after start heads accepted front sound before) (opened-after start heads accepted front sound before) p)
