-- The lines of a history.
use Rattle.std.specs.Prelude.{ℕ, List, [], ◌++◌, flat_map, Option, Some, None}
use Rattle.od_document.specs.declared.doc.Doc.{Doc}
use Rattle.od_pattern.specs.declared.grammar.Head.{Head}
use Rattle.od_command.specs.declared.history.Command.{Command}
use Rattle.od_command.specs.declared.history.Command.TheVariants.{Print}
use Rattle.od_command.specs.declared.history.Reply.{Reply}
use Rattle.od_command.specs.declared.history.Reply.TheVariants.{Printed}
use Rattle.od_command.specs.declared.history.Entry.{Entry}
use Rattle.od_session.specs.declared.object.SessionState.{SessionState}
use Rattle.od_session.specs.declared.object.OneThread.{OneThread}
use Rattle.od_text.specs.Lists.{points}
use Rattle.od_extraction.specs.Joined.{joined}
use Rattle.od_session.specs.Parts.{session_of}
use Rattle.od_line.specs.Entries.{own_line}
use Rattle.od_line.specs.Mentions.{mention_line}
use Rattle.od_model.specs.History.Legal.{state_after}

-- one line for each mention of a session, in the order in which the rounds added them
abbrev pub lines_of_session : List Doc → List ℕ → Option SessionState → List ℕ
lines_of_session docs name None = []
lines_of_session docs name (Some s) = flat_map (mention_line name docs) (joined s.rounds)

-- the mention lines of a print
abbrev pub lines_before : OneThread → Command → Reply → List ℕ
lines_before o (Print name) (Printed round mentions phase) = lines_of_session o.docs name (session_of name o.sessions)
lines_before o command reply = []

-- the lines of an entry: the printed mentions, then its own line
abbrev pub entry_lines : OneThread → Entry → List ℕ
entry_lines o e = lines_before o e.command e.reply ++ own_line e

abbrev pub lines_at : OneThread → List Head → List Entry × Entry → List ℕ
lines_at start heads p = entry_lines (state_after start heads p.0) p.1

-- the lines of the entries in their order
abbrev pub Lines : OneThread → List Head → List Entry → List ℕ
Lines start heads es = flat_map (lines_at start heads) (points es)
