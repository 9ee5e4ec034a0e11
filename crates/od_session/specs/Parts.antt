-- What the one-thread object has, and the tests that its refusals ask.
use Rattle.std.specs.Prelude.{◌≡◌, ℕ, ◌+◌, List, [], length, take, find, sum_by, Option, Some, None, unwrap_or, Bool, true, false, ◌&&◌, ◌||◌, nat_lt, nat_le, bytes_eq}
use Rattle.std.specs.List.{list_any}
use Rattle.od_document.specs.declared.doc.Doc.{Doc}
use Rattle.od_pattern.specs.declared.grammar.Head.{Head}
use Rattle.od_pattern.specs.declared.grammar.GrammarKind.{GrammarKind}
use Rattle.od_pattern.specs.declared.grammar.GrammarKind.TheVariants.{RuleFile, Query}
use Rattle.od_pattern.specs.declared.grammar.Grammar.{Grammar}
use Rattle.od_extraction.specs.declared.mention.Mention.{Mention}
use Rattle.od_extraction.specs.declared.mention.RoundResult.{RoundResult}
use Rattle.od_extraction.specs.declared.phase.Phase.{Phase}
use Rattle.od_session.specs.declared.object.SessionState.{SessionState}
use Rattle.od_session.specs.declared.object.OneThread.{OneThread}
use Rattle.od_session.specs.declared.object.TheConstants.{ALL_DOCUMENTS, ALL_BYTES}
use Rattle.od_session.specs.Grammars.{grammar_of}
use Rattle.od_text.specs.Lists.{EachPoint}
use Rattle.od_matching.specs.Rounds.Round.{round}
use Rattle.od_extraction.specs.Joined.{joined}
use Rattle.od_matching.specs.Rounds.Phases.{phase, greatest_first}

-- no document and no session
abbrev pub nothing : OneThread
nothing = record { docs = []; sessions = [] }

-- a document of the name is committed
abbrev pub has_doc : OneThread → List ℕ → Bool
has_doc o name = list_any (λ doc. bytes_eq doc.name name) o.docs

-- the bytes that the documents were read from
abbrev pub size_of : List Doc → ℕ
size_of docs = sum_by (λ doc. doc.size) docs

-- the committed sentences
abbrev pub sentence_count : List Doc → ℕ
sentence_count docs = sum_by (λ doc. length doc.sentences) docs

-- as many documents are there as may be, or with so many bytes more all of them would have too many
abbrev pub is_full : OneThread → ℕ → Bool
is_full o size = nat_le ALL_DOCUMENTS (length o.docs) || nat_lt ALL_BYTES (size_of o.docs + size)

-- the grammar of a head is accepted
abbrev pub IsAccepted : Head → Type 0
IsAccepted head = (grammar : Grammar) × (grammar_of head.kind head.text ≡ Some grammar)

-- the session has the name
abbrev pub is_named : List ℕ → SessionState → Bool
is_named name s = bytes_eq s.name name

-- no two sessions have one name
abbrev pub Distinct : List SessionState → Type 0
Distinct sessions = EachPoint (λ seen s. list_any (is_named s.name) seen ≡ false) sessions

-- the session of a name
abbrev pub session_of : List ℕ → List SessionState → Option SessionState
session_of name sessions = find (is_named name) sessions

abbrev pub has_session : OneThread → List ℕ → Bool
has_session o name = list_any (is_named name) o.sessions

-- the rounds of a session that may be there
abbrev pub rounds_in : Option SessionState → ℕ
rounds_in None = 0
rounds_in (Some s) = length s.rounds

-- how many rounds the session of a name has
abbrev pub round_count : List ℕ → OneThread → ℕ
round_count name o = rounds_in (session_of name o.sessions)

-- the script's grammar of a name
abbrev pub head_of : List ℕ → List Head → Option Head
head_of name heads = find (λ h. bytes_eq h.name name) heads

abbrev pub same_kind : GrammarKind → GrammarKind → Bool
same_kind RuleFile RuleFile = true
same_kind RuleFile Query = false
same_kind Query RuleFile = false
same_kind Query Query = true

-- a grammar of the script has the session's kind and text
abbrev pub is_known : List Head → SessionState → Bool
is_known heads s = list_any (λ h. same_kind h.kind s.kind && bytes_eq h.text s.text) heads

-- a session's grammar; where its text has none, one without rules
abbrev pub grammar_at : SessionState → Grammar
grammar_at s = unwrap_or (grammar_of s.kind s.text) (record { kind = s.kind; text = s.text; rules = [] })

-- the phase of a session that had these lists
abbrev pub phase_with : SessionState → List (List Mention) → Phase
phase_with s lists = phase (greatest_first (grammar_at s).rules) s.limit lists

-- the next round of a session, over the documents that were committed when it was opened
abbrev pub round_at : List Doc → SessionState → RoundResult
round_at docs s = round (take s.documents docs) (grammar_at s) (length s.rounds + 1) (joined s.rounds)
