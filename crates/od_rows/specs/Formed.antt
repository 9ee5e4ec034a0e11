-- Which rows are well formed, and which is the first that is not.
use Rattle.std.specs.Prelude.{◌≡◌, ℕ, ◌+◌, ◌<◌, ◌≤◌, List, ◌∷◌, ◌++◌, length, take, find, filter, sum_by, Some, Ok, Bool, true, false, bytes_eq}
use Rattle.std.specs.List.{list_any}
use Rattle.od_text.specs.Lists.{Each, EachPoint}
use Rattle.od_document.specs.declared.doc.Doc.{Doc}
use Rattle.od_document.specs.Building.{document_of}
use Rattle.od_extraction.specs.declared.mention.Mention.{Mention}
use Rattle.od_extraction.specs.Spans.{LiesIn}
use Rattle.od_extraction.specs.Weight.{weight, most_weight}
use Rattle.od_stored.specs.ReadMentions.{list_read}
use Rattle.od_row.specs.declared.rows.DocRow.{DocRow}
use Rattle.od_row.specs.declared.rows.SessionRow.{SessionRow}
use Rattle.od_row.specs.declared.rows.RoundRow.{RoundRow}
use Rattle.od_row.specs.declared.rows.Rows.{Rows}
use Rattle.od_order.specs.Names.{is_name}
use Rattle.od_rule_text.specs.declared.limits.TheConstants.{GRAMMAR_BYTES}
use Rattle.od_session.specs.declared.object.TheConstants.{ALL_DOCUMENTS, ALL_BYTES, SESSIONS, SESSION_ROUNDS}
use Rattle.od_row.specs.declared.table.TableName.{TableName}
use Rattle.od_row.specs.declared.table.TableName.TheVariants.{Docs, Sessions, Rounds}
use Rattle.od_rows.specs.Loaded.{docs_of, is_round_of}

-- the document row has the name
abbrev pub is_doc_row : List ℕ → DocRow → Bool
is_doc_row name row = bytes_eq row.name name

-- the session row has the name
abbrev pub is_session_row : List ℕ → SessionRow → Bool
is_session_row name row = bytes_eq row.name name

-- the bytes of document rows
abbrev pub bytes_in : List DocRow → ℕ
bytes_in rows = sum_by (λ row. length row.body) rows

-- a document row fits behind those before it: its name is a name that none of them has, its body is a document, and there
-- is room for it
pub record FitsDoc (seen : List DocRow) (row : DocRow) : Type 0 where
  pub name : is_name row.name ≡ true
  pub new : list_any (is_doc_row row.name) seen ≡ false
  pub doc : Doc
  pub reads : document_of row.name row.body ≡ Some doc
  pub few : length seen < ALL_DOCUMENTS
  pub light : bytes_in seen + length row.body ≤ ALL_BYTES

-- a session row fits over these documents behind those before it
pub record FitsSession (docs : List Doc) (seen : List SessionRow) (row : SessionRow) : Type 0 where
  pub name : is_name row.name ≡ true
  pub new : list_any (is_session_row row.name) seen ≡ false
  pub documents : row.documents ≤ length docs
  pub some : 1 ≤ row.limit
  pub limit : row.limit ≤ SESSION_ROUNDS
  pub text : length row.text ≤ GRAMMAR_BYTES
  pub few : length seen < SESSIONS

-- a round row fits over these documents and sessions behind those before it: it has the next number of its session, within
-- its limit, and its body is a list of mentions that lie in the session's documents, and do not weigh too much
pub record FitsRound (docs : List Doc) (sessions : List SessionRow) (seen : List RoundRow) (row : RoundRow) : Type 0 where
  pub session : SessionRow
  pub there : find (is_session_row row.session) sessions ≡ Some session
  pub number : row.round ≡ length (filter (is_round_of row.session) seen) + 1
  pub limit : row.round ≤ session.limit
  pub mentions : List Mention
  pub reads : list_read row.body ≡ Ok mentions
  pub light : weight mentions ≤ most_weight
  pub within : Each (LiesIn (take session.documents docs)) mentions

-- each row fits behind those before it
pub record WellFormed (rows : Rows) : Type 0 where
  pub docs : EachPoint FitsDoc rows.docs
  pub sessions : EachPoint (FitsSession (docs_of rows.docs)) rows.sessions
  pub rounds : EachPoint (FitsRound (docs_of rows.docs) rows.sessions) rows.rounds

-- the row at this place is the first of its list that does not fit behind those before it
pub record IsFirstMisfit {R : Type 0} (Fits : List R → R → Type 0) (rows : List R) (place : ℕ) : Type 0 where
  pub front : List R
  pub bad : R
  pub rest : List R
  pub rows_are : rows ≡ front ++ bad ∷ rest
  pub place_is : place ≡ length front
  pub fit : EachPoint Fits front
  pub misfit : Fits front bad → ⊥

-- the first row that is not well formed, with its table: documents first, then sessions, then rounds
abbrev pub IsBadRow : Rows → TableName → ℕ → Type 0
IsBadRow rows Docs place = IsFirstMisfit FitsDoc rows.docs place
IsBadRow rows Sessions place = EachPoint FitsDoc rows.docs × IsFirstMisfit (FitsSession (docs_of rows.docs)) rows.sessions place
IsBadRow rows Rounds place =
    EachPoint FitsDoc rows.docs × EachPoint (FitsSession (docs_of rows.docs)) rows.sessions
    × IsFirstMisfit (FitsRound (docs_of rows.docs) rows.sessions) rows.rounds place
