-- What the documents and sessions keep beside one another.
use Rattle.std.specs.Prelude.{◌≡◌, ℕ, ◌≤◌, List, [], ◌∷◌, length, map}
use Rattle.std.specs.List.{AllZip}
use Rattle.od_document.specs.declared.doc.Doc.{Doc}
use Rattle.od_session.specs.declared.object.SessionState.{SessionState}
use Rattle.od_session.specs.declared.object.TheConstants.{ALL_DOCUMENTS, ALL_BYTES, SESSIONS}
use Rattle.od_session.specs.Parts.{size_of, sentence_count, Distinct}
use Rattle.od_index.specs.Segments.{Stored, StandsFor}
use Rattle.od_rounds.specs.Running.{Running}
use Rattle.od_workspace.specs.Workspaces.Sessions.{IsRunning}

-- the names of the documents and of the sessions stand in their order; the bytes and the sentences are counted
pub record IsKept (docs : List Doc) (doc_names : List (List ℕ)) (bytes sentences : ℕ) (sessions : List SessionState) (session_names : List (List ℕ)) : Type 0 where
  pub doc_names_are : doc_names ≡ map (λ doc. doc.name) docs
  pub bytes_are : bytes ≡ size_of docs
  pub sentences_are : sentences ≡ sentence_count docs
  pub few_docs : length docs ≤ ALL_DOCUMENTS
  pub few_bytes : bytes ≤ ALL_BYTES
  pub few_sentences : sentences ≤ bytes
  pub session_names_are : session_names ≡ map (λ s. s.name) sessions
  pub distinct : Distinct sessions
  pub few_sessions : length sessions ≤ SESSIONS

-- a segment stands for this document alone
abbrev pub StandsAlone : Doc → Stored → Type 0
StandsAlone doc segment = StandsFor (doc ∷ []) segment

-- all of that; beside each session's state stands the session that runs
pub record IsWorkspace (docs : List Doc) (doc_names : List (List ℕ)) (bytes sentences : ℕ)
    (sessions : List SessionState) (running : List Running) (session_names : List (List ℕ)) : Type 0 where
  pub kept : IsKept docs doc_names bytes sentences sessions session_names
  pub runs : AllZip (IsRunning docs) sessions running
