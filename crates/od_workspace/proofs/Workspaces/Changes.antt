-- A change of the session of a name, made in place.
use Rattle.std.proofs.Common.{◌≡◌, ℕ, zero, suc, ◌≤◌, List, [], ◌∷◌, slice_get, slice_set, get_or, MatchOption, Option, Some, None, refl, sym, ap, ◌∙◌, subst}
use Rattle.std.proofs.lemmas.List.{length-map}
use Rattle.od_document.specs.declared.doc.Doc.{Doc}
use Rattle.od_session.specs.declared.object.SessionState.{SessionState}
use Rattle.od_session.specs.declared.object.TheConstants.{SESSIONS}
use Rattle.od_session.specs.Parts.{Distinct, is_named, session_of}
use Rattle.od_model.specs.Object.Effects.{change, change_one}
use Rattle.od_text.proofs.Lists.{find-passes}
use Rattle.od_model.proofs.Objects.Names.{same-name, Distinct-change}
use Rattle.od_model.proofs.Objects.Places.{session-placed, names-change}
use Rattle.od_workspace.specs.Workspaces.Changes.{changed_at, ChangesAt}
use Rattle.od_workspace.specs.Workspaces.Kept.{IsKept}
use Rattle.od_workspace.proofs.Workspaces.Places.{IsFoundAt, read-at}

-- the session that is found is written at its place
pub written : (name : List ℕ) (f : SessionState → SessionState) (xs : List SessionState) (i : ℕ) (s : SessionState) → Distinct xs → slice_get xs i ≡ Some s → session_of name xs ≡ Some s → slice_set xs i (f s) ≡ change name f xs
written name f xs i s d at found = let p = session-placed name xs i s d at (same-name s.name name (find-passes (is_named name) s xs found)) in sym (p.changes f)

-- a change that keeps names
pub kept-change : (docs : List Doc) (doc_names : List (List ℕ)) (bytes sentences : ℕ) (sessions : List SessionState) (session_names : List (List ℕ)) (name : List ℕ) (f : SessionState → SessionState)
    → ((s : SessionState) → (f s).name ≡ s.name)
    → IsKept docs doc_names bytes sentences sessions session_names → IsKept docs doc_names bytes sentences (change name f sessions) session_names
kept-change docs doc_names bytes sentences sessions session_names name f names h = record {
  doc_names_are = h.doc_names_are;
  bytes_are = h.bytes_are;
  sentences_are = h.sentences_are;
  few_docs = h.few_docs;
  few_bytes = h.few_bytes;
  few_sentences = h.few_sentences;
  session_names_are = h.session_names_are ∙ sym (names-change name f names sessions);
  distinct = Distinct-change name f names sessions h.distinct;
  few_sessions = subst (λ n. n ≤ SESSIONS) (sym (length-map sessions (change_one name f))) h.few_sessions;
}

-- ## The session at a place

-- a change at a place is a write there
pub changed_at-set : (f : SessionState → SessionState) (xs : List SessionState) (i : ℕ) (s : SessionState) → slice_get xs i ≡ Some s → changed_at i f xs ≡ slice_set xs i (f s)
changed_at-set f [] i s at = absurd (cc)
changed_at-set f (x ∷ xs) zero s at = let same : x ≡ s = cc in ap (λ (t : SessionState). f t ∷ xs) same
changed_at-set f (x ∷ xs) (suc i) s at = ap (λ (l : List SessionState). x ∷ l) (changed_at-set f xs i s at)

-- two changes that agree on the session there
pub changed_at-same : (f g : SessionState → SessionState) (xs : List SessionState) (i : ℕ) (s : SessionState) → slice_get xs i ≡ Some s → f s ≡ g s → changed_at i f xs ≡ changed_at i g xs
changed_at-same f g xs i s at same = changed_at-set f xs i s at ∙ ap (slice_set xs i) same ∙ sym (changed_at-set g xs i s at)

-- a change of the session of a name is one at its place
pub change-at : (name : List ℕ) (f : SessionState → SessionState) (xs : List SessionState) (i : ℕ) (s : SessionState) → Distinct xs → slice_get xs i ≡ Some s → session_of name xs ≡ Some s → change name f xs ≡ changed_at i f xs
change-at name f xs i s d at found = sym (written name f xs i s d at found) ∙ sym (changed_at-set f xs i s at)

-- the session that is found by its name is changed at its place
pub found-changes : (name : List ℕ) (xs : List SessionState) (r : Option ℕ) → Distinct xs → MatchOption r (session_of name xs ≡ None) (IsFoundAt name xs)
    → MatchOption r (session_of name xs ≡ None) (λ i. (s : SessionState) × (slice_get xs i ≡ Some s) × (session_of name xs ≡ Some s) × ChangesAt name xs i)
found-changes name xs None d h = h
found-changes name xs (Some i) d h = (h.0, h.1, h.2, λ f. change-at name f xs i h.0 d h.1 h.2)

-- the same, from what is read there and what it becomes
pub set-back : (f : SessionState → SessionState) (xs : List SessionState) (i : ℕ) (s t u : SessionState) → slice_get xs i ≡ Some s → t ≡ get_or xs i t → u ≡ f t → slice_set xs i u ≡ changed_at i f xs
set-back f xs i s t u at is becomes = ap (slice_set xs i) (becomes ∙ ap f (read-at xs i s t at is)) ∙ sym (changed_at-set f xs i s at)

-- a change at a place that keeps the name
pub kept-at : (docs : List Doc) (doc_names : List (List ℕ)) (bytes sentences : ℕ) (sessions : List SessionState) (session_names : List (List ℕ)) (f : SessionState → SessionState)
    → ((s : SessionState) → (f s).name ≡ s.name) → (i : ℕ) (s : SessionState) → slice_get sessions i ≡ Some s
    → IsKept docs doc_names bytes sentences sessions session_names → IsKept docs doc_names bytes sentences (changed_at i f sessions) session_names
kept-at docs doc_names bytes sentences sessions session_names f names i s at h =
    let placed = session-placed s.name sessions i s h.distinct at refl in
    subst (λ l. IsKept docs doc_names bytes sentences l session_names) (placed.changes f ∙ sym (changed_at-set f sessions i s at))
    (kept-change docs doc_names bytes sentences sessions session_names s.name f names h)
