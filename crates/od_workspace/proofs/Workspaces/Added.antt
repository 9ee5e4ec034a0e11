-- One document more, and one session more.
use Rattle.std.proofs.Common.{◌≡◌, ℕ, ◌+◌, ◌<◌, ◌≤◌, List, [], ◌∷◌, ◌++◌, length, false, refl, sym, ap, ◌∙◌, arith, nat_le, nat_lt}
use Rattle.std.specs.List.{list_any}
use Rattle.std.proofs.lemmas.Bool.{or_parts, leb-false, ltb-false}
use Rattle.std.proofs.lemmas.List.{length_push}
use Rattle.std.proofs.lemmas.List.Sums.{sum_by_push}
use Rattle.od_document.specs.declared.doc.Doc.{Doc}
use Rattle.od_document.specs.declared.sentence.Sentence.{Sentence}
use Rattle.od_session.specs.declared.object.SessionState.{SessionState}
use Rattle.od_document.specs.Size.{size_in_parts}
use Rattle.od_session.specs.declared.object.TheConstants.{ALL_DOCUMENTS, ALL_BYTES, SESSIONS}
use Rattle.od_session.specs.Parts.{size_of, is_full, is_named}
use Rattle.od_model.proofs.Objects.Places.{Distinct-append}
use Rattle.od_names.proofs.Named.{names-more}
use Rattle.od_workspace.specs.Workspaces.Kept.{IsKept}

-- ## One session more

module _ (docs : List Doc) (doc_names : List (List ℕ)) (bytes sentences : ℕ) (sessions : List SessionState) (session_names : List (List ℕ)) (h : IsKept docs doc_names bytes sentences sessions session_names) where
  -- of a new name, where there is room
  pub kept-session : (name : List ℕ) (s : SessionState) → s.name ≡ name → list_any (is_named name) sessions ≡ false → length sessions < SESSIONS → IsKept docs doc_names bytes sentences (sessions ++ s ∷ []) (session_names ++ name ∷ [])
  kept-session name s is free room = record {
    doc_names_are = h.doc_names_are;
    bytes_are = h.bytes_are;
    sentences_are = h.sentences_are;
    few_docs = h.few_docs;
    few_bytes = h.few_bytes;
    few_sentences = h.few_sentences;
    session_names_are = names-more (λ t. t.name) name session_names sessions h.session_names_are s is;
    distinct = Distinct-append sessions s h.distinct (ap (λ n. list_any (is_named n) sessions) is ∙ free);
    few_sessions = omega (arith, length_push sessions s);
  }

  -- ## One document more

  -- sentences are no more than they weigh
  few-sentences : (ss : List Sentence) → length ss ≤ size_in_parts ss
  few-sentences [] = omega arith
  few-sentences (s ∷ ss) = omega (arith, few-sentences ss)

  -- where the documents are not full
  pub kept-doc : (doc : Doc) → is_full (record { docs = docs; sessions = sessions }) doc.size ≡ false → IsKept (docs ++ doc ∷ []) (doc_names ++ doc.name ∷ []) (bytes + doc.size) (sentences + length doc.sentences) sessions session_names
  kept-doc doc room =
      let parts = or_parts (nat_le ALL_DOCUMENTS (length docs)) (nat_lt ALL_BYTES (size_of docs + doc.size)) room in
      let free : length docs < ALL_DOCUMENTS = leb-false ALL_DOCUMENTS (length docs) parts.0 in
      let small : size_of docs + doc.size ≤ ALL_BYTES = ltb-false ALL_BYTES (size_of docs + doc.size) parts.1 in
      record {
        doc_names_are = names-more (λ d. d.name) doc.name doc_names docs h.doc_names_are doc refl;
        bytes_are = ap (λ n. n + doc.size) h.bytes_are ∙ sym (sum_by_push (λ (d : Doc). d.size) docs doc);
        sentences_are = ap (λ n. n + length doc.sentences) h.sentences_are ∙ sym (sum_by_push (λ (d : Doc). length d.sentences) docs doc);
        few_docs = omega (arith, length_push docs doc);
        few_bytes = let are = h.bytes_are in omega (arith, are, small);
        few_sentences = let less = h.few_sentences in let light = doc.parts in omega (arith, less, light, few-sentences doc.sentences);
        session_names_are = h.session_names_are;
        distinct = h.distinct;
        few_sessions = h.few_sessions;
      }
