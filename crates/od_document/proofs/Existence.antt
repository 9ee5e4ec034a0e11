-- Bytes without a fault are a document, and the definitions build it.
use Rattle.std.proofs.Common.{◌≡◌, ◌≢◌, ℕ, ◌+◌, ◌<◌, ◌≤◌, List, [], ◌∷◌, length, map, Bool, true, false, refl, sym, ap, ◌∙◌, arith, Option, None, Some, inl, inr}
use Rattle.std.specs.Prelude.{◌==◌, ◌⊎◌, not, if◌then◌else◌, nat_lt, nat_le, cond}
use Rattle.std.specs.Option.{option_or}
use Rattle.std.specs.List.{cons_option}
use Rattle.std.specs.Str.Lossy.{utf8_valid_len}
use Rattle.std.proofs.lemmas.Bool.{ltb-false, ltb-true, leb-false}
use Rattle.std.proofs.lemmas.List.{length-map}
use Rattle.od_document.specs.declared.limits.TheConstants.{DOCUMENT_BYTES, SENTENCE_TOKENS}
use Rattle.od_document.specs.declared.token.Token.{Token}
use Rattle.od_document.specs.declared.token.Edge.{Edge}
use Rattle.od_document.specs.declared.sentence.Sentence.{Sentence}
use Rattle.od_document.specs.declared.doc.Doc.{Doc}
use Rattle.od_document.specs.declared.conllu.ConlluFault.{ConlluFault}
use Rattle.od_document.specs.Lines.{Line, without_mark, blocks_of}
use Rattle.od_document.specs.Columns.{LineColumns}
use Rattle.od_document.specs.Words.{WordLine, Content, no_word, word, wrong, word_lines_of, content_of, word_line_at, token_of, edges_from}
use Rattle.od_document.specs.Faults.{word_fault, content_fault, lines_fault, heads_fault, block_fault, blocks_fault, sentences_in, empty_fault, doc_fault}
use Rattle.od_document.specs.Edges.{EndsWithin, AreDistinct}
use Rattle.od_document.specs.Size.{size_in_parts}
use Rattle.od_document.specs.Reading.{shown, tokens_and_edges, Reads}
use Rattle.od_document.specs.Building.{if_passes, KeepsSentence, is_sentence, is_document, Decides-is_sentence, Decides-is_document, sentence_of, sentences_of, document_with, document_of}
use Rattle.od_document.specs.Laws.{BuildsDocuments, IsDocumentOrFault}
use Rattle.od_document.proofs.Edges.{EndsWithin-edges, AreDistinct-edges, map_none}
use Rattle.od_document.proofs.Uniqueness.{reads_once}
use Rattle.od_document.proofs.Size.{size_short, cons_length, mark_short, edges_short}

both_none : {T : Type 0} (x y : Option T) → option_or x y ≡ None → (x ≡ None) × (y ≡ None)
both_none None y e = (refl, e)
both_none (Some x) y e = absurd (cc)

past : {A : Type 0} (t : Bool) (x : A) (o : Option A) → (if t then Some x else o) ≡ None → (t ≡ false) × (o ≡ None)
past true x o e = absurd (cc)
past false x o e = (refl, e)

-- a word line without a fault is not one too many
word_within : (k id : ℕ) (columns : LineColumns) → word_fault k id columns ≡ None → k < SENTENCE_TOKENS
word_within k id columns e = leb-false SENTENCE_TOKENS k (past (nat_le SENTENCE_TOKENS k) _ _ (past (not (id == k + 1)) _ _ e).1).0

content_within : (n k : ℕ) (c : Content) → k ≤ SENTENCE_TOKENS → content_fault k c ≡ None → k + length (cons_option (word_line_at n c) []) ≤ SENTENCE_TOKENS
content_within n k no_word h e = omega arith
content_within n k (word id columns) h e = omega (arith, word_within k id columns e)
content_within n k (wrong kind) h e = absurd (cc)

words_few : (k : ℕ) (ls : List Line) → k ≤ SENTENCE_TOKENS → lines_fault k ls ≡ None → k + length (word_lines_of ls) ≤ SENTENCE_TOKENS
words_few k [] h e = omega arith
words_few k (l ∷ ls) h e =
    let two = both_none _ _ e in
    let here = content_within l.number k (content_of l.text) h (map_none _ _ two.0) in
    omega (arith, words_few (k + length (word_lines_of (l ∷ []))) ls here two.1, cons_length (word_line_at l.number (content_of l.text)) (word_lines_of ls))

-- the tokens and edges of word lines keep what each sentence keeps
pub sentence_keeps : (ws : List WordLine) (tokens : List Token) (edges : List Edge) → tokens ≡ map token_of ws → edges ≡ edges_from 0 ws → length ws ≤ SENTENCE_TOKENS
    → heads_fault (length ws) ws ≡ None → length tokens ≢ 0 → KeepsSentence (tokens, edges)
sentence_keeps ws tokens edges told drawn few none some =
    let count : length tokens ≡ length ws = ap length told ∙ length-map ws token_of in
    let ends : EndsWithin (length ws) edges = rw drawn (EndsWithin-edges ws none) in
    let distinct : AreDistinct edges = rw drawn (AreDistinct-edges ws) in
    ((((omega arith, omega arith), omega (arith, ap length drawn, edges_short 0 ws)), rw count ends), distinct)

-- a test that passes gives the value
passed : {A : Type 0} (t : Bool) (value : t ≡ true → A) → t ≡ true → (h : t ≡ true) × (if_passes t value ≡ Some (value h))
passed true value e = (refl, refl)
passed false value e = absurd (cc)

sentence_built : (ws : List WordLine) → 0 < length ws → length ws ≤ SENTENCE_TOKENS → heads_fault (length ws) ws ≡ None
    → (s : Sentence) × (sentence_of ws ≡ Some s) × (shown s ≡ tokens_and_edges ws)
sentence_built ws some few none =
    let k = sentence_keeps ws (map token_of ws) (edges_from 0 ws) refl refl few none (λ z. omega (arith, z, length-map ws token_of)) in
    let built = passed (is_sentence (tokens_and_edges ws)) _ ((Decides-is_sentence (tokens_and_edges ws)).1 k) in
    (_, built.1, refl)

-- one more sentence
built-cons : (ws : List WordLine) (wss : List (List WordLine)) (s : Sentence) (ss : List Sentence) → sentence_of ws ≡ Some s → sentences_of wss ≡ Some ss → sentences_of (ws ∷ wss) ≡ Some (s ∷ ss)
built-cons ws wss s ss one more = rw (one, more) refl

sentences_built : (bs : List (List Line)) → blocks_fault bs ≡ None → (ss : List Sentence) × (sentences_of (sentences_in bs) ≡ Some ss) × (map shown ss ≡ map tokens_and_edges (sentences_in bs))
sentences_built [] e = ([], refl, refl)
sentences_built (b ∷ bs) e =
    let two = both_none (block_fault b) (blocks_fault bs) e in
    let here = both_none (lines_fault 0 b) (heads_fault (length (word_lines_of b)) (word_lines_of b)) two.0 in
    by (nat_lt 0 (length (word_lines_of b))) refl (omega (arith, words_few 0 b (omega arith) here.0)) here.1 (sentences_built bs two.1)
  where
    by : (t : Bool) → nat_lt 0 (length (word_lines_of b)) ≡ t → length (word_lines_of b) ≤ SENTENCE_TOKENS → heads_fault (length (word_lines_of b)) (word_lines_of b) ≡ None
        → (ss : List Sentence) × (sentences_of (sentences_in bs) ≡ Some ss) × (map shown ss ≡ map tokens_and_edges (sentences_in bs))
        → (ss : List Sentence) × (sentences_of (cond t (word_lines_of b ∷ sentences_in bs) (sentences_in bs)) ≡ Some ss) × (map shown ss ≡ map tokens_and_edges (cond t (word_lines_of b ∷ sentences_in bs) (sentences_in bs)))
    by true is few heads more =
        let one = sentence_built (word_lines_of b) (ltb-true _ _ is) few heads in
        (one.0 ∷ more.0, built-cons (word_lines_of b) (sentences_in bs) one.0 more.0 one.1 more.1, ap (λ x. x ∷ map shown more.0) one.2 ∙ ap (λ xs. tokens_and_edges (word_lines_of b) ∷ xs) more.2)
    by false is few heads more = more

not_empty : (ss : List (List WordLine)) → empty_fault ss ≡ None → 0 < length ss
not_empty [] e = absurd (cc)
not_empty (s ∷ ss) e = omega arith

document_with-built : (name : List ℕ) (size : ℕ) (ss : List Sentence) → 0 < length ss → size ≤ DOCUMENT_BYTES → size_in_parts ss ≤ size
    → (doc : Doc) × (document_with name size ss ≡ Some doc) × (doc.name ≡ name) × (doc.size ≡ size) × (doc.sentences ≡ ss)
document_with-built name size ss some small parts =
    let built = passed (is_document size ss) _ ((Decides-is_document size ss).1 ((some, small), parts)) in
    (_, built.1, refl, refl, refl)

-- bytes without a fault are a document, which the definitions build
pub document_built : (name bytes : List ℕ) → doc_fault bytes ≡ None → (doc : Doc) × (document_of name bytes ≡ Some doc) × Reads name bytes doc
unfolding document_of
document_built name bytes e =
    let short = past (nat_lt DOCUMENT_BYTES (length bytes)) _ _ e in
    let valid = past (nat_lt (utf8_valid_len (without_mark bytes)) (length (without_mark bytes))) _ _ short.1 in
    let two = both_none (blocks_fault (blocks_of (without_mark bytes))) (empty_fault (sentences_in (blocks_of (without_mark bytes)))) valid.1 in
    let found = sentences_built (blocks_of (without_mark bytes)) two.0 in
    let count : length found.0 ≡ length (sentences_in (blocks_of (without_mark bytes))) = sym (length-map found.0 shown) ∙ ap length found.2 ∙ length-map (sentences_in (blocks_of (without_mark bytes))) tokens_and_edges in
    let built = document_with-built name (length bytes) found.0 (omega (arith, count, not_empty _ two.1)) (ltb-false _ _ short.0) (omega (arith, size_short (without_mark bytes) found.0 found.2, mark_short bytes)) in (
      built.0,
      rw (e, found.1) built.1,
      record { faultless = e; name_is = built.2; size_is = built.3; sentences_are = ap (map shown) built.4 ∙ found.2 },
    )

-- bytes with a fault are none
pub document_of-fault : (name bytes : List ℕ) (f : ConlluFault) → doc_fault bytes ≡ Some f → document_of name bytes ≡ None
unfolding document_of
document_of-fault name bytes f e = rw e refl

-- the document that bytes are read as is the one that the definitions build
pub Reads-document_of : (name bytes : List ℕ) (doc : Doc) → Reads name bytes doc → document_of name bytes ≡ Some doc
Reads-document_of name bytes doc reads =
    let built = document_built name bytes reads.faultless in
    built.1 ∙ ap (λ (d : Doc). Some d) (reads_once name bytes built.0 doc built.2 reads)

not_some : {A B : Type 0} (x : A) → None ≡ Some x → B
not_some x e = absurd (cc)

same_some : {A : Type 0} (x y : A) → Some x ≡ Some y → x ≡ y
same_some x y e = cc

pub document_of-Reads : (name bytes : List ℕ) (doc : Doc) → document_of name bytes ≡ Some doc → Reads name bytes doc
document_of-Reads name bytes doc is = by (doc_fault bytes) refl
  where
    by : (o : Option ConlluFault) → doc_fault bytes ≡ o → Reads name bytes doc
    by None e = let built = document_built name bytes e in rw (same_some doc built.0 (sym is ∙ built.1)) built.2
    by (Some f) e = not_some doc (sym (document_of-fault name bytes f e) ∙ is)

-- a document is built or there is a fault
pub document_or_fault_of : (name bytes : List ℕ) → ((doc : Doc) × (document_of name bytes ≡ Some doc) × Reads name bytes doc) ⊎ ((f : ConlluFault) × (doc_fault bytes ≡ Some f))
document_or_fault_of name bytes = by (doc_fault bytes) refl
  where
    by : (o : Option ConlluFault) → doc_fault bytes ≡ o → ((doc : Doc) × (document_of name bytes ≡ Some doc) × Reads name bytes doc) ⊎ ((f : ConlluFault) × (doc_fault bytes ≡ Some f))
    by None e = inl (document_built name bytes e)
    by (Some f) e = inr (f, e)

pub document_or_fault : IsDocumentOrFault
document_or_fault name bytes = (by (document_or_fault_of name bytes), λ doc f reads fault. not_some f (sym reads.faultless ∙ fault))
  where
    by : ((doc : Doc) × (document_of name bytes ≡ Some doc) × Reads name bytes doc) ⊎ ((f : ConlluFault) × (doc_fault bytes ≡ Some f)) → ((doc : Doc) × Reads name bytes doc) ⊎ ((f : ConlluFault) × (doc_fault bytes ≡ Some f))
    by (inl d) = inl (d.0, d.2)
    by (inr f) = inr f

none-fault : (name bytes : List ℕ) → document_of name bytes ≡ None → (f : ConlluFault) × (doc_fault bytes ≡ Some f)
none-fault name bytes is = by (document_or_fault_of name bytes)
  where
    by : ((doc : Doc) × (document_of name bytes ≡ Some doc) × Reads name bytes doc) ⊎ ((f : ConlluFault) × (doc_fault bytes ≡ Some f)) → (f : ConlluFault) × (doc_fault bytes ≡ Some f)
    by (inl d) = not_some d.0 (sym is ∙ d.1)
    by (inr f) = f

pub builds_documents : BuildsDocuments
builds_documents = record {
  document = λ name bytes doc. (document_of-Reads name bytes doc, Reads-document_of name bytes doc);
  none = λ name bytes. (none-fault name bytes, λ f. document_of-fault name bytes f.0 f.1);
}
