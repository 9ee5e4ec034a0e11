-- Segments and the documents that they stand for.
use Rattle.std.proofs.Common.{◌≡◌, length, ℕ, ◌+◌, List, ◌++◌, map, refl, sym, ap, ap₂, ◌∙◌, subst, length-append}
use Rattle.std.proofs.lemmas.List.{length-map, map-append}
use Rattle.std.proofs.lemmas.List.Concat.{flat_map-append}
use Rattle.od_index.specs.Sites.{Site, sites, later, sentences_in}
use Rattle.od_index.specs.Terms.{Term, terms_of, sentence_terms}
use Rattle.od_index.specs.Tables.{IsTableOf, term_cmp}
use Rattle.od_index.specs.Segments.{Stored, size, posted}
use Rattle.od_document.specs.declared.sentence.Sentence.{Sentence}
use Rattle.od_index.specs.Laws.{OneSegment, SegmentIsComputed, MergedStands, PostingsMerge, EdgePostingsMerge}
use Rattle.od_index.specs.Postings.{shifted, postings, IsEdgePosting}
use Rattle.od_index.proofs.Numbered.{sites-join, sentences-later, postings-join}
use Rattle.od_index.proofs.Postings.{edge-postings-join}
use Rattle.od_index.proofs.Placed.{ascending-is}
use Rattle.od_index.proofs.Tables.{one-table, tables-join, terms-exact}

abbrev stored : ℕ → List Site → List Term → Stored
stored documents sites table = record { documents = documents; sites = sites; table = table }

pub one-segment : OneSegment
one-segment docs a b p q =
    let same : a.sites ≡ b.sites = p.sentences ∙ sym q.sentences in
    let terms : IsTableOf (terms_of (sentences_in b.sites)) a.table = subst (λ (ss : List Site). IsTableOf (terms_of (sentences_in ss)) a.table) same p.terms in
    ap₂ (λ n ss. stored n ss a.table) (p.count ∙ sym q.count) same
    ∙ ap (stored b.documents b.sites) (one-table (terms_of (sentences_in b.sites)) a.table b.table terms q.terms)

pub segment-is : SegmentIsComputed
segment-is docs = record { count = refl; sentences = refl; terms = ascending-is term_cmp terms-exact (terms_of (sentences_in (sites docs))) }

-- the sentences of two segments
pub sentences-join : (a b : List Site) (n : ℕ) → sentences_in (a ++ map (later n) b) ≡ sentences_in a ++ sentences_in b
sentences-join a b n = map-append (λ (site : Site). site.words) a (map (later n) b) ∙ ap (λ ss. sentences_in a ++ ss) (sentences-later n b)

-- and their terms
terms-join : (a b : List Site) (n : ℕ) → terms_of (sentences_in (a ++ map (later n) b)) ≡ terms_of (sentences_in a) ++ terms_of (sentences_in b)
terms-join a b n = ap terms_of (sentences-join a b n) ∙ flat_map-append sentence_terms (sentences_in a) (sentences_in b)

pub merged-stands : MergedStands
merged-stands docs more left right table p q t = record {
  count = ap₂ (λ m n. m + n) p.count q.count ∙ sym (length-append docs more);
  sentences =
      ap₂ (λ a b. a ++ b) p.sentences (ap₂ (λ n ss. map (later n) ss) p.count q.sentences) ∙ sym (sites-join docs more);
  terms = subst (λ (terms : List Term). IsTableOf terms table) (sym (terms-join left.sites right.sites left.documents))
      (tables-join (terms_of (sentences_in left.sites)) (terms_of (sentences_in right.sites)) left.table right.table table p.terms q.terms t);
}

-- ## Posting lists

pub postings-merge : PostingsMerge
postings-merge term left right table =
    ap (postings term) (sentences-join left.sites right.sites left.documents)
    ∙ postings-join term (sentences_in left.sites) (sentences_in right.sites)
    ∙ ap (λ n. posted term left ++ map (shifted n) (posted term right)) (length-map left.sites (λ (site : Site). site.words))

pub edge-postings-merge : EdgePostingsMerge
edge-postings-merge label left right table a b p q =
    let long : length (sentences_in left.sites) ≡ size left = length-map left.sites (λ (site : Site). site.words) in
    let both : IsEdgePosting label (sentences_in left.sites ++ sentences_in right.sites) (a ++ map (shifted (length (sentences_in left.sites))) b) =
    edge-postings-join label (sentences_in left.sites) (sentences_in right.sites) a b p q in
    subst (λ (ss : List Sentence). IsEdgePosting label ss (a ++ map (shifted (size left)) b)) (sym (sentences-join left.sites right.sites left.documents))
    (subst (λ (n : ℕ). IsEdgePosting label (sentences_in left.sites ++ sentences_in right.sites) (a ++ map (shifted n) b)) long both)
