-- The document's sentences are numbers of its table, and its posting lists are those of these.
use Rattle.std.proofs.Common.{◌≡◌, ◌<◌, ◌^◌, ◌∙◌, List, length, map, refl, sym, ap, ap₂, subst}
use Rattle.std.specs.Arc.{arc_value}
use Rattle.std.proofs.lemmas.List.{length-map}
use Rattle.od_document.specs.Size.{size_in_parts}
use Rattle.od_document.specs.declared.sentence.Sentence.{Sentence}
use Rattle.od_index.specs.Postings.{posting_lists}
use Rattle.od_index.specs.Sites.{sentences_in}
use Rattle.od_index.specs.Terms.{Term}
use Rattle.od_posted.specs.Entries.{IsServedBy}
use Rattle.od_text.specs.Lists.{Each}
use Rattle.od_postings.specs.declared.sentence.IdSentence.{IdSentence}
use Rattle.od_segment.specs.Placed.{numbered, site_of, AreServed}
use Rattle.od_segment.proofs.Placing.{all-served, document-few, document-small, numbered-served, sentences-numbered, stands}
use Rattle.od_segment.proofs.segment.Segment.build.Goals as goal

pub post_all-requires-clause-small : goal.post_all-requires-clause-small
post_all-requires-clause-small c =
    let same : map (λ (s : IdSentence). s.sentence) c.deref-2.result.now ≡ c.args.doc.now.sentences =
    ap (map (λ (s : IdSentence). s.sentence)) c.deref-2.ensures.value ∙ c.in_ok-table.ensures.sentences in
    subst (λ (ss : List Sentence). size_in_parts ss < 2 ^ 32) (sym same) (document-small c.args.doc.now)

pub post_all-requires-clause-served : goal.post_all-requires-clause-served
post_all-requires-clause-served c =
    let all = all-served (arc_value c.in_ok-table.field-0.table) c.args.doc.now.sentences c.in_ok-table.field-0.sentences.items
    c.in_ok-table.ensures.table c.in_ok-table.ensures.over c.in_ok-table.ensures.sentences in
    subst (λ (t : List Term). Each (IsServedBy t) c.deref-2.result.now) (sym c.deref.ensures)
    (subst (λ (xs : List IdSentence). Each (IsServedBy (arc_value c.in_ok-table.field-0.table)) xs) (sym c.deref-2.ensures.value) all)

pub place_all-requires-clause-few : goal.place_all-requires-clause-few
place_all-requires-clause-few c =
    let count : length c.in_ok-table.field-0.sentences.items ≡ length c.args.doc.now.sentences = sym (length-map c.in_ok-table.field-0.sentences.items (λ (s : IdSentence). s.sentence)) ∙ ap length c.in_ok-table.ensures.sentences in
    subst (λ n. n < 2 ^ 32) (sym count) (document-few c.args.doc.now)

pub invariant_of-result : goal.invariant_of-result
invariant_of-result c =
    let table = arc_value c.in_ok-table.field-0.table in
    let count : length c.in_ok-table.field-0.sentences.items ≡ length c.args.doc.now.sentences = sym (length-map c.in_ok-table.field-0.sentences.items (λ (s : IdSentence). s.sentence)) ∙ ap length c.in_ok-table.ensures.sentences in
    let sites : map site_of c.in_ok-sentences.sentences.items ≡ numbered c.args.doc.now.sentences = c.in_ok-sentences.ensures.sites ∙ ap numbered c.in_ok-table.ensures.sentences in
    let words : map (λ (s : IdSentence). s.sentence) c.deref-2.result.now ≡ sentences_in (map site_of c.in_ok-sentences.sentences.items) =
    ap (map (λ (s : IdSentence). s.sentence)) c.deref-2.ensures.value ∙ c.in_ok-table.ensures.sentences
    ∙ sym (sentences-numbered 0 c.args.doc.now.sentences) ∙ ap sentences_in (sym sites) in
    record {
      over = c.in_ok-sentences.ensures.over;
      within = c.in_ok-sentences.ensures.within;
      few = subst (λ n. n < 2 ^ 32) (sym (c.in_ok-sentences.ensures.count ∙ count)) (document-few c.args.doc.now);
      served = subst (AreServed table) (sym sites) (numbered-served table c.args.doc.now.sentences c.in_ok-table.ensures.table);
      posted = c.in_ok-lists.ensures ∙ ap₂ (λ (t : List Term) (ss : List Sentence). posting_lists t ss) c.deref.ensures words;
    }

pub returns : goal.returns
returns c =
    stands c.args.doc.now _ refl (c.in_ok-sentences.ensures.sites ∙ ap numbered c.in_ok-table.ensures.sentences) c.in_ok-table.ensures.table
