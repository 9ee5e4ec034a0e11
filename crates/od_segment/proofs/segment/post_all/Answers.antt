-- The lists are those of the table, and each is short enough.
use Rattle.std.proofs.Common.{List, map, sym, ◌∙◌, subst, arith}
use Rattle.std.proofs.lemmas.List.{length-map}
use Rattle.od_text.specs.Lists.{Each}
use Rattle.od_document.specs.declared.sentence.Sentence.{Sentence}
use Rattle.od_index.specs.Postings.{Posting}
use Rattle.od_index.specs.Sentences.{Indexed}
use Rattle.od_packed.specs.PackedLists.{MayBePacked}
use Rattle.od_segment.proofs.Placing.{sentences-few}
use Rattle.od_segment.proofs.Posting.{lists-packable}
use Rattle.od_segment.proofs.segment.post_all.Goals as goal

pub posting_lists-requires-clause-few : goal.posting_lists-requires-clause-few
posting_lists-requires-clause-few c =
    let ss : List Sentence = map (λ (s : Indexed). s.sentence) c.args.sentences.now in
    omega (arith, sentences-few ss, length-map c.args.sentences.now (λ (s : Indexed). s.sentence), c.requires.small)

pub of-requires : goal.of-requires
of-requires c =
    let ss : List Sentence = map (λ (s : Indexed). s.sentence) c.args.sentences.now in
    subst (λ (ls : List (List Posting)). Each MayBePacked ls) (sym (c.deref.ensures.value ∙ c.in_ok-lists.ensures)) (lists-packable c.args.table.now ss c.requires.small)
