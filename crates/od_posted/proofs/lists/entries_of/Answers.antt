use Rattle.std.proofs.Common.{◌≡◌, ◌<◌, ◌++◌, ℕ, List, length, map, refl, sym, ap, ap₂, ◌∙◌, subst}
use Rattle.std.proofs.lemmas.Option.{slice_get_read, slice_get-map}
use Rattle.std.specs.Prelude.{Some, slice_get, slice_index_or, option_map}
use Rattle.od_document.specs.declared.sentence.Sentence.{Sentence}
use Rattle.od_index.proofs.Members.{Each-at}
use Rattle.od_index.specs.Sentences.{Indexed}
use Rattle.od_index.specs.Terms.{Term}
use Rattle.od_posted.specs.Entries.{IsServedBy, marks_of, sentence_marks}
use Rattle.od_posted.specs.Turned.{AreTurned}
use Rattle.od_posted.proofs.Marked.{flat-next}
use Rattle.od_posted.proofs.lists.entries_of.Goals as goal

at-place : (xs : List Indexed) (i : ℕ) (x : Indexed) → i < length xs → x ≡ slice_index_or xs i x → slice_get xs i ≡ Some x
at-place xs i x h is = slice_get_read xs (length xs) i x refl h is

pub new-at-requires-clause-labels : goal.new-at-requires-clause-labels
new-at-requires-clause-labels c =
    let s = c.index-sentences-place.result in
    let at = at-place c.args.sentences.now c.loop-place.place s c.loop-place-test.true c.index-sentences-place.is in
    let served = Each-at (IsServedBy c.args._table.now) c.args.sentences.now c.loop-place.place s c.requires.served at in
    subst (λ (t : List Term). AreTurned t c.args.turned.now.first c.args.turned.now.numbers.items) (sym served.over) c.requires.labels

pub loop-place-preserved : goal.loop-place-preserved
loop-place-preserved c =
    let s = c.index-sentences-place.result in
    let k = c.loop-place.place in
    let table = c.args._table.now in
    let ss : List Sentence = map (λ (x : Indexed). x.sentence) c.args.sentences.now in
    let at = at-place c.args.sentences.now k s c.loop-place-test.true c.index-sentences-place.is in
    let served = Each-at (IsServedBy table) c.args.sentences.now k s c.requires.served at in
    let same : c.new-at.result.table ≡ table = c.new-at.ensures.table ∙ served.over in
    let there : slice_get ss k ≡ Some s.sentence = slice_get-map (λ (x : Indexed). x.sentence) c.args.sentences.now k ∙ ap (option_map (λ (x : Indexed). x.sentence)) at in
    let put : marks_of table c.put_sentence.new.entries.items ≡ marks_of table c.loop-place.entries.items ++ sentence_marks (c.new-at.result.number, c.new-at.result.sentence) =
    subst (λ (t : List Term). marks_of t c.put_sentence.new.entries.items ≡ marks_of t c.loop-place.entries.items ++ sentence_marks (c.new-at.result.number, c.new-at.result.sentence)) same c.in_ok-put_sentence.ensures in
    put
    ∙ ap₂ (λ (n : ℕ) (w : Sentence). marks_of table c.loop-place.entries.items ++ sentence_marks (n, w)) c.new-at.ensures.number c.new-at.ensures.sentence
    ∙ ap (λ m. m ++ sentence_marks (k, s.sentence)) c.loop-place.invariant
    ∙ sym (flat-next sentence_marks ss k s.sentence there)
