-- One sentence more.
use Rattle.std.proofs.Common.{◌≡◌, ◌∷◌, [], ◌++◌, List, refl, sym, subst, arith}
use Rattle.std.specs.Arc.{arc_value}
use Rattle.od_document.specs.Reading.{shown}
use Rattle.od_index.specs.Terms.{Term}
use Rattle.od_index.proofs.Members.{Each-at}
use Rattle.od_text.specs.Lists.{Each}
use Rattle.od_text.proofs.Lists.{Each-append}
use Rattle.od_postings.specs.Arrivals.{drafted, DraftFits}
use Rattle.od_postings.specs.Seen.{terms_seen}
use Rattle.od_postings.specs.declared.sentence.IdSentence.{IdSentence}
use Rattle.od_postings.proofs.Arriving.{more-drafted}
use Rattle.od_postings.proofs.NewNumbers.{same-at}
use Rattle.od_postings.proofs.indexing.renumber_all.Goals as goal

pub renumber_sentence-requires : goal.renumber_sentence-requires
renumber_sentence-requires c =
    let came = terms_seen c.args._came.now in
    let i = c.loop-place.place in
    let d = c.draft_at-draft.result.now in (
      came,
      c.requires.numbers,
      Each-at (DraftFits came) c.args.drafts.now i d c.requires.fits c.draft_at-draft.ensures,
      same-at (drafted came) shown c.args.drafts.now c.args.sentences.now i d c.index-sentences-place.result c.requires.are c.draft_at-draft.ensures c.loop-place-test.true c.index-sentences-place.is,
    )

pub loop-place-preserved : goal.loop-place-preserved
loop-place-preserved c =
    let table = arc_value c.args.table.now in
    let before = c.loop-place.all.items in
    let one = c.in_ok-one.one in
    let pushed : c.push.new.self.items ≡ before ++ one ∷ [] = c.in_ok-push.ensures.items in
    record {
      sentences = more-drafted (λ s. s.sentence) (λ s. s.sentence) c.args.sentences.now c.push.new.self.items before c.loop-place.place one c.index-sentences-place.result pushed refl c.loop-place.invariant.sentences c.loop-place-test.true c.index-sentences-place.is c.in_ok-one.ensures.sentence;
      over = subst (Each (λ s. s.table ≡ table)) (sym pushed) (Each-append (λ s. s.table ≡ table) before (one ∷ []) c.loop-place.invariant.over (c.in_ok-one.ensures.table, tt));
    }
