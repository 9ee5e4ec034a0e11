-- One term more.
use Rattle.std.proofs.Common.{◌≡◌, ◌∙◌, ◌∷◌, [], ◌++◌, List, ℕ, Some, slice_get, take, ◌+◌, ap, sym, subst, rules}
use Rattle.std.specs.Prelude.{Contains}
use Rattle.std.proofs.lemmas.Slice.Zip.{all_zipped_more}
use Rattle.std.specs.List.{AllZip}
use Rattle.od_index.specs.Terms.{Term}
use Rattle.od_index.proofs.Members.{Each-at}
use Rattle.od_postings.specs.Arrivals.{IsPlace, Renumbers}
use Rattle.od_postings.proofs.Lists.{taken_more}
use Rattle.od_postings.proofs.renumbering.numbers_of.Goals as goal

pub known-requires : goal.known-requires
known-requires c = Each-at (Contains c.args.table.now) c.args.old.now c.loop-number.number (c.text-term.result.0, c.text-term.result.1.now) c.requires c.text-term.ensures

pub loop-number-preserved : goal.loop-number-preserved
loop-number-preserved c =
    let i = c.loop-number.number in
    let t : Term = (c.text-term.result.0, c.text-term.result.1.now) in
    let table = c.args.table.now in
    let before = c.loop-number.numbers.items in
    let place : IsPlace table t c.known.result = (c.known.ensures.fits ∙ ap (λ (u : List ℕ). Some (c.text-term.result.0, u)) c.known.ensures.is, c.known.ensures.few) in
    subst (Renumbers (take (i + 1) c.args.old.now) table) (sym c.in_ok-push.ensures.items)
    (subst (λ (ts : List Term). AllZip (IsPlace table) ts (before ++ c.known.result ∷ [])) (sym (taken_more c.args.old.now i t c.text-term.ensures))
    (all_zipped_more (IsPlace table) (take i c.args.old.now) before t c.known.result c.loop-number.invariant place))
