use Rattle.std.proofs.Common.{◌≡◌, ◌≤◌, ℕ, List, [], ◌∷◌, sym, subst, ap, ◌∙◌, rules, arith}
use Rattle.std.specs.Prelude.{Contains, IfOk}
use Rattle.std.specs.List.{flat_map}
use Rattle.std.proofs.lemmas.Result.{IfOk-weaker}
use Rattle.od_text.specs.Lists.{Each}
use Rattle.od_asked.specs.Expressions.{expression_of}
use Rattle.od_constraint.specs.Runners.{patterns_of, HaveAll}
use Rattle.od_need.specs.declared.need.Need as need
use Rattle.od_need.specs.declared.need.Need.{Need}
use Rattle.od_need.specs.Expressions.{expressions_needed}
use Rattle.od_plan.specs.Means.{Means, MeansAll, MeansAny}
use Rattle.od_plan.specs.declared.wanted.Wanted as want
use Rattle.od_plan.specs.declared.wanted.Wanted.{Wanted}
use Rattle.od_resolve.proofs.Meaning.{means-true, means-term, means-regex, means-label, means-and, means-or, nowhere-all, everywhere-any, expressions-and, expressions-or, expressions-regex, expressions-edge, each-at, item-there}
use Rattle.od_resolve.proofs.Sizes.{need_size, sizes, size-and, size-or, size-at}
use Rattle.od_resolve.proofs.resolving.+need.Goals as goal

pub resolve_all-resolve_need-requires : goal.resolve_all-resolve_need-requires
resolve_all-resolve_need-requires g t c =
    let has : HaveAll c.loop-need.runners (expressions_needed c.need-item.result) =
    subst (λ (ps : List (List ℕ)). Each (Contains ps) (expressions_needed c.need-item.result)) (sym c.loop-need.invariant.patterns)
    (each-at (Contains (patterns_of c.args.runners.now)) expressions_needed c.args.needs.now c.loop-need.need-index c.need-item.result (item-there c.args.needs.now c.loop-need.need-index c.need-item.result (omega (arith, c.loop-need-test.true)) c.need-item.is) c.requires.has) in
    let deep : need_size c.need-item.result ≤ sizes c.args.needs.now =
    subst (λ (n : Need). need_size n ≤ sizes c.args.needs.now) (sym c.need-item.is) (size-at c.args.needs.now c.loop-need.need-index c.need-item.result (omega (arith, c.loop-need-test.true))) in
    λ κs sub. (omega (arith, deep, c.decreases), (sub, (c.loop-need.invariant.own, has)))

pub resolve_any-resolve_need-requires : goal.resolve_any-resolve_need-requires
resolve_any-resolve_need-requires g t c =
    let has : HaveAll c.loop-need.runners (expressions_needed c.need-item.result) =
    subst (λ (ps : List (List ℕ)). Each (Contains ps) (expressions_needed c.need-item.result)) (sym c.loop-need.invariant.patterns)
    (each-at (Contains (patterns_of c.args.runners.now)) expressions_needed c.args.needs.now c.loop-need.need-index c.need-item.result (item-there c.args.needs.now c.loop-need.need-index c.need-item.result (omega (arith, c.loop-need-test.true)) c.need-item.is) c.requires.has) in
    let deep : need_size c.need-item.result ≤ sizes c.args.needs.now =
    subst (λ (n : Need). need_size n ≤ sizes c.args.needs.now) (sym c.need-item.is) (size-at c.args.needs.now c.loop-need.need-index c.need-item.result (omega (arith, c.loop-need-test.true))) in
    λ κs sub. (omega (arith, deep, c.decreases), (sub, (c.loop-need.invariant.own, has)))

pub resolve_all-returns-in-Nowhere-clause-means : goal.resolve_all-returns-in-Nowhere-clause-means
resolve_all-returns-in-Nowhere-clause-means g t c =
    let table = c.args.table.now in
    nowhere-all table c.args.needs.now c.loop-need.need-index c.need-item.result (item-there c.args.needs.now c.loop-need.need-index c.need-item.result (omega (arith, c.loop-need-test.true)) c.need-item.is)
    (subst (λ (w : Wanted). Means table c.need-item.result w) c.in-Nowhere.is c.in_ok-part.ensures.means)

pub resolve_any-returns-in-Everywhere-clause-means : goal.resolve_any-returns-in-Everywhere-clause-means
resolve_any-returns-in-Everywhere-clause-means g t c =
    let table = c.args.table.now in
    everywhere-any table c.args.needs.now c.loop-need.need-index c.need-item.result (item-there c.args.needs.now c.loop-need.need-index c.need-item.result (omega (arith, c.loop-need-test.true)) c.need-item.is)
    (subst (λ (w : Wanted). Means table c.need-item.result w) c.in-Everywhere.is c.in_ok-part.ensures.means)

pub resolve_need-numbers_matching-requires-clause-has : goal.resolve_need-numbers_matching-requires-clause-has
resolve_need-numbers_matching-requires-clause-has g t c =
    let has : HaveAll c.args.runners.now (c.in-Regex.expression ∷ []) =
    subst (HaveAll c.args.runners.now) (ap expressions_needed c.in-Regex.is ∙ expressions-regex c.in-Regex.field c.in-Regex.expression) c.requires.has in
    has.0

pub resolve_need-resolve_edge-requires-clause-has : goal.resolve_need-resolve_edge-requires-clause-has
resolve_need-resolve_edge-requires-clause-has g t c =
    subst (HaveAll c.args.runners.now) (ap expressions_needed c.in-Edge.is ∙ expressions-edge c.in-Edge.value) c.requires.has

pub resolve_need-resolve_all-requires : goal.resolve_need-resolve_all-requires
resolve_need-resolve_all-requires g t c =
    let has : HaveAll c.args.runners.now (flat_map expressions_needed c.get.result.now) =
    subst (HaveAll c.args.runners.now) (ap expressions_needed c.in-And.is ∙ expressions-and c.in-And.needs ∙ ap (flat_map expressions_needed) (sym c.get.ensures)) c.requires.has in
    λ κs sub. (omega (arith, c.decreases, ap need_size c.in-And.is ∙ size-and c.in-And.needs, ap sizes c.get.ensures), (sub, (c.requires.own, has)))

pub resolve_need-resolve_any-requires : goal.resolve_need-resolve_any-requires
resolve_need-resolve_any-requires g t c =
    let has : HaveAll c.args.runners.now (flat_map expressions_needed c.get-in-Or.result.now) =
    subst (HaveAll c.args.runners.now) (ap expressions_needed c.in-Or.is ∙ expressions-or c.in-Or.needs ∙ ap (flat_map expressions_needed) (sym c.get-in-Or.ensures)) c.requires.has in
    λ κs sub. (omega (arith, c.decreases, ap need_size c.in-Or.is ∙ size-or c.in-Or.needs, ap sizes c.get-in-Or.ensures), (sub, (c.requires.own, has)))

pub resolve_need-returns-in-True-clause-means : goal.resolve_need-returns-in-True-clause-means
resolve_need-returns-in-True-clause-means g t c =
    subst (λ (n : Need). Means c.args.table.now n want.Everywhere) (sym c.in-True.is) (means-true c.args.table.now)

pub resolve_need-returns-in_ok-numbers-in-Term-clause-means : goal.resolve_need-returns-in_ok-numbers-in-Term-clause-means
resolve_need-returns-in_ok-numbers-in-Term-clause-means g t c =
    let table = c.args.table.now in
    subst (λ (n : Need). Means table n c.one_of.result) (sym c.in-Term.is)
    (means-term table c.in-Term.field c.in-Term.text c.in_ok-numbers-in-Term.numbers.items c.one_of.result c.in_ok-numbers-in-Term.ensures c.one_of.ensures)

pub resolve_need-returns-in_ok-numbers-in-Regex-clause-means : goal.resolve_need-returns-in_ok-numbers-in-Regex-clause-means
resolve_need-returns-in_ok-numbers-in-Regex-clause-means g t c =
    let table = c.args.table.now in
    subst (λ (n : Need). Means table n c.one_of-in-Regex.result) (sym c.in-Regex.is)
    (means-regex table c.in-Regex.field c.in-Regex.expression c.in_ok-numbers-in-Regex.numbers.items c.one_of-in-Regex.result c.in_ok-numbers-in-Regex.ensures.numbers c.one_of-in-Regex.ensures)

pub resolve_need-returns-in_ok-copy-in-Label-clause-means : goal.resolve_need-returns-in_ok-copy-in-Label-clause-means
resolve_need-returns-in_ok-copy-in-Label-clause-means g t c =
    let table = c.args.table.now in
    let name : c.in_ok-copy-in-Label.field-0 ≡ c.in-Label.name = c.in_ok-copy-in-Label.ensures in
    subst (λ (n : Need). Means table n (want.Label c.in_ok-copy-in-Label.field-0)) (sym c.in-Label.is)
    (subst (λ (x : List ℕ). Means table (need.Label x) (want.Label c.in_ok-copy-in-Label.field-0)) name (means-label table c.in_ok-copy-in-Label.field-0))

pub resolve_need-returns-in-And-clause-means : goal.resolve_need-returns-in-And-clause-means
resolve_need-returns-in-And-clause-means g t c =
    let table = c.args.table.now in
    IfOk-weaker c.resolve_all.result _ _ (λ w h. subst (λ (n : Need). Means table n w) (sym c.in-And.is)
    (means-and table c.in-And.needs w (subst (λ (ns : List Need). MeansAll table ns w) c.get.ensures h))) c.resolve_all.ensures.means

pub resolve_need-returns-in-Or-clause-means : goal.resolve_need-returns-in-Or-clause-means
resolve_need-returns-in-Or-clause-means g t c =
    let table = c.args.table.now in
    IfOk-weaker c.resolve_any.result _ _ (λ w h. subst (λ (n : Need). Means table n w) (sym c.in-Or.is)
    (means-or table c.in-Or.needs w (subst (λ (ns : List Need). MeansAny table ns w) c.get-in-Or.ensures h))) c.resolve_any.ensures.means
