use Rattle.std.proofs.Common.{◌≡◌, ℕ, List, map, subst}
use Rattle.std.specs.Prelude.{IfOk}
use Rattle.od_asked.specs.Texts.{regex_holds}
use Rattle.od_constraint.proofs.RunnerLemmas.{own_at, patterns_stay}
use Rattle.od_constraint.proofs.runners.run_at.Goals as goal

pub returns-clause-truths : goal.returns-clause-truths
returns-clause-truths g c = λ e at.
    subst (λ (p : List ℕ). IfOk c.all.result (λ truths. truths.items ≡ map (regex_holds p) c.args.texts.now))
    (own_at _ c.args.pairs.now c.args.place e c.index-pairs-place.result c.requires.own at) c.all.ensures.truths

pub returns-clause-patterns : goal.returns-clause-patterns
returns-clause-patterns g c = patterns_stay c.args.pairs.now c.args.place c.index-pairs-place.result c.all.new.self
