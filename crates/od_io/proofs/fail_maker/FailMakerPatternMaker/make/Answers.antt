use Rattle.std.proofs.Common.{ℕ, List, inl, subst, rules}
use Rattle.std.specs.Prelude.{Contains, IsTrue}
use Rattle.od_io.specs.Failing.{FailingMaker}
use Rattle.od_io.proofs.fail_maker.FailMakerPatternMaker.make.Goals as goal

pub returns-then-is_failing-clause-cause : goal.returns-then-is_failing-clause-cause
returns-then-is_failing-clause-cause g c =
    let yes : IsTrue c.is_listed-is_failing.result = search rules in
    let own = c.self.inside in
    let there : Contains own.failing.items own.calls = subst (λ (calls : List ℕ). Contains calls own.calls) c.deref.ensures.value (c.is_listed-is_failing.ensures.0 yes) in
    λ _. inl (subst (λ (maker : FailingMaker _). Contains maker.failing maker.calls) c.self.view_is there)
