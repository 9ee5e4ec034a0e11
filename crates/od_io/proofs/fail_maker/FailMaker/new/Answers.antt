use Rattle.std.proofs.lemmas.List.Sorted.{Contains-permutation, IsNonDecreasingBy-from_sort, IsPermutation-sym}
use Rattle.od_io.proofs.fail_maker.FailMaker.new.Goals as goal

pub invariant_of-result : goal.invariant_of-result
invariant_of-result g c = IsNonDecreasingBy-from_sort (λ x. x) _ c.sort_unstable.ensures.sorted

pub returns-clause-failing : goal.returns-clause-failing
returns-clause-failing g c = λ call. (Contains-permutation _ _ call (IsPermutation-sym _ _ c.sort_unstable.ensures.permutation), Contains-permutation _ _ call c.sort_unstable.ensures.permutation)
