-- Sorted and without repeats the sentences ascend.
use Rattle.std.proofs.Common.{ℕ, List, sym, subst}
use Rattle.std.specs.Prelude.{◌==◌}
use Rattle.std.specs.Cmp.{both_tied, unsigned_ties, and_equiv, on_equiv, nat_eq_equiv}
use Rattle.std.specs.Ordering.{nat_cmp}
use Rattle.std.proofs.lemmas.List.Filters.{dedup_is}
use Rattle.od_index.specs.Ascending.{IsAscendingOf, pair_cmp}
use Rattle.od_index.proofs.Orders.{pairs-exact}
use Rattle.od_mentions.proofs.Ascending.{ascending-left}
use Rattle.od_mentions.proofs.state.State.sentences_with.Goals as goal

pub returns : goal.returns
returns c =
    let is = dedup_is _ _ _ c.dedup.ensures.filtered in
    subst (λ (xs : List (ℕ × ℕ)). IsAscendingOf pair_cmp xs c.dedup.new.self.items) c.in_ok-found.ensures
    (subst (λ (ys : List (ℕ × ℕ)). IsAscendingOf pair_cmp c.in_ok-found.found.items ys) (sym is)
    (ascending-left pair_cmp _ pairs-exact (and_equiv (on_equiv (λ (p : ℕ × ℕ). p.0) nat_eq_equiv) (on_equiv (λ (p : ℕ × ℕ). p.1) nat_eq_equiv))
    (λ x y. both_tied (x.0 == y.0) (x.1 == y.1) (nat_cmp x.0 y.0) (nat_cmp x.1 y.1) (unsigned_ties x.0 y.0) (unsigned_ties x.1 y.1))
    c.in_ok-found.found.items c.sort_unstable.new.self.items c.sort_unstable.ensures.permutation c.sort_unstable.ensures.sorted))
