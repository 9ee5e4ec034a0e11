-- Sorted elements without repeats.
use Rattle.std.proofs.Common.{◌≡◌, List, Bool, true, Ordering, Less, Equal, Greater, refl, sym, ◌∙◌}
use Rattle.std.specs.Cmp.{IsEquivalence}
use Rattle.std.specs.List.{dedup}
use Rattle.std.specs.List.Sorted.{IsSorted, IsPermutation}
use Rattle.std.specs.Ordering.{eq_by_cmp, is_eq}
use Rattle.std.proofs.lemmas.List.Kept.{IsStrictlySortedBy-dedup, Contains-dedup, Contains-from_dedup}
use Rattle.std.proofs.lemmas.List.Sorted.{Contains-permutation, IsPermutation-sym}
use Rattle.od_index.specs.Ascending.{IsAscendingOf, IsExactOrder}

equal-from : (o : Ordering) → is_eq o ≡ true → o ≡ Equal
equal-from Less h = absurd (cc)
equal-from Equal h = refl
equal-from Greater h = absurd (cc)

-- what is left of sorted elements are the different ones of the list, ascending
pub ascending-left : {X : Type 0} (cmp : X → X → Ordering) (same : X → X → Bool) → IsExactOrder cmp → IsEquivalence same → ((x y : X) → same x y ≡ eq_by_cmp cmp x y)
    → (xs sorted : List X) → IsPermutation xs sorted → IsSorted cmp sorted → IsAscendingOf cmp xs (dedup same sorted)
ascending-left cmp same exact alike ties xs sorted moved s = record {
  ascends = IsStrictlySortedBy-dedup exact.0 ties sorted s;
  has = λ x c. Contains-dedup alike (λ y z e. exact.1 y z (equal-from (cmp y z) (sym (ties y z) ∙ e))) sorted x (Contains-permutation xs sorted x moved c);
  adds_none = λ x c. Contains-permutation sorted xs x (IsPermutation-sym xs sorted moved) (Contains-from_dedup same sorted x c);
}
