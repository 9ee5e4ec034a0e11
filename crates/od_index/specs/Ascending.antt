-- The different elements of a list, in ascending order.
use Rattle.std.specs.Prelude.{◌≡◌, ℕ, List, [], ◌∷◌, Contains}
use Rattle.std.specs.declared.cmp.Ordering.{Ordering}
use Rattle.std.specs.declared.cmp.Ordering.TheVariants.{Less, Equal, Greater}
use Rattle.std.specs.Cmp.{IsTotalOrder}
use Rattle.std.specs.Ordering.{ordering_then, nat_cmp}
use Rattle.std.specs.List.Sorted.{IsStrictlySortedBy}

-- each of them is below those after it, and they are exactly the elements of the list
pub record IsAscendingOf {X : Type 0} (cmp : X → X → Ordering) (xs set : List X) : Type 0 where
  pub ascends : IsStrictlySortedBy cmp set
  pub has : (x : X) → Contains xs x → Contains set x
  pub adds_none : (x : X) → Contains set x → Contains xs x

-- a total order in which only an element itself is alike
abbrev pub IsExactOrder : {X : Type 0} → (X → X → Ordering) → Type 0
IsExactOrder {X} cmp = IsTotalOrder cmp × ((x y : X) → cmp x y ≡ Equal → x ≡ y)

-- pairs of numbers, by the first and then by the second
abbrev pub pair_cmp : ℕ × ℕ → ℕ × ℕ → Ordering
pair_cmp a b = ordering_then (nat_cmp a.0 b.0) (nat_cmp a.1 b.1)

-- an element below the first of some, alike, or above it; `rest` has it among those behind the first
abbrev pub put_by : {X : Type 0} → Ordering → X → X → List X → List X → List X
put_by Less x y ys rest = x ∷ y ∷ ys
put_by Equal x y ys rest = y ∷ ys
put_by Greater x y ys rest = y ∷ rest

-- ascending elements with one more at its place, unless it is there
abbrev pub put_in : {X : Type 0} → (X → X → Ordering) → X → List X → List X
put_in cmp x [] = x ∷ []
put_in cmp x (y ∷ ys) = put_by (cmp x y) x y ys (put_in cmp x ys)

-- the different elements of a list, put in place one after another
abbrev pub ascending : {X : Type 0} → (X → X → Ordering) → List X → List X
ascending cmp [] = []
ascending cmp (x ∷ xs) = put_in cmp x (ascending cmp xs)
