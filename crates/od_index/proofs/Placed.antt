-- Elements that are put into their places ascend.
use Rattle.std.proofs.Common.{◌≡◌, List, [], ◌∷◌, ◌++◌, refl, sym, ◌∙◌, ap, subst, Ordering, inl, inr}
use Rattle.std.specs.Prelude.{Contains, ◌⊎◌}
use Rattle.std.specs.declared.cmp.Ordering.TheVariants.{Less, Equal, Greater}
use Rattle.std.specs.Ordering.{ordering_reverse}
use Rattle.std.specs.List.{AllByRecursion}
use Rattle.std.specs.List.Sorted.{IsStrictlySortedBy}
use Rattle.std.proofs.lemmas.Map.Keys.{sorted_head, sorted_tail}
use Rattle.od_index.specs.Ascending.{IsAscendingOf, IsExactOrder, put_by, put_in, ascending}
use Rattle.od_index.proofs.Members.{Contains-head, Contains-tail, Contains-cases, Contains-none}

module _ {X : Type 0} (cmp : X → X → Ordering) where
  pub sorted-cons : (x : X) (xs : List X) → AllByRecursion (λ y. cmp x y ≡ Less) xs → IsStrictlySortedBy cmp xs → IsStrictlySortedBy cmp (x ∷ xs)
  unfolding IsStrictlySortedBy
  sorted-cons x xs h k = (h, k)

  pub sorted-nil : IsStrictlySortedBy cmp []
  unfolding IsStrictlySortedBy
  sorted-nil = tt

  all-both : (P : X → Type 0) (xs ys : List X) → AllByRecursion P xs → AllByRecursion P ys → AllByRecursion P (xs ++ ys)
  all-both P [] ys h k = k
  all-both P (x ∷ xs) ys h k = (h.0, all-both P xs ys h.1 k)

  -- ascending lists, of which each element of the first is below each of the second
  pub sorted-append : (xs ys : List X) → IsStrictlySortedBy cmp xs → IsStrictlySortedBy cmp ys → AllByRecursion (λ x. AllByRecursion (λ y. cmp x y ≡ Less) ys) xs → IsStrictlySortedBy cmp (xs ++ ys)
  sorted-append [] ys h k below = k
  sorted-append (x ∷ xs) ys h k below =
      sorted-cons x (xs ++ ys) (all-both (λ y. cmp x y ≡ Less) xs ys (sorted_head cmp x xs h) below.0) (sorted-append xs ys (sorted_tail cmp x xs h) k below.1)

  module _ (exact : IsExactOrder cmp) where
    -- what is below the first is below those behind it
    below-all : (x y : X) (ys : List X) → cmp x y ≡ Less → AllByRecursion (λ z. cmp y z ≡ Less) ys → AllByRecursion (λ z. cmp x z ≡ Less) ys
    below-all x y [] e h = tt
    below-all x y (z ∷ ys) e h = (exact.0.trans x y z e h.0, below-all x y ys e h.1)

    all-by : (P : X → Type 0) (o : Ordering) (x y : X) (ys rest : List X) → P x → P y → AllByRecursion P ys → AllByRecursion P rest → AllByRecursion P (put_by o x y ys rest)
    all-by P Less x y ys rest p q h k = (p, (q, h))
    all-by P Equal x y ys rest p q h k = (q, h)
    all-by P Greater x y ys rest p q h k = (q, k)

    all-put : (P : X → Type 0) (x : X) (ys : List X) → P x → AllByRecursion P ys → AllByRecursion P (put_in cmp x ys)
    all-put P x [] p h = (p, tt)
    all-put P x (y ∷ ys) p h = all-by P (cmp x y) x y ys (put_in cmp x ys) p h.0 h.1 (all-put P x ys p h.1)

    sorted-by : (o : Ordering) (x y : X) (ys : List X) → cmp x y ≡ o → IsStrictlySortedBy cmp (y ∷ ys) → IsStrictlySortedBy cmp (put_in cmp x ys) → IsStrictlySortedBy cmp (put_by o x y ys (put_in cmp x ys))
    sorted-by Less x y ys e h k = sorted-cons x (y ∷ ys) (e, below-all x y ys e (sorted_head cmp y ys h)) h
    sorted-by Equal x y ys e h k = h
    sorted-by Greater x y ys e h k =
        let over : cmp y x ≡ Less = exact.0.antisymm y x ∙ ap ordering_reverse e in
        sorted-cons y (put_in cmp x ys) (all-put (λ z. cmp y z ≡ Less) x ys over (sorted_head cmp y ys h)) k

    sorted-put : (x : X) (ys : List X) → IsStrictlySortedBy cmp ys → IsStrictlySortedBy cmp (put_in cmp x ys)
    sorted-put x [] h = sorted-cons x [] tt h
    sorted-put x (y ∷ ys) h = sorted-by (cmp x y) x y ys refl h (sorted-put x ys (sorted_tail cmp y ys h))

    -- the element is there, and so are those that were; no other is
    self-by : (o : Ordering) (x y : X) (ys rest : List X) → cmp x y ≡ o → Contains rest x → Contains (put_by o x y ys rest) x
    self-by Less x y ys rest e h = Contains-head x (y ∷ ys)
    self-by Equal x y ys rest e h = subst (λ (z : X). Contains (y ∷ ys) z) (sym (exact.1 x y e)) (Contains-head y ys)
    self-by Greater x y ys rest e h = Contains-tail y rest x h

    self-put : (x : X) (ys : List X) → Contains (put_in cmp x ys) x
    self-put x [] = Contains-head x []
    self-put x (y ∷ ys) = self-by (cmp x y) x y ys (put_in cmp x ys) refl (self-put x ys)

    kept-by : (o : Ordering) (x y t : X) (ys rest : List X) → (y ≡ t) ⊎ Contains ys t → (Contains ys t → Contains rest t) → Contains (put_by o x y ys rest) t
    kept-by Less x y t ys rest h k = Contains-tail x (y ∷ ys) t (either h)
      where
        either : (y ≡ t) ⊎ Contains ys t → Contains (y ∷ ys) t
        either (inl e) = subst (λ (z : X). Contains (y ∷ ys) z) e (Contains-head y ys)
        either (inr c) = Contains-tail y ys t c
    kept-by Equal x y t ys rest (inl e) k = subst (λ (z : X). Contains (y ∷ ys) z) e (Contains-head y ys)
    kept-by Equal x y t ys rest (inr c) k = Contains-tail y ys t c
    kept-by Greater x y t ys rest (inl e) k = subst (λ (z : X). Contains (y ∷ rest) z) e (Contains-head y rest)
    kept-by Greater x y t ys rest (inr c) k = Contains-tail y rest t (k c)

    kept-put : (x t : X) (ys : List X) → Contains ys t → Contains (put_in cmp x ys) t
    kept-put x t [] h = absurd (Contains-none t h)
    kept-put x t (y ∷ ys) h = kept-by (cmp x y) x y t ys (put_in cmp x ys) (Contains-cases y ys t h) (kept-put x t ys)

    none-by : (o : Ordering) (x y t : X) (ys rest : List X) → Contains (put_by o x y ys rest) t → (Contains rest t → (x ≡ t) ⊎ Contains ys t) → (x ≡ t) ⊎ Contains (y ∷ ys) t
    none-by Less x y t ys rest h k = Contains-cases x (y ∷ ys) t h
    none-by Equal x y t ys rest h k = inr h
    none-by Greater x y t ys rest h k = from (Contains-cases y rest t h)
      where
        more : (x ≡ t) ⊎ Contains ys t → (x ≡ t) ⊎ Contains (y ∷ ys) t
        more (inl e) = inl e
        more (inr c) = inr (Contains-tail y ys t c)

        from : (y ≡ t) ⊎ Contains rest t → (x ≡ t) ⊎ Contains (y ∷ ys) t
        from (inl e) = inr (subst (λ (z : X). Contains (y ∷ ys) z) e (Contains-head y ys))
        from (inr c) = more (k c)

    none-put : (x t : X) (ys : List X) → Contains (put_in cmp x ys) t → (x ≡ t) ⊎ Contains ys t
    none-put x t [] h = Contains-cases x [] t h
    none-put x t (y ∷ ys) h = none-by (cmp x y) x y t ys (put_in cmp x ys) h (none-put x t ys)

    -- ## Whole lists

    sorted-all : (xs : List X) → IsStrictlySortedBy cmp (ascending cmp xs)
    sorted-all [] = sorted-nil
    sorted-all (x ∷ xs) = sorted-put x (ascending cmp xs) (sorted-all xs)

    all-there : (xs : List X) (t : X) → Contains xs t → Contains (ascending cmp xs) t
    all-there [] t h = absurd (Contains-none t h)
    all-there (x ∷ xs) t h = by (Contains-cases x xs t h) (all-there xs t)
      where
        by : (x ≡ t) ⊎ Contains xs t → (Contains xs t → Contains (ascending cmp xs) t) → Contains (put_in cmp x (ascending cmp xs)) t
        by (inl e) k = subst (λ (z : X). Contains (put_in cmp x (ascending cmp xs)) z) e (self-put x (ascending cmp xs))
        by (inr c) k = kept-put x t (ascending cmp xs) (k c)

    none-more : (xs : List X) (t : X) → Contains (ascending cmp xs) t → Contains xs t
    none-more [] t h = absurd (Contains-none t h)
    none-more (x ∷ xs) t h = by (none-put x t (ascending cmp xs) h) (none-more xs t)
      where
        by : (x ≡ t) ⊎ Contains (ascending cmp xs) t → (Contains (ascending cmp xs) t → Contains xs t) → Contains (x ∷ xs) t
        by (inl e) k = subst (λ (z : X). Contains (x ∷ xs) z) e (Contains-head x xs)
        by (inr c) k = Contains-tail x xs t (k c)

    -- the list that is computed is the ascending one
    pub ascending-is : (xs : List X) → IsAscendingOf cmp xs (ascending cmp xs)
    ascending-is xs = record { ascends = sorted-all xs; has = all-there xs; adds_none = none-more xs }
