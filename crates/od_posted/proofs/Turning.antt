-- Labels and the numbers with which they go out, one more at a time.
use Rattle.std.proofs.Common.{◌≡◌, ℕ, zero, suc, ◌+◌, ◌<◌, List, [], ◌∷◌, ◌++◌, length, take, get_or, refl, sym, ◌∙◌, ap, subst, arith, inl, inr, length-append}
use Rattle.std.proofs.lemmas.List.{take_more, get_or_append_left}
use Rattle.std.proofs.Math.Seq.{get_or-append_seam}
use Rattle.std.specs.Prelude.{◌⊎◌, Contains, Option, Some, None, slice_get}
use Rattle.od_index.specs.Tables.{IsNumber}
use Rattle.od_index.specs.Terms.{Term}
use Rattle.od_pattern.specs.declared.pattern.Field.TheVariants.{Outgoing}
use Rattle.od_posted.specs.Turned.{GoOut}

got-more : {X : Type 0} (xs : List X) (x : X) (i : ℕ) (y : X) → slice_get (xs ++ x ∷ []) i ≡ Some y → ((i < length xs) × (slice_get xs i ≡ Some y)) ⊎ ((i ≡ length xs) × (y ≡ x))
got-more [] x zero y at = inr (refl, let p : Some x ≡ Some y = at in cc)
got-more [] x (suc i) y at = absurd (let q : ◌≡◌ {A = Option _} None (Some y) = at in cc)
got-more (z ∷ xs) x zero y at = inl (omega arith, at)
got-more (z ∷ xs) x (suc i) y at = step (got-more xs x i y at)
  where
    step : ((i < length xs) × (slice_get xs i ≡ Some y)) ⊎ ((i ≡ length xs) × (y ≡ x)) → ((suc i < length (z ∷ xs)) × (slice_get xs i ≡ Some y)) ⊎ ((suc i ≡ length (z ∷ xs)) × (y ≡ x))
    step (inl h) = let lt : suc i < length (z ∷ xs) = omega (arith, h.0) in inl (lt, h.1)
    step (inr h) = let e : suc i ≡ length (z ∷ xs) = ap suc h.0 in inr (e, h.1)

out-snoc : (table : List Term) (labels : List (List ℕ)) (numbers : List ℕ) (label : List ℕ) (n : ℕ) → GoOut table labels numbers
    → (Contains table (Outgoing, label) → IsNumber table Outgoing label n) → GoOut table (labels ++ label ∷ []) (numbers ++ n ∷ [])
out-snoc table labels numbers label n was h = record {
  long = length-append numbers (n ∷ []) ∙ ap (λ k. k + 1) was.long ∙ sym (length-append labels (label ∷ []));
  are = λ i l at has. by i l has (got-more labels label i l at);
}
  where
    by : (i : ℕ) (l : List ℕ) → Contains table (Outgoing, l) → ((i < length labels) × (slice_get labels i ≡ Some l)) ⊎ ((i ≡ length labels) × (l ≡ label))
        → IsNumber table Outgoing l (get_or (numbers ++ n ∷ []) i 0)
    by i l has (inl old) =
        let lt : i < length numbers = omega (arith, old.0, was.long) in
        subst (IsNumber table Outgoing l) (sym (get_or_append_left numbers (n ∷ []) 0 i lt)) (was.are i l old.1 has)
    by i l has (inr new) =
        let at : get_or (numbers ++ n ∷ []) i 0 ≡ n = ap (λ k. get_or (numbers ++ n ∷ []) k 0) (new.0 ∙ sym was.long) ∙ get_or-append_seam numbers n [] 0 in
        subst (IsNumber table Outgoing l) (sym at)
        (subst (λ (t : List ℕ). IsNumber table Outgoing t n) (sym new.1) (h (subst (λ (t : List ℕ). Contains table (Outgoing, t)) new.1 has)))

-- a label more
pub out-more : (table : List Term) (labels : List (List ℕ)) (numbers numbers' : List ℕ) (i : ℕ) (label : List ℕ) (n : ℕ) → GoOut table (take i labels) numbers
    → i < length labels → label ≡ get_or labels i label → (Contains table (Outgoing, label) → IsNumber table Outgoing label n) → numbers' ≡ numbers ++ n ∷ []
    → GoOut table (take (i + 1) labels) numbers'
out-more table labels numbers numbers' i label n was lt at h is =
    let ls : take (i + 1) labels ≡ take i labels ++ label ∷ [] = take_more labels i label lt ∙ ap (λ x. take i labels ++ x ∷ []) (sym at) in
    subst (GoOut table (take (i + 1) labels)) (sym is)
    (subst (λ (xs : List (List ℕ)). GoOut table xs (numbers ++ n ∷ [])) (sym ls) (out-snoc table (take i labels) numbers label n was h))
