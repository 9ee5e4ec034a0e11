-- Lemmas on bytes that are read and written piece by piece.
use Rattle.std.proofs.Common.{◌≡◌, ℕ, ◌+◌, ◌-◌, ◌<◌, ◌≤◌, List, [], ◌++◌, Option, length, take, drop, get_or, min, refl, inl, inr, sym, ap, ◌∙◌, subst, arith, length-append, length-drop}
use Rattle.std.proofs.Math.Seq.{take-add, take-append-add, take-take, length-take-le, take_at, drop-drop}
use Rattle.std.proofs.lemmas.List.{take-append-drop, take-append-le, take_rest, get_or_default, drop_all}
use Rattle.std.proofs.KnownBytes.{Appends-trans, Consumes-trans}
use Rattle.std.specs.Io.KnownBytes.{Appends, Consumes}
use Rattle.std.specs.Prelude.{◌↔◌, IsTrue, false, is_ok, Contains, MatchResult, Result, Ok, Err}
use Rattle.std.specs.Ordering.{nat_cmp}
use Rattle.std.specs.List.Sorted.{IsBinarySearchResult, IsNonDecreasing}
use Rattle.std.proofs.lemmas.List.Sorted.{searched}
use Rattle.std.proofs.lemmas.Bool.{cases_lt}
use borrow.Rule.Slice.PartMut.{put_mid, post_of}

-- the front of a buffer after a write to its part from `at` on
take-filled : (at n k : ℕ) (into piece : List ℕ) → at ≤ length into → n ≤ length piece
    → take (at + n) (put_mid at k into piece) ≡ take at into ++ take n piece
take-filled at n k into piece within fits =
    ap (λ m. take (m + n) (put_mid at k into piece)) (sym (length-take-le at into within))
    ∙ take-append-add (take at into) (piece ++ post_of at k into) n
    ∙ ap (λ l. take at into ++ l) (take-append-le n piece (post_of at k into) fits)

filled-within : (at n k : ℕ) (into piece : List ℕ) → at ≤ length into → n ≤ length piece → at + n ≤ length (put_mid at k into piece)
filled-within at n k into piece within fits =
    omega (arith, length-append (take at into) (piece ++ post_of at k into), length-append piece (post_of at k into), length-take-le at into within)

-- a read into the part of a row from `at` on goes on with what was taken before
pub Consumes-filled : (a b c : Option (List ℕ)) (at n k size : ℕ) (row piece rest : List ℕ) → at ≤ length row → n ≤ length piece → at + n ≤ size
    → Consumes a b (take at row) → Consumes b c (take n piece) → Consumes a c (take (at + n) (take size (put_mid at k row piece ++ rest)))
Consumes-filled a b c at n k size row piece rest within fits small before now =
    let front : take (at + n) (take size (put_mid at k row piece ++ rest)) ≡ take at row ++ take n piece =
    take-take (at + n) size (put_mid at k row piece ++ rest) small
    ∙ take-append-le (at + n) (put_mid at k row piece) rest (filled-within at n k row piece within fits)
    ∙ take-filled at n k row piece within fits in
    subst (Consumes a c) (sym front) (Consumes-trans a b c _ _ before now)

-- a write of what comes from `at` on goes on with what was written before
pub Appends-more : (a b c : Option (List ℕ)) (at n : ℕ) (bytes : List ℕ)
    → Appends a b (take at bytes) → Appends b c (take n (take (length bytes - at) (drop at bytes))) → Appends a c (take (at + n) bytes)
Appends-more a b c at n bytes before now =
    subst (Appends a c) (sym (take-add at n bytes))
    (Appends-trans a b c _ _ before (subst (λ l. Appends b c (take n l)) (take_rest bytes at) now))

pub written-within : (at n : ℕ) (bytes : List ℕ) → at ≤ length bytes → n ≤ length (take (length bytes - at) (drop at bytes)) → at + n ≤ length bytes
written-within at n bytes within fits =
    let rest = rw (take_rest bytes at) at fits in omega (arith, length-drop at bytes)

Contains-at : (xs : List ℕ) (x : ℕ) (r : Result ℕ ℕ)
    → MatchResult r (λ i. (i < length xs) × (get_or xs i 0 ≡ x)) (λ i. (i ≤ length xs) × ((k : ℕ) → k < i → get_or xs k 0 < x) × ((k : ℕ) → i ≤ k → k < length xs → x < get_or xs k 0))
    → IsTrue (is_ok r) ↔ Contains xs x
Contains-at xs x (Ok i) at = ((λ _. (i, at.0, get_or_default xs i x 0 at.0 ∙ at.1)), λ _. refl)
Contains-at xs x (Err i) off = (
  (λ e. absurd (cc)),
  λ (k, inside, at).
      let here : get_or xs k 0 ≡ x = get_or_default xs k 0 x inside ∙ at in
      elim (cases_lt k i) [ inl before ↦ let below = off.1 k before in absurd (omega arith) | inr after ↦ let above = off.2 k after inside in absurd (omega arith) ],
)

-- what a search in an ascending list says of a number
pub Contains-searched : (xs : List ℕ) (x : ℕ) (r : Result ℕ ℕ) → IsBinarySearchResult (λ y. nat_cmp y x) xs r → IsNonDecreasing xs → IsTrue (is_ok r) ↔ Contains xs x
Contains-searched xs x r found ascending = Contains-at xs x r (searched xs x r found (λ i j. ascending i j 0))

-- a number that no element reaches is not in a list
pub Contains-too_large : (xs : List ℕ) (x bound : ℕ) → ((k : ℕ) → get_or xs k 0 < bound) → (x < bound → ⊥) → IsTrue false ↔ Contains xs x
Contains-too_large xs x bound small large = (
  (λ e. absurd (cc)),
  λ (k, inside, at).
      let here : get_or xs k 0 ≡ x = get_or_default xs k 0 x inside ∙ at in let below = small k in absurd (large (omega arith)),
)

copied-front : (rest copied into : List ℕ) (n : ℕ) → copied ≡ take n rest → n ≡ min (length rest) (length into)
    → (rest ≡ take n (copied ++ drop n into) ++ drop n rest) × (n ≡ 0 → 0 < length (copied ++ drop n into) → drop n rest ≡ [])
copied-front rest copied into n is most =
    let within : n ≤ length rest = omega arith in
    let size : length copied ≡ n = ap length is ∙ length-take-le n rest within in (
      sym (take-append-drop n rest) ∙ ap (λ l. l ++ drop n rest) (sym is ∙ sym (take_at copied (drop n into) n size)),
      λ none some. drop_all n rest (omega (arith, length-append copied (drop n into), length-drop n into)),
    )

-- a read from memory: the front of what was left from `at` on was copied, as much as fits
pub Consumes-copied : (left bytes shown copied into : List ℕ) (at n : ℕ) → left ≡ drop at bytes → shown ≡ bytes
    → copied ≡ take n (take (length shown - at) (drop at shown)) → n ≡ min (length (take (length shown - at) (drop at shown))) (length into)
    → (left ≡ take n (copied ++ drop n into) ++ drop (at + n) bytes) × (n ≡ 0 → 0 < length (copied ++ drop n into) → drop (at + n) bytes ≡ [])
Consumes-copied left bytes shown copied into at n is same from most =
    let rest : take (length shown - at) (drop at shown) ≡ drop at bytes = take_rest shown at ∙ ap (drop at) same in
    let on : drop n (drop at bytes) ≡ drop (at + n) bytes = drop-drop n at bytes in
    rw (is, ← on) (copied-front (drop at bytes) copied into n (from ∙ ap (take n) rest) (most ∙ ap (λ l. min (length l) (length into)) rest))
