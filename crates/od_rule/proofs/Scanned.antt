-- The matches of surfaces in a row.
use Rattle.std.proofs.Common.{◌≡◌, ℕ, zero, suc, ◌+◌, ◌<◌, ◌≤◌, Bool, List, [], ◌∷◌, ◌++◌, length, map, take, refl, sym, ◌∙◌, ap, subst, arith, get_or}
use Rattle.std.proofs.lemmas.List.{map-append, take_more}
use Rattle.std.specs.Prelude.{IsSomeAnd, None, Some, slice_get}
use Rattle.std.specs.List.{AllZip}
use Rattle.od_text.specs.Lists.{Each}
use Rattle.od_asked.specs.Asked.{asked_surface}
use Rattle.od_asked.specs.Tables.{RowsFit}
use Rattle.od_document.specs.declared.sentence.Sentence.{Sentence}
use Rattle.od_extraction.specs.declared.mention.Labelled.{Labelled}
use Rattle.od_extraction.specs.declared.mention.Match.{Match}
use Rattle.od_matching.specs.Matching.Scan.{scan_of}
use Rattle.od_pattern.specs.declared.pattern.Surface.{Surface}
use Rattle.od_rule.specs.Codes.{IsPlaced}
use Rattle.od_rule.specs.Finding.{FitEach, scans_of}
use Rattle.od_rule.specs.declared.code.Placed.{Placed}

-- what stands at a place of both lists
zip_at : {A B : Type 0} (R : A → B → Type 0) (xs : List A) (ys : List B) (i : ℕ) (x : A) → AllZip R xs ys → i < length xs → x ≡ get_or xs i x
    → (y : B) × (i < length ys) × ((d : B) → get_or ys i d ≡ y) × R x y
zip_at R [] ys i x zip h e = absurd (omega arith)
zip_at R (a ∷ xs) [] i x zip h e = absurd zip
zip_at R (a ∷ xs) (b ∷ ys) zero x zip h e = (b, omega arith, (λ d. refl), subst (λ z. R z b) (sym e) zip.0)
zip_at R (a ∷ xs) (b ∷ ys) (suc i) x zip h e = let rest = zip_at R xs ys i x zip.1 (omega arith) e in (rest.0, let lt : i < length ys = rest.1 in omega arith, rest.2, rest.3)

pub zip_long : {A B : Type 0} (R : A → B → Type 0) (xs : List A) (ys : List B) → AllZip R xs ys → length xs ≡ length ys
zip_long R [] [] zip = refl
zip_long R [] (b ∷ ys) zip = absurd zip
zip_long R (a ∷ xs) [] zip = absurd zip
zip_long R (a ∷ xs) (b ∷ ys) zip = ap suc (zip_long R xs ys zip.1)

-- what stands at a place of the first list, where this stands in the second
pub zip_get : {A B : Type 0} (R : A → B → Type 0) (xs : List A) (ys : List B) (i : ℕ) (y : B) → AllZip R xs ys → slice_get ys i ≡ Some y → IsSomeAnd (slice_get xs i) (λ x. R x y)
zip_get R [] [] i y zip e = absurd (let no : None ≡ Some y = e in cc)
zip_get R [] (b ∷ ys) i y zip e = absurd zip
zip_get R (a ∷ xs) [] i y zip e = absurd zip
zip_get R (a ∷ xs) (b ∷ ys) zero y zip e = subst (λ z. R a z) (let same : Some b ≡ Some y = e in let here : b ≡ y = cc in here) zip.0
zip_get R (a ∷ xs) (b ∷ ys) (suc i) y zip e = zip_get R xs ys i y zip.1 e

each_at : {A : Type 0} (P : A → Type 0) (xs : List A) (i : ℕ) (x : A) → Each P xs → i < length xs → get_or xs i x ≡ x → P x
each_at P [] i x all h e = absurd (omega arith)
each_at P (a ∷ xs) zero x all h e = subst P e all.0
each_at P (a ∷ xs) (suc i) x all h e = each_at P xs i x all.1 (omega arith) e

take_whole : {A : Type 0} (xs : List A) (n : ℕ) → length xs ≤ n → take n xs ≡ xs
take_whole [] zero h = refl
take_whole [] (suc n) h = refl
take_whole (x ∷ xs) zero h = absurd (omega arith)
take_whole (x ∷ xs) (suc n) h = ap (λ z. x ∷ z) (take_whole xs n (omega arith))

module _ (rows : List (List Bool)) (s : Sentence) (m : List Labelled) (programs : List Placed) (surfaces : List (ℕ × Surface))
    (placed : AllZip IsPlaced programs surfaces) (fit : FitEach rows s surfaces)
  where
    -- the matches of one surface more
    pub scans_more : (i : ℕ) (p : Placed) (found : List Match) (scans : List (List Match)) → i < length programs → p ≡ get_or programs i p
        → ((q : ℕ × Surface) → IsPlaced p q → RowsFit rows s q.0 (asked_surface q.1) → found ≡ scan_of q.1 s m)
        → scans ≡ scans_of s m (take i surfaces) → scans ++ found ∷ [] ≡ scans_of s m (take (i + 1) surfaces)
    scans_more i p found scans h e scanned before =
        let at = zip_at IsPlaced programs surfaces i p placed h e in
        let q : ℕ × Surface = at.0 in
        let here : found ≡ scan_of q.1 s m = scanned q at.3 (each_at (λ (r : ℕ × Surface). RowsFit rows s r.0 (asked_surface r.1)) surfaces i q fit at.1 (at.2 q)) in
        ap (λ z. z ++ found ∷ []) before ∙ ap (λ z. scans_of s m (take i surfaces) ++ z ∷ []) here
        ∙ sym (map-append (λ (r : ℕ × Surface). scan_of r.1 s m) (take i surfaces) (q ∷ []))
        ∙ ap (scans_of s m) (sym (take_more surfaces i q at.1 ∙ ap (λ z. take i surfaces ++ z ∷ []) (at.2 q)))

    -- the matches of all of them
    pub scans_whole : (i : ℕ) (scans : List (List Match)) → length programs ≤ i → scans ≡ scans_of s m (take i surfaces) → scans ≡ scans_of s m surfaces
    scans_whole i scans h e = e ∙ ap (scans_of s m) (take_whole surfaces i (omega (arith, zip_long IsPlaced programs surfaces placed)))

-- the one program of one surface
pub zip_one : {A B : Type 0} (R : A → B → Type 0) (xs : List A) (x : A) (y : B) → AllZip R xs (y ∷ []) → x ≡ get_or xs 0 x → R x y
zip_one R [] x y zip e = absurd zip
zip_one R (a ∷ xs) x y zip e = subst (λ z. R z y) (sym e) zip.0
