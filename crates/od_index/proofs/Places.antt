-- The places of sentences in segments.
use Rattle.std.proofs.Common.{◌≡◌, ℕ, ◌+◌, List, [], ◌∷◌, ◌++◌, length, map, length-append, slice_get, Some, refl, sym, ap, ap₂, ◌∙◌, append_assoc}
use Rattle.std.specs.Prelude.{option_map}
use Rattle.std.specs.List.{range_with_len}
use Rattle.std.proofs.lemmas.List.{map-append}
use Rattle.od_text.proofs.Lists.{slice_get-append}
use Rattle.od_index.specs.Laws.{EachPlaceHasSite}
use Rattle.od_index.specs.Segments.{Stored, size, sites_after}
use Rattle.od_index.specs.Sites.{later}
use Rattle.od_index.specs.Views.{Place, behind, places, site_from}
use Rattle.od_index.proofs.Numbered.{map-map}

-- the elements of a list, by their places
got : {X : Type 0} (front xs : List X) → map (slice_get (front ++ xs)) (range_with_len (length front) (length xs)) ≡ map Some xs
got front [] = refl
got front (x ∷ xs) =
    let long : length (front ++ x ∷ []) ≡ length front + 1 = length-append front (x ∷ []) in
    ap₂ (λ o os. o ∷ os) (slice_get-append front x xs)
    (ap₂ (λ all n. map (slice_get all) (range_with_len n (length xs))) (sym (append_assoc front (x ∷ []) xs)) (sym long) ∙ got (front ++ x ∷ []) xs)

-- the places of one segment
first-places : (before : ℕ) (s : Stored) (rest : List Stored) → map (λ (p : Place). site_from before (s ∷ rest) p.0 p.1) (map (λ i. (0, i)) (range_with_len 0 (size s))) ≡ map Some (map (later before) s.sites)
first-places before s rest =
    map-map (λ (p : Place). site_from before (s ∷ rest) p.0 p.1) (λ i. (0, i)) (range_with_len 0 (size s))
    ∙ sym (map-map (option_map (later before)) (slice_get s.sites) (range_with_len 0 (size s)))
    ∙ ap (map (option_map (later before))) (got [] s.sites)
    ∙ map-map (option_map (later before)) Some s.sites
    ∙ sym (map-map Some (later before) s.sites)

-- the places of all
places-from : (before : ℕ) (segments : List Stored) → map (λ (p : Place). site_from before segments p.0 p.1) (places segments) ≡ map Some (sites_after before segments)
places-from before [] = refl
places-from before (s ∷ rest) =
    let here = map (λ i. (0, i)) (range_with_len 0 (size s)) in
    map-append (λ (p : Place). site_from before (s ∷ rest) p.0 p.1) here (map behind (places rest))
    ∙ ap₂ (λ xs ys. xs ++ ys) (first-places before s rest) (map-map (λ (p : Place). site_from before (s ∷ rest) p.0 p.1) behind (places rest) ∙ places-from (before + s.documents) rest)
    ∙ sym (map-append Some (map (later before) s.sites) (sites_after (before + s.documents) rest))

pub each-place-has-site : EachPlaceHasSite
each-place-has-site segments = places-from 0 segments
