-- A hop made ready: its surfaces, their rows and their matches.
use Rattle.std.proofs.Common.{◌≡◌, ℕ, ◌+◌, ◌≤◌, Bool, List, [], ◌∷◌, ◌++◌, length, refl, sym, ◌∙◌, ap, subst, arith, length-append, Option, None, Some}
use Rattle.std.proofs.lemmas.List.{length-map}
use Rattle.std.specs.List.{flat_map, AllZip}
use Rattle.od_text.specs.Lists.{Each}
use Rattle.od_asked.proofs.Fits.{fit_left, fit_right_at, table_fits}
use Rattle.od_asked.specs.Asked.{asked_hop, asked_part, asked_path, asked_surface}
use Rattle.od_asked.specs.Tables.{RowsFit, columns_of, truths}
use Rattle.od_document.specs.declared.sentence.Sentence.{Sentence}
use Rattle.od_extraction.specs.declared.mention.Labelled.{Labelled}
use Rattle.od_matching.specs.Matching.Hops.{hop_lists, lists_from, last_of, later_of, first_over, count_where_any, hop_count, most_found}
use Rattle.od_matching.specs.Matching.Scan.{scan_of}
use Rattle.od_pairing.specs.Hop.{hop_scans, part_scans}
use Rattle.od_pattern.specs.declared.pattern.Surface.{Surface}
use Rattle.od_pattern.specs.declared.rule.Body.TheVariants.{Basic}
use Rattle.od_pattern.specs.declared.rule.Hop.{Hop}
use Rattle.od_pattern.specs.declared.rule.HopPart.{HopPart}
use Rattle.od_rule.specs.Codes.{body_surfaces, part_surfaces, IsPlaced}
use Rattle.od_rule.specs.Finding.{FitEach, scans_of}
use Rattle.od_rule.specs.declared.code.Placed.{Placed}

-- the matches of a hop's surfaces are those of its parts
parts_scanned : (s : Sentence) (m : List Labelled) (n : ℕ) (parts : List HopPart) → scans_of s m (part_surfaces n parts) ≡ part_scans s m parts
parts_scanned s m n [] = refl
parts_scanned s m n (part ∷ parts) = ap (λ z. scan_of part.surface s m ∷ z) (parts_scanned s m (n + length (asked_part part)) parts)

pub hop_scanned : (s : Sentence) (m : List Labelled) (h : Hop) → scans_of s m (body_surfaces (Basic h)) ≡ hop_scans h s m
hop_scanned s m h = ap (λ z. scan_of h.first s m ∷ z) (parts_scanned s m (length (asked_surface h.first)) h.rest)

-- the rows of what each surface asks
parts_fit : (rows : List (List Bool)) (s : Sentence) (n : ℕ) (parts : List HopPart) → RowsFit rows s n (flat_map asked_part parts) → FitEach rows s (part_surfaces n parts)
parts_fit rows s n [] fit = tt
parts_fit rows s n (part ∷ parts) fit = (
  fit_right_at rows s n (n + length (asked_path part.path)) (asked_path part.path) (asked_surface part.surface) refl
      (fit_left rows s n (asked_part part) (flat_map asked_part parts) fit),
  parts_fit rows s (n + length (asked_part part)) parts
      (fit_right_at rows s n (n + length (asked_part part)) (asked_part part) (flat_map asked_part parts) refl fit),
)

module _ (h : Hop) (s : Sentence) (rows : List (List Bool)) (is : rows ≡ columns_of s (asked_hop h)) where
  whole : RowsFit rows s 0 (asked_hop h)
  whole = subst (λ (z : List (List Bool)). RowsFit z s 0 (asked_hop h)) (sym is) (table_fits s (asked_hop h))

  -- behind those of the first surface the table has the rows of the further parts
  pub rest_fits : RowsFit rows s (length (asked_surface h.first)) (flat_map asked_part h.rest)
  rest_fits = fit_right_at rows s 0 (length (asked_surface h.first)) (asked_surface h.first) (flat_map asked_part h.rest) (omega arith) whole

  pub hop_fits : FitEach rows s (body_surfaces (Basic h))
  hop_fits = (
    fit_left rows s 0 (asked_surface h.first) (flat_map asked_part h.rest) whole,
    parts_fit rows s (length (asked_surface h.first)) h.rest rest_fits,
  )

-- no surface begins behind the rows
parts_within : (n k : ℕ) (parts : List HopPart) → n + length (flat_map asked_part parts) ≤ k → Each (λ p. p.0 ≤ k) (part_surfaces n parts)
parts_within n k [] h = tt
parts_within n k (part ∷ parts) h =
    let all : length (flat_map asked_part (part ∷ parts)) ≡ length (asked_part part) + length (flat_map asked_part parts) = length-append (asked_part part) (flat_map asked_part parts) in
    let both : length (asked_part part) ≡ length (asked_path part.path) + length (asked_surface part.surface) = length-append (asked_path part.path) (asked_surface part.surface) in (
      omega (arith, all, both, h),
      parts_within (n + length (asked_part part)) k parts (omega (arith, all, h)),
    )

firsts_within : (k : ℕ) (programs : List Placed) (surfaces : List (ℕ × Surface)) → AllZip IsPlaced programs surfaces → Each (λ p. p.0 ≤ k) surfaces → Each (λ placed. placed.first ≤ k) programs
firsts_within k [] [] zip within = tt
firsts_within k [] (q ∷ surfaces) zip within = absurd zip
firsts_within k (p ∷ programs) [] zip within = absurd zip
firsts_within k (p ∷ programs) (q ∷ surfaces) zip within = (
  let same : p.first ≡ q.0 = zip.0.0 in let le : q.0 ≤ k = within.0 in omega (arith, same, le),
  firsts_within k programs surfaces zip.1 within.1,
)

pub hop_within : (h : Hop) (s : Sentence) (rows : List (List Bool)) (programs : List Placed) → rows ≡ columns_of s (asked_hop h)
    → AllZip IsPlaced programs (body_surfaces (Basic h)) → Each (λ placed. placed.first ≤ length rows) programs
hop_within h s rows programs is zip =
    let long : length rows ≡ length (asked_hop h) = ap length is ∙ length-map (asked_hop h) (truths s) in
    let both : length (asked_hop h) ≡ length (asked_surface h.first) + length (flat_map asked_part h.rest) = length-append (asked_surface h.first) (flat_map asked_part h.rest) in
    firsts_within (length rows) programs (body_surfaces (Basic h)) zip
    ((let z : 0 ≤ length rows = omega arith in z), parts_within (length (asked_surface h.first)) (length rows) h.rest (omega (arith, long, both)))

-- ## A hop whose first part matches nowhere

last-none : (s : Sentence) (m : List Labelled) (parts : List HopPart) → last_of (lists_from s m [] parts) ≡ []
last-none s m [] = refl
last-none s m (part ∷ []) = refl
last-none s m (part ∷ next ∷ rest) = last-none s m (next ∷ rest)

count-none : (o : Option ℕ) → count_where_any o [] ≡ None
count-none None = refl
count-none (Some n) = refl

pub nowhere-last : (h : Hop) (s : Sentence) (m : List Labelled) → scan_of h.first s m ≡ [] → last_of (hop_lists h s m) ≡ []
nowhere-last h s m e = ap (λ z. last_of (lists_from s m z h.rest)) e ∙ last-none s m h.rest

pub nowhere-count : (h : Hop) (s : Sentence) (m : List Labelled) → scan_of h.first s m ≡ [] → hop_count most_found (hop_lists h s m) ≡ None
nowhere-count h s m e = ap (count_where_any (first_over most_found (later_of (hop_lists h s m)))) (nowhere-last h s m e) ∙ count-none (first_over most_found (later_of (hop_lists h s m)))
