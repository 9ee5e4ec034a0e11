-- Segments that tile documents.
use Rattle.std.proofs.Common.{◌≡◌, ℕ, zero, suc, ◌+◌, ◌≤◌, List, [], ◌∷◌, ◌++◌, length, take, drop, map, filter, sum_by, Bool, true, false, cond, refl, sym, ap, ap₂, ◌∙◌, subst, arith, take-append-drop, take-add, drop-drop, take_all, length-append, length-take}
use Rattle.std.specs.Prelude.{nat_lt}
use Rattle.std.specs.List.{enumerate_from}
use Rattle.std.proofs.lemmas.Bool.{lt-ltb, le-ltb}
use Rattle.std.proofs.lemmas.List.{length-map, drop_all, take-append-le, drop-append-le}
use Rattle.std.proofs.lemmas.List.Elements.{filter-append}
use Rattle.std.proofs.lemmas.List.Sums.{sum_by-cons}
use Rattle.od_document.specs.declared.doc.Doc.{Doc}
use Rattle.od_document.specs.declared.sentence.Sentence.{Sentence}
use Rattle.od_index.specs.Sites.{Site, sites_of, sites_from, later}
use Rattle.od_index.specs.Segments.{Stored, StandsFor, Tiles, size, sites_after, merged}
use Rattle.od_index.specs.Laws.{TilesHaveAll, SizesSum, FirstAreSeen, TilesGrow, TilesMerge}
use Rattle.od_index.proofs.Numbered.{sites-moved, sites-append}
use Rattle.od_index.proofs.Segments.{merged-stands}

-- ## All sentences

pub after-tiled : (k : ℕ) (segments : List Stored) (docs : List Doc) → Tiles segments docs → sites_after k segments ≡ sites_from k docs
after-tiled k [] docs t = sym (ap (sites_from k) t)
after-tiled k (s ∷ rest) docs t =
    let front = take s.documents docs in
    let behind = drop s.documents docs in
    let none : k + 0 ≡ k = omega arith in
    let here : map (later k) s.sites ≡ sites_from k front = ap (map (later k)) t.0.sentences ∙ sites-moved k 0 front ∙ ap (λ n. sites_from n front) none in
    let long : k + s.documents ≡ k + length front = ap (λ n. k + n) t.0.count in
    ap₂ (λ xs ys. xs ++ ys) here (after-tiled (k + s.documents) rest behind t.1 ∙ ap (λ n. sites_from n behind) long)
    ∙ sym (sites-append k front behind)
    ∙ ap (sites_from k) (take-append-drop s.documents docs)

pub tiles-have-all : TilesHaveAll
tiles-have-all segments docs t = after-tiled 0 segments docs t

-- ## Sizes

length-after : (k : ℕ) (segments : List Stored) → length (sites_after k segments) ≡ sum_by size segments
length-after k [] = refl
length-after k (s ∷ rest) =
    length-append (map (later k) s.sites) (sites_after (k + s.documents) rest)
    ∙ ap₂ (λ m n. m + n) (length-map s.sites (later k)) (length-after (k + s.documents) rest)
    ∙ sym (sum_by-cons size s rest)

length-numbered : {X Y : Type 0} (f : ℕ × X → Y) (n : ℕ) (xs : List X) → length (map f (enumerate_from n xs)) ≡ length xs
length-numbered f n [] = refl
length-numbered f n (x ∷ xs) = ap suc (length-numbered f (n + 1) xs)

pub length-sites : (k : ℕ) (docs : List Doc) → length (sites_from k docs) ≡ sum_by (λ doc. length doc.sentences) docs
length-sites k [] = refl
length-sites k (d ∷ docs) =
    length-append (sites_of (k, d)) (sites_from (k + 1) docs)
    ∙ ap₂ (λ m n. m + n) (length-numbered (λ (s : ℕ × Sentence). record { document = k; number = s.0; words = s.1 }) 0 d.sentences) (length-sites (k + 1) docs)
    ∙ sym (sum_by-cons (λ (doc : Doc). length doc.sentences) d docs)

pub sizes-sum : SizesSum
sizes-sum segments docs t = sym (length-after 0 segments) ∙ ap length (tiles-have-all segments docs t) ∙ length-sites 0 docs

-- ## The first documents

seen-sentences : (n k m : ℕ) (b : Bool) → nat_lt k n ≡ b → (ss : List Sentence)
    → filter (λ (site : Site). nat_lt site.document n) (map (λ (s : ℕ × Sentence). record { document = k; number = s.0; words = s.1 }) (enumerate_from m ss))
    ≡ cond b (map (λ (s : ℕ × Sentence). record { document = k; number = s.0; words = s.1 }) (enumerate_from m ss)) []
seen-sentences n k m true e [] = refl
seen-sentences n k m false e [] = refl
seen-sentences n k m true e (s ∷ ss) = ap₂ (λ b xs. cond b (record { document = k; number = m; words = s } ∷ xs) xs) e (seen-sentences n k (m + 1) true e ss)
seen-sentences n k m false e (s ∷ ss) = ap₂ (λ b xs. cond b (record { document = k; number = m; words = s } ∷ xs) xs) e (seen-sentences n k (m + 1) false e ss)

seen-none : (n k : ℕ) (docs : List Doc) → n ≤ k → filter (λ (site : Site). nat_lt site.document n) (sites_from k docs) ≡ []
seen-none n k [] h = refl
seen-none n k (d ∷ docs) h =
    filter-append (λ (site : Site). nat_lt site.document n) (sites_of (k, d)) (sites_from (k + 1) docs)
    ∙ ap₂ (λ xs ys. xs ++ ys) (seen-sentences n k 0 false (le-ltb k n h) d.sentences) (seen-none n (k + 1) docs (omega (arith, h)))

seen-first : (n k j : ℕ) (docs : List Doc) → n ≡ k + j → filter (λ (site : Site). nat_lt site.document n) (sites_from k docs) ≡ sites_from k (take j docs)
seen-first n k zero docs e = seen-none n k docs (omega (arith, e))
seen-first n k (suc j) [] e = refl
seen-first n k (suc j) (d ∷ docs) e =
    filter-append (λ (site : Site). nat_lt site.document n) (sites_of (k, d)) (sites_from (k + 1) docs)
    ∙ ap₂ (λ xs ys. xs ++ ys) (seen-sentences n k 0 true (lt-ltb k n (omega (arith, e))) d.sentences) (seen-first n (k + 1) j docs (omega (arith, e)))

pub first-seen : FirstAreSeen
first-seen v docs t =
    ap (filter (λ (site : Site). nat_lt site.document v.documents)) (tiles-have-all v.segments docs t)
    ∙ seen-first v.documents 0 v.documents docs (omega arith)

-- ## A segment more

-- a segment has no more documents than there are
fits-in : {X : Type 0} (n : ℕ) (xs : List X) → n ≡ length (take n xs) → n ≤ length xs
fits-in n xs e = omega (arith, e, length-take n xs)

pub tiles-grow : TilesGrow
tiles-grow [] docs more s t p =
    let all : more ≡ docs ++ more = ap (λ (ds : List Doc). ds ++ more) (sym t) in
    let count : length (docs ++ more) ≤ s.documents = omega (arith, p.count, ap length all) in
    (subst (λ (ds : List Doc). StandsFor ds s) (all ∙ sym (take_all s.documents (docs ++ more) count)) p, drop_all s.documents (docs ++ more) count)
tiles-grow (x ∷ rest) docs more s t p =
    let h : x.documents ≤ length docs = fits-in x.documents docs t.0.count in (
      subst (λ (ds : List Doc). StandsFor ds x) (sym (take-append-le x.documents docs more h)) t.0,
      subst (λ (ds : List Doc). Tiles (rest ++ s ∷ []) ds) (sym (drop-append-le x.documents docs more h)) (tiles-grow rest (drop x.documents docs) more s t.1 p),
    )

-- ## Neighbours as one

pub tiles-merge : TilesMerge
tiles-merge [] behind left right table docs t p =
    let both : take (left.documents + right.documents) docs ≡ take left.documents docs ++ take right.documents (drop left.documents docs) =
    take-add left.documents right.documents docs in
    let stands : StandsFor (take left.documents docs ++ take right.documents (drop left.documents docs)) (merged left right table) =
    merged-stands (take left.documents docs) (take right.documents (drop left.documents docs)) left right table t.0 t.1.0 p in (
      subst (λ (ds : List Doc). StandsFor ds (merged left right table)) (sym both) stands,
      subst (Tiles behind) (drop-drop right.documents left.documents docs) t.1.1,
    )
tiles-merge (s ∷ before) behind left right table docs t p = (t.0, tiles-merge before behind left right table (drop s.documents docs) t.1 p)
