-- What numbered elements give, one after another.
use Rattle.std.proofs.Common.{◌≡◌, ℕ, suc, ◌+◌, List, [], ◌∷◌, ◌++◌, length, map, flat_map, refl, sym, ap, ap₂, ◌∙◌, arith, append_assoc}
use Rattle.std.specs.List.{enumerate_from}
use Rattle.std.proofs.lemmas.List.{map-append}
use Rattle.od_document.specs.declared.doc.Doc.{Doc}
use Rattle.od_document.specs.declared.token.Token.{Token}
use Rattle.od_document.specs.declared.token.Edge.{Edge}
use Rattle.od_index.specs.Sites.{Site, sites_of, sites_from, later, sentences_in}
use Rattle.od_index.specs.Postings.{shifted, postings_in, edges_in, ends_number}
use Rattle.od_index.specs.Laws.{SitesJoin, PostingsJoin, EdgesJoin}

pub map-map : {X Y Z : Type 0} (g : Y → Z) (f : X → Y) (xs : List X) → map g (map f xs) ≡ map (λ x. g (f x)) xs
map-map g f [] = refl
map-map g f (x ∷ xs) = ap (λ ys. g (f x) ∷ ys) (map-map g f xs)

module _ {X Y : Type 0} (give : ℕ × X → List Y) where
  -- what elements from number n on give
  abbrev pub given : ℕ → List X → List Y
  given n xs = flat_map give (enumerate_from n xs)

  pub given-append : (n : ℕ) (a b : List X) → given n (a ++ b) ≡ given n a ++ given (n + length a) b
  given-append n [] b = let e : n ≡ n + 0 = omega arith in ap (λ k. given k b) e
  given-append n (x ∷ a) b =
      let e : n + 1 + length a ≡ n + suc (length a) = omega arith in
      ap (λ ys. give (n, x) ++ ys) (given-append (n + 1) a b ∙ ap (λ k. given (n + 1) a ++ given k b) e)
      ∙ sym (append_assoc (give (n, x)) (given (n + 1) a) (given (n + suc (length a)) b))

  -- with k elements more before them
  module _ (move : ℕ → Y → Y) (moves : (k i : ℕ) (x : X) → map (move k) (give (i, x)) ≡ give (k + i, x)) where
    pub given-moved : (k n : ℕ) (xs : List X) → map (move k) (given n xs) ≡ given (k + n) xs
    given-moved k n [] = refl
    given-moved k n (x ∷ xs) =
        let e : k + (n + 1) ≡ k + n + 1 = omega arith in
        map-append (move k) (give (n, x)) (given (n + 1) xs)
        ∙ ap₂ (λ ys zs. ys ++ zs) (moves k n x) (given-moved k (n + 1) xs ∙ ap (λ j. given j xs) e)

    pub given-join : (a b : List X) → given 0 (a ++ b) ≡ given 0 a ++ map (move (length a)) (given 0 b)
    given-join a b =
        let e : 0 + length a ≡ length a + 0 = omega arith in
        given-append 0 a b ∙ ap (λ ys. given 0 a ++ ys) (ap (λ k. given k b) e ∙ sym (given-moved (length a) 0 b))

-- ## Sentences of documents

sites-move : (k i : ℕ) (doc : Doc) → map (later k) (sites_of (i, doc)) ≡ sites_of (k + i, doc)
sites-move k i doc = map-map (later k) (λ s. record { document = i; number = s.0; words = s.1 }) (enumerate_from 0 doc.sentences)

pub sites-moved : (k n : ℕ) (docs : List Doc) → map (later k) (sites_from n docs) ≡ sites_from (k + n) docs
sites-moved k n docs = given-moved sites_of later sites-move k n docs

pub sites-append : (n : ℕ) (a b : List Doc) → sites_from n (a ++ b) ≡ sites_from n a ++ sites_from (n + length a) b
sites-append n a b = given-append sites_of n a b

pub sites-join : SitesJoin
sites-join docs more = given-join sites_of later sites-move docs more

-- the sentences alone stay the same
pub sentences-later : (n : ℕ) (ss : List Site) → sentences_in (map (later n) ss) ≡ sentences_in ss
sentences-later n ss = map-map (λ (site : Site). site.words) (later n) ss

-- ## Postings

pub postings-join : PostingsJoin
postings-join term a b = given-join (postings_in term) shifted (λ k i s. map-map (shifted k) (λ (token : ℕ × Token). (i, token.0)) _) a b

pub edges-join : EdgesJoin
edges-join label a b = given-join (edges_in label) shifted (λ k i s. map-map (shifted k) (λ (edge : Edge). (i, ends_number edge)) _) a b
