-- The numbers of the texts that fit a value.
use Rattle.std.proofs.Common.{◌≡◌, ℕ, suc, zero, ◌+◌, ◌-◌, ◌≤◌, ◌<◌, Bool, true, false, cond, List, [], ◌∷◌, ◌++◌, length, map, take, refl, sym, ◌∙◌, ap, subst, arith, inl, inr}
use Rattle.std.specs.Prelude.{Contains, Option, Some, None, slice_get, IfSome, IfNone, ◌⊎◌}
use Rattle.std.proofs.lemmas.Slice.Eq.{bytes_eq-Decides}
use Rattle.od_asked.specs.Texts.{fits, regex_holds}
use Rattle.od_index.specs.Tables.{IsAscending, IsNumber, term_cmp}
use Rattle.od_index.specs.Terms.{Term}
use Rattle.od_index.proofs.Members.{Contains-slice_get, Contains-head, Contains-tail, Contains-none, Contains-cases, slice_get-within}
use Rattle.od_index.proofs.Orders.{one-place}
use Rattle.od_index.proofs.Tables.{terms-exact}
use Rattle.od_pattern.specs.declared.pattern.Field.{Field}
use Rattle.od_pattern.specs.declared.pattern.Value.TheVariants.{Plain, Regex}
use Rattle.od_constraint.specs.Fitting.{AreFitting, true_places, one_or_none}

-- one more truth
pub places-last : (n : ℕ) (bs : List Bool) (b : Bool) → true_places n (bs ++ b ∷ []) ≡ true_places n bs ++ cond b ((n + length bs) ∷ []) []
places-last n [] true = let e : n ≡ n + 0 = omega arith in ap (λ m. m ∷ []) e
places-last n [] false = refl
places-last n (true ∷ bs) b =
    let e : n + 1 + length bs ≡ n + suc (length bs) = omega arith in
    ap (λ ms. n ∷ ms) (places-last (n + 1) bs b ∙ ap (λ m. true_places (n + 1) bs ++ cond b (m ∷ []) []) e)
places-last n (false ∷ bs) b =
    let e : n + 1 + length bs ≡ n + suc (length bs) = omega arith in
    places-last (n + 1) bs b ∙ ap (λ m. true_places (n + 1) bs ++ cond b (m ∷ []) []) e

-- a truth has its place
pub place-there : (n : ℕ) (bs : List Bool) (k : ℕ) → slice_get bs k ≡ Some true → Contains (true_places n bs) (n + k)
place-there n [] k e = absurd (let q : ◌≡◌ {A = Option Bool} None (Some true) = e in cc)
place-there n (true ∷ bs) zero e = let q : n ≡ n + 0 = omega arith in subst (Contains (n ∷ true_places (n + 1) bs)) q (Contains-head n (true_places (n + 1) bs))
place-there n (false ∷ bs) zero e = absurd (let q : Some false ≡ Some true = e in cc)
place-there n (true ∷ bs) (suc k) e =
    let q : n + 1 + k ≡ n + suc k = omega arith in
    Contains-tail n (true_places (n + 1) bs) (n + suc k) (subst (Contains (true_places (n + 1) bs)) q (place-there (n + 1) bs k e))
place-there n (false ∷ bs) (suc k) e =
    let q : n + 1 + k ≡ n + suc k = omega arith in
    subst (Contains (true_places (n + 1) bs)) q (place-there (n + 1) bs k e)

-- a place has its truth
pub truth-there : (n : ℕ) (bs : List Bool) (m : ℕ) → Contains (true_places n bs) m → (k : ℕ) × (m ≡ n + k) × (slice_get bs k ≡ Some true)
truth-there n [] m c = absurd (Contains-none m c)
truth-there n (true ∷ bs) m c = by (Contains-cases n (true_places (n + 1) bs) m c) (truth-there (n + 1) bs m)
  where
    by : (n ≡ m) ⊎ Contains (true_places (n + 1) bs) m → (Contains (true_places (n + 1) bs) m → (k : ℕ) × (m ≡ n + 1 + k) × (slice_get bs k ≡ Some true))
        → (k : ℕ) × (m ≡ n + k) × (slice_get (true ∷ bs) k ≡ Some true)
    by (inl e) f = (0, omega (arith, e), refl)
    by (inr d) f = let r = f d in (suc r.0, omega (arith, r.1), r.2)
truth-there n (false ∷ bs) m c = let r = truth-there (n + 1) bs m c in (suc r.0, omega (arith, r.1), r.2)

text-at : (f : List ℕ → Bool) (texts : List (List ℕ)) (k : ℕ) → slice_get (map f texts) k ≡ Some true → (text : List ℕ) × (slice_get texts k ≡ Some text) × (f text ≡ true)
text-at f [] k e = absurd (let q : ◌≡◌ {A = Option Bool} None (Some true) = e in cc)
text-at f (t ∷ texts) zero e = (t, refl, let q : Some (f t) ≡ Some true = e in cc)
text-at f (t ∷ texts) (suc k) e = text-at f texts k e

got-at : (f : List ℕ → Bool) (texts : List (List ℕ)) (k : ℕ) (text : List ℕ) → slice_get texts k ≡ Some text → slice_get (map f texts) k ≡ Some (f text)
got-at f [] k text e = absurd (let q : ◌≡◌ {A = Option (List ℕ)} None (Some text) = e in cc)
got-at f (t ∷ texts) zero text e = let q : t ≡ text = (let p : Some t ≡ Some text = e in cc) in ap (λ x. Some (f x)) q
got-at f (t ∷ texts) (suc k) text e = got-at f texts k text e

-- those of an expression
pub run-fitting : (table : List Term) (field : Field) (expression : List ℕ) (first : ℕ) (texts : List (List ℕ)) (truths : List Bool) (numbers : List ℕ)
    → ((n : ℕ) (text : List ℕ) → IsNumber table field text n → (first ≤ n) × (slice_get texts (n - first) ≡ Some text))
    → ((k : ℕ) (text : List ℕ) → slice_get texts k ≡ Some text → IsNumber table field text (first + k))
    → truths ≡ map (regex_holds expression) texts → numbers ≡ true_places first truths
    → AreFitting table field (Regex expression) numbers
run-fitting table field expression first texts truths numbers block only e are =
    let same : numbers ≡ true_places first (map (regex_holds expression) texts) = are ∙ ap (true_places first) e in
    subst (AreFitting table field (Regex expression)) (sym same) (record {
      has = λ n text h fit.
          let at = block n text h in
          let q : first + (n - first) ≡ n = omega (arith, at.0) in
          subst (Contains (true_places first (map (regex_holds expression) texts))) q
          (place-there first (map (regex_holds expression) texts) (n - first) (got-at (regex_holds expression) texts (n - first) text at.1 ∙ ap Some fit));
      adds_none = λ n c.
          let r = truth-there first (map (regex_holds expression) texts) n c in
          let t = text-at (regex_holds expression) texts r.0 r.2 in
          (t.0, subst (IsNumber table field t.0) (sym r.1) (only r.0 t.0 t.1), t.2);
    })

-- the texts of a field end before the table does
block-long : (table : List Term) (field : Field) (first : ℕ) (texts : List (List ℕ))
    → ((k : ℕ) (text : List ℕ) → slice_get texts k ≡ Some text → IsNumber table field text (first + k)) → first ≤ length table → first + length texts ≤ length table
block-long table field first [] only h = omega (arith, h)
block-long table field first (t ∷ texts) only h =
    let lt : first + 0 < length table = slice_get-within table (first + 0) (field, t) (only 0 t refl) in
    let rest : first + 1 + length texts ≤ length table = block-long table field (first + 1) texts
    (λ k text at. let q : first + suc k ≡ first + 1 + k = omega arith in subst (IsNumber table field text) q (only (suc k) text at)) (omega (arith, lt)) in
    omega (arith, rest)

pub block-short : (table : List Term) (field : Field) (first : ℕ) (texts : List (List ℕ))
    → ((k : ℕ) (text : List ℕ) → slice_get texts k ≡ Some text → IsNumber table field text (first + k)) → first < 4294967296 → length table < 4294967296 → first + length texts < 4294967296
block-short table field first [] only h few = omega (arith, h)
block-short table field first (t ∷ texts) only h few =
    let lt : first + 0 < length table = slice_get-within table (first + 0) (field, t) (only 0 t refl) in
    omega (arith, few, block-long table field first (t ∷ texts) only (omega (arith, lt)))

-- that of a plain text
pub plain-fitting : (table : List Term) (field : Field) (plain : List ℕ) (r : Option ℕ) → IsAscending table
    → IfSome r (IsNumber table field plain) → IfNone r (Contains table (field, plain) → ⊥) → AreFitting table field (Plain plain) (one_or_none r)
plain-fitting table field plain None s i n = record {
  has = λ k text e fit.
      let same : plain ≡ text = (bytes_eq-Decides plain text).0 fit in
      absurd (n (Contains-slice_get table k (field, plain) (e ∙ ap (λ (t : List ℕ). Some (field, t)) (sym same))));
  adds_none = λ k c. absurd (Contains-none k c);
}
plain-fitting table field plain (Some m) s i n = record {
  has = λ k text e fit.
      let same : plain ≡ text = (bytes_eq-Decides plain text).0 fit in
      subst (Contains (m ∷ [])) (one-place term_cmp terms-exact table m k (field, text) s (i ∙ ap (λ (t : List ℕ). Some (field, t)) same) e) (Contains-head m []);
  adds_none = λ k c. elim (Contains-cases m [] k c) [
    | inl q ↦ (plain, subst (IsNumber table field plain) q i, (bytes_eq-Decides plain plain).1 refl)
    | inr d ↦ absurd (Contains-none k d)
  ];
}

-- the truths up to the next place
places-next-suc : (n : ℕ) (bs : List Bool) (k : ℕ) (b : Bool) → slice_get bs k ≡ Some b → true_places n (take (suc k) bs) ≡ true_places n (take k bs) ++ cond b ((n + k) ∷ []) []
places-next-suc n [] k b e = absurd (let q : ◌≡◌ {A = Option Bool} None (Some b) = e in cc)
places-next-suc n (c ∷ bs) zero b e =
    let q : c ≡ b = (let p : Some c ≡ Some b = e in cc) in
    ap (λ x. true_places n (x ∷ [])) q ∙ places-last n [] b
places-next-suc n (true ∷ bs) (suc k) b e =
    let q : n + 1 + k ≡ n + suc k = omega arith in
    ap (λ ms. n ∷ ms) (places-next-suc (n + 1) bs k b e ∙ ap (λ m. true_places (n + 1) (take k bs) ++ cond b (m ∷ []) []) q)
places-next-suc n (false ∷ bs) (suc k) b e =
    let q : n + 1 + k ≡ n + suc k = omega arith in
    places-next-suc (n + 1) bs k b e ∙ ap (λ m. true_places (n + 1) (take k bs) ++ cond b (m ∷ []) []) q

pub places-next : (n : ℕ) (bs : List Bool) (k : ℕ) (b : Bool) → slice_get bs k ≡ Some b → true_places n (take (k + 1) bs) ≡ true_places n (take k bs) ++ cond b ((n + k) ∷ []) []
places-next n bs k b e =
    let q : suc k ≡ k + 1 = omega arith in
    subst (λ m. true_places n (take m bs) ≡ true_places n (take k bs) ++ cond b ((n + k) ∷ []) []) q (places-next-suc n bs k b e)

pub same-length : {X Y : Type 0} (f : X → Y) (xs : List X) (ys : List Y) → ys ≡ map f xs → length ys ≡ length xs
same-length f xs ys e = ap length e ∙ maps f xs
  where
    maps : {X Y : Type 0} (f : X → Y) (xs : List X) → length (map f xs) ≡ length xs
    maps f [] = refl
    maps f (x ∷ xs) = ap suc (maps f xs)
