-- Rows of the ends of edges.
use Rattle.std.proofs.Common.{◌≡◌, ℕ, suc, zero, ◌+◌, ◌<◌, Bool, true, false, cond, List, [], ◌∷◌, ◌++◌, refl, sym, ◌∙◌, ap, map, filter, length, set, take, slice_get, get_or, Option, Some, None, arith, subst}
use Rattle.std.specs.Prelude.{◌==◌, ◌||◌, ◌&&◌, IsSomeAnd, option_map}
use Rattle.std.specs.List.{list_any, range_with_len}
use Rattle.std.proofs.lemmas.List.{map-append, ext_get_or, length-set, get_or-set_other}
use Rattle.std.proofs.lemmas.Grind.{get_or-set_at}
use Rattle.std.proofs.lemmas.List.Elements.{filter-append}
use Rattle.std.proofs.lemmas.List.Folds.{list_any-append}
use Rattle.std.proofs.lemmas.List.FromFn.{length-map-range_with_len, get_or-map-range_with_len}
use Rattle.std.proofs.lemmas.Option.{slice_get-map}
use Rattle.std.proofs.lemmas.Bool.Decides.{Decides-eqb}
use Rattle.od_asked.specs.Holds.{has_text, labels_of, texts_there}
use Rattle.od_asked.specs.Texts.{fits}
use Rattle.od_document.specs.declared.sentence.Sentence.{Sentence}
use Rattle.od_document.specs.declared.token.Edge.{Edge}
use Rattle.od_document.specs.declared.token.Token.{Token}
use Rattle.od_pattern.specs.declared.pattern.Value.{Value}
use Rattle.od_constraint.specs.Rows.{end_field, end_of, marks, token_row}
use Rattle.od_constraint.proofs.Lists.{taken_more}

or_false : (a : Bool) → (a || false) ≡ a
or_false true = refl
or_false false = refl

or_true : (a : Bool) → (a || true) ≡ true
or_true true = refl
or_true false = refl

-- one more edge
marked : Bool → Value → List Edge → ℕ → Bool
marked outgoing value edges k = list_any (fits value) (labels_of (filter (λ e. end_of outgoing e == k) edges))

marked_one : (value : Value) (e : Edge) (b : Bool) → list_any (fits value) (labels_of (cond b (e ∷ []) [])) ≡ (b && fits value e.label)
marked_one value e true = or_false (fits value e.label)
marked_one value e false = refl

marked_more : (outgoing : Bool) (value : Value) (es : List Edge) (e : Edge) (k : ℕ) → marked outgoing value (es ++ e ∷ []) k ≡ (marked outgoing value es k || ((end_of outgoing e == k) && fits value e.label))
unfolding marked
marked_more outgoing value es e k =
    let test : Edge → Bool = λ x. end_of outgoing x == k in
    ap (λ xs. list_any (fits value) (labels_of xs)) (filter-append test es (e ∷ []))
    ∙ ap (list_any (fits value)) (map-append (λ (x : Edge). x.label) (filter test es) (filter test (e ∷ [])))
    ∙ list_any-append (fits value) (labels_of (filter test es)) (labels_of (filter test (e ∷ [])))
    ∙ ap (λ b. marked outgoing value es k || b) (marked_one value e (end_of outgoing e == k))

same_map : (f g : ℕ → Bool) → ((k : ℕ) → f k ≡ g k) → (xs : List ℕ) → map f xs ≡ map g xs
same_map f g h [] = refl
same_map f g h (x ∷ xs) = ap (λ b. b ∷ map f xs) (h x) ∙ ap (λ bs. g x ∷ bs) (same_map f g h xs)

marked_row : (f g : ℕ → Bool) (n d : ℕ) → d < n → ((k : ℕ) → g k ≡ (f k || ((d == k) && true))) → set (map f (range_with_len 0 n)) d true ≡ map g (range_with_len 0 n)
marked_row f g n d h same =
    ext_get_or false (set row d true) (map g (range_with_len 0 n)) (length-set row d true ∙ long ∙ sym (length-map-range_with_len g 0 n))
    (λ i k. let b : i < n = subst (λ m. i < m) (length-set row d true ∙ long) k in at i b (d == i) refl)
  where
    row : List Bool
    row = map f (range_with_len 0 n)

    long : length row ≡ n
    long = length-map-range_with_len f 0 n

    at : (i : ℕ) → i < n → (b : Bool) → (d == i) ≡ b → get_or (set row d true) i false ≡ get_or (map g (range_with_len 0 n)) i false
    at i k true q =
        get_or-set_at row d i true false (sym ((Decides-eqb d i).0 q)) (subst (λ m. d < m) (sym long) h)
        ∙ sym (get_or-map-range_with_len g 0 n i i false k (omega arith) ∙ same i ∙ ap (λ b. f i || (b && true)) q ∙ or_true (f i))
    at i k false q =
        get_or-set_other row d i true false (λ e. let t : (d == i) ≡ true = (Decides-eqb d i).1 (sym e) in absurd (cc))
        ∙ get_or-map-range_with_len f 0 n i i false k (omega arith)
        ∙ sym (get_or-map-range_with_len g 0 n i i false k (omega arith) ∙ same i ∙ ap (λ b. f i || (b && true)) q ∙ or_false (f i))

-- an edge whose label fits
pub marks_fit : (outgoing : Bool) (value : Value) (edges : List Edge) (place n d : ℕ) (row : List Bool) → IsSomeAnd (slice_get edges place) (λ e. end_of outgoing e ≡ d) → slice_get (map (λ e. fits value e.label) edges) place ≡ Some true → d < n
    → row ≡ marks outgoing value (take place edges) n → set row d true ≡ marks outgoing value (take (place + 1) edges) n
unfolding marked
marks_fit outgoing value edges place n d row end t h was = by (slice_get edges place) refl end (sym (slice_get-map (λ (e : Edge). fits value e.label) edges place) ∙ t)
  where
    by : (o : Option Edge) → slice_get edges place ≡ o → IsSomeAnd o (λ e. end_of outgoing e ≡ d) → option_map (λ e. fits value e.label) o ≡ Some true → set row d true ≡ marks outgoing value (take (place + 1) edges) n
    by None q end t = absurd end
    by (Some e) q end t =
        let fit : fits value e.label ≡ true = cc in
        ap (λ r. set r d true) was
        ∙ marked_row (marked outgoing value (take place edges)) (marked outgoing value (take place edges ++ e ∷ [])) n d h
        (λ k. marked_more outgoing value (take place edges) e k ∙ ap (λ m. marked outgoing value (take place edges) k || ((m == k) && fits value e.label)) end ∙ ap (λ b. marked outgoing value (take place edges) k || ((d == k) && b)) fit)
        ∙ ap (λ es. marks outgoing value es n) (sym (taken_more edges place e q))

and_false : (a : Bool) → (a && false) ≡ false
and_false true = refl
and_false false = refl

-- an edge whose label does not fit
pub marks_none : (outgoing : Bool) (value : Value) (edges : List Edge) (place n : ℕ) (row : List Bool) → slice_get (map (λ e. fits value e.label) edges) place ≡ Some false
    → row ≡ marks outgoing value (take place edges) n → row ≡ marks outgoing value (take (place + 1) edges) n
unfolding marked
marks_none outgoing value edges place n row t was = by (slice_get edges place) refl (sym (slice_get-map (λ (e : Edge). fits value e.label) edges place) ∙ t)
  where
    by : (o : Option Edge) → slice_get edges place ≡ o → option_map (λ e. fits value e.label) o ≡ Some false → row ≡ marks outgoing value (take (place + 1) edges) n
    by None q t = absurd (cc)
    by (Some e) q t =
        let fit : fits value e.label ≡ false = cc in
        was
        ∙ sym (same_map (marked outgoing value (take place edges ++ e ∷ [])) (marked outgoing value (take place edges))
        (λ k. marked_more outgoing value (take place edges) e k ∙ ap (λ b. marked outgoing value (take place edges) k || ((end_of outgoing e == k) && b)) fit
        ∙ ap (λ b. marked outgoing value (take place edges) k || b) (and_false (end_of outgoing e == k)) ∙ or_false (marked outgoing value (take place edges) k)) (range_with_len 0 n))
        ∙ ap (λ es. marks outgoing value es n) (sym (taken_more edges place e q))

-- the same row by another test of each token
same_rows : (f g : ℕ → Bool) (a n : ℕ) → ((k : ℕ) → k < a + n → f k ≡ g k) → map f (range_with_len a n) ≡ map g (range_with_len a n)
same_rows f g a zero h = refl
same_rows f g a (suc n) h =
    ap (λ (b : Bool). b ∷ map f (range_with_len (a + 1) n)) (h a (omega arith))
    ∙ ap (λ (bs : List Bool). g a ∷ bs) (same_rows f g (a + 1) n (λ k l. h k (omega (arith, l))))

token_there : (ts : List Token) (k : ℕ) → k < length ts → (t : Token) × (slice_get ts k ≡ Some t)
token_there [] k h = absurd (omega (arith, h))
token_there (t ∷ ts) zero h = (t, refl)
token_there (t ∷ ts) (suc k) h = token_there ts k (let g : suc k < suc (length ts) = h in omega arith)

-- at a token the marks are whether some text of the field fits
marked_there : (outgoing : Bool) (s : Sentence) (value : Value) (k : ℕ) → k < length s.tokens → marked outgoing value s.edges k ≡ has_text s (end_field outgoing) value k
unfolding marked
marked_there true s value k h = let (t, e) = token_there s.tokens k h in sym (ap (λ (o : Option Token). list_any (fits value) (texts_there s k (end_field true) o)) e)
marked_there false s value k h = let (t, e) = token_there s.tokens k h in sym (ap (λ (o : Option Token). list_any (fits value) (texts_there s k (end_field false) o)) e)

pub marks_are : (outgoing : Bool) (s : Sentence) (value : Value) → marks outgoing value s.edges (length s.tokens) ≡ token_row s (has_text s (end_field outgoing) value)
unfolding marked
marks_are outgoing s value =
    same_rows (marked outgoing value s.edges) (has_text s (end_field outgoing) value) 0 (length s.tokens) (λ k h. marked_there outgoing s value k (omega (arith, h)))
