-- One more name in a map of names and places.
use Rattle.std.proofs.Common.{◌≡◌, ℕ, zero, suc, ◌+◌, ◌<◌, ◌≤◌, List, [], ◌∷◌, ◌++◌, length, String, string_bytes, Option, Some, None, Bool, true, false, cond, ◌==◌, bytes_eq, position, refl, sym, ap, ap₂, ◌∙◌, subst, arith, eq-eqb, length-append, add-one}
use Rattle.std.specs.List.{position_from}
use Rattle.std.specs.BTreeMap.{is_at, insert_entry, get_by_text, BTreeMap}
use Rattle.std.specs.Map.{lookup, update}
use Rattle.std.specs.Ordering.{match_ordering, is_eq}
use Rattle.std.specs.declared.cmp.Ordering.{Ordering}
use Rattle.std.specs.declared.cmp.Ordering.TheVariants.{Less, Equal, Greater}
use Rattle.std.specs.String.{string_cmp}
use Rattle.std.proofs.lemmas.Iterator.Adapters.{position_from-zero}
use Rattle.std.proofs.lemmas.Bool.{ne_eqb}
use Rattle.std.proofs.lemmas.Slice.Eq.{bytes_eq-Decides}
use Rattle.od_text.specs.Lists.{Each}
use Rattle.od_names.specs.Numbered.{name_at, names_below, listed, IsNumbered}

same-name : (a b : List ℕ) → bytes_eq a b ≡ true → a ≡ b
same-name a b h = (bytes_eq-Decides a b).0 h

-- ## Places in a list

-- one element more that does not pass
position_from-push_other : {X : Type 0} (t : X → Bool) (i : ℕ) (xs : List X) (x : X) → t x ≡ false → position_from t i (xs ++ x ∷ []) ≡ position_from t i xs
position_from-push_other t i [] x h = ap (λ b. cond b (Some i) None) h
position_from-push_other t i (y ∷ xs) x h = ap (λ r. cond (t y) (Some i) r) (position_from-push_other t (i + 1) xs x h)

push_here : {X : Type 0} (t : X → Bool) (i : ℕ) (xs : List X) (x : X) (b : Bool) → (position_from t (i + 1) xs ≡ None → position_from t (i + 1) (xs ++ x ∷ []) ≡ Some (i + 1 + length xs)) → cond b (Some i) (position_from t (i + 1) xs) ≡ None
    → cond b (Some i) (position_from t (i + 1) (xs ++ x ∷ [])) ≡ Some (i + 1 + length xs)
push_here t i xs x true more e = absurd (cc)
push_here t i xs x false more e = more e

-- one element more, which is the first that passes
position_from-push : {X : Type 0} (t : X → Bool) (i : ℕ) (xs : List X) (x : X) → position_from t i xs ≡ None → t x ≡ true → position_from t i (xs ++ x ∷ []) ≡ Some (i + length xs)
position_from-push t i [] x none h = ap (λ b. cond b (Some i) None) h ∙ ap Some (omega arith)
position_from-push t i (y ∷ xs) x none h = push_here t i xs x (t y) (λ e. position_from-push t (i + 1) xs x e h) none ∙ ap Some (omega arith)

-- a look-up after one more name
found_push : (names : List (List ℕ)) (name : List ℕ) → position_from (λ other. bytes_eq other name) 0 names ≡ None → (q : List ℕ) (b : Bool) → bytes_eq name q ≡ b
    → cond b (Some (length names)) (position_from (λ other. bytes_eq other q) 0 names) ≡ position_from (λ other. bytes_eq other q) 0 (names ++ name ∷ [])
found_push names name none q true e = sym (position_from-push (λ other. bytes_eq other q) 0 names name (subst (λ n. position_from (λ other. bytes_eq other n) 0 names ≡ None) (same-name name q e) none) e ∙ ap Some (omega arith))
found_push names name none q false e = sym (position_from-push_other (λ other. bytes_eq other q) 0 names name e)

-- ## The names of places

apart : (a b : ℕ) → a < b → (a == b) ≡ false
apart a b less = ne_eqb a b (λ e. omega arith)

apart_above : (a b : ℕ) → a < b → (b == a) ≡ false
apart_above a b less = ne_eqb b a (λ e. omega arith)

module _ {Y : Type 0} where
  other_past : (place v : ℕ) (key : String Y) (e : String Y × ℕ) (es : List (String Y × ℕ)) (r : Ordering) → (v == place) ≡ false
      → (lookup (is_at (string_cmp key)) es ≡ None → name_at place (insert_entry string_cmp es key v) ≡ name_at place es)
      → cond (is_eq r) (Some e.1) (lookup (is_at (string_cmp key)) es) ≡ None
      → name_at place (match_ordering r ((key, v) ∷ e ∷ es) ((e.0, v) ∷ es) (e ∷ insert_entry string_cmp es key v)) ≡ name_at place (e ∷ es)
  other_past place v key e es Less apart more h = ap (λ b. cond b (string_bytes key) (name_at place (e ∷ es))) apart
  other_past place v key e es Equal apart more h = absurd (cc)
  other_past place v key e es Greater apart more h = ap (λ n. cond (e.1 == place) (string_bytes e.0) n) (more h)

  -- a new key that is put at another place leaves the name of a place
  at_other : (place v : ℕ) (key : String Y) → (v == place) ≡ false → (es : List (String Y × ℕ)) → lookup (is_at (string_cmp key)) es ≡ None → name_at place (insert_entry string_cmp es key v) ≡ name_at place es
  at_other place v key apart [] none = ap (λ b. cond b (string_bytes key) []) apart
  at_other place v key apart (e ∷ es) none = other_past place v key e es (string_cmp key e.0) apart (λ h. at_other place v key apart es h) none

  new_past : (v : ℕ) (key : String Y) (e : String Y × ℕ) (es : List (String Y × ℕ)) (r : Ordering) → (e.1 == v) ≡ false
      → (lookup (is_at (string_cmp key)) es ≡ None → name_at v (insert_entry string_cmp es key v) ≡ string_bytes key)
      → cond (is_eq r) (Some e.1) (lookup (is_at (string_cmp key)) es) ≡ None
      → name_at v (match_ordering r ((key, v) ∷ e ∷ es) ((e.0, v) ∷ es) (e ∷ insert_entry string_cmp es key v)) ≡ string_bytes key
  new_past v key e es Less apart more h = ap (λ b. cond b (string_bytes key) (name_at v (e ∷ es))) (eq-eqb v v refl)
  new_past v key e es Equal apart more h = absurd (cc)
  new_past v key e es Greater apart more h = ap (λ b. cond b (string_bytes e.0) (name_at v (insert_entry string_cmp es key v))) apart ∙ more h

  -- a new key that is put at a place above all others
  at_new : (v n : ℕ) (key : String Y) → n ≤ v → (es : List (String Y × ℕ)) → Each (λ e. e.1 < n) es → lookup (is_at (string_cmp key)) es ≡ None → name_at v (insert_entry string_cmp es key v) ≡ string_bytes key
  at_new v n key above [] below none = ap (λ b. cond b (string_bytes key) []) (eq-eqb v v refl)
  at_new v n key above (e ∷ es) below none = let first = below.0 in
      new_past v key e es (string_cmp key e.0) (apart e.1 v (omega arith)) (λ h. at_new v n key above es below.1 h) none

  -- a new key that is put above the first n places leaves their names
  names_put : (n v : ℕ) (key : String Y) → n ≤ v → (es : List (String Y × ℕ)) → lookup (is_at (string_cmp key)) es ≡ None → names_below n (insert_entry string_cmp es key v) ≡ names_below n es
  names_put zero v key above es none = refl
  names_put (suc n) v key above es none = ap₂ (λ ns name. ns ++ name ∷ []) (names_put n v key (omega arith) es none) (at_other n v key (apart_above n v (omega arith)) es none)

  below_past : (n m v : ℕ) (key : String Y) (e : String Y × ℕ) (es : List (String Y × ℕ)) (r : Ordering) → n ≤ m → v < m → Each (λ x. x.1 < n) (e ∷ es) → Each (λ x. x.1 < m) es → Each (λ x. x.1 < m) (insert_entry string_cmp es key v)
      → Each (λ x. x.1 < m) (match_ordering r ((key, v) ∷ e ∷ es) ((e.0, v) ∷ es) (e ∷ insert_entry string_cmp es key v))
  below_past n m v key e es Less less here h more put = let first = h.0 in (here, (omega arith, more))
  below_past n m v key e es Equal less here h more put = (here, more)
  below_past n m v key e es Greater less here h more put = let first = h.0 in (omega arith, put)

  below_weaker : (n m : ℕ) → n ≤ m → (es : List (String Y × ℕ)) → Each (λ x. x.1 < n) es → Each (λ x. x.1 < m) es
  below_weaker n m less [] h = tt
  below_weaker n m less (e ∷ es) h = let first = h.0 in (omega arith, below_weaker n m less es h.1)

  -- all places stay below a bound
  below_put : (n m v : ℕ) (key : String Y) → n ≤ m → v < m → (es : List (String Y × ℕ)) → Each (λ x. x.1 < n) es → Each (λ x. x.1 < m) (insert_entry string_cmp es key v)
  below_put n m v key less here [] h = (here, tt)
  below_put n m v key less here (e ∷ es) h = below_past n m v key e es (string_cmp key e.0) less here h (below_weaker n m less es h.1) (below_put n m v key less here es h.1)

  -- the list of names with one more at the end
  pub listed_put : (key : String Y) (es put : List (String Y × ℕ)) → IsNumbered es → lookup (is_at (string_cmp key)) es ≡ None → put ≡ insert_entry string_cmp es key (length es) → length put ≡ length es + 1 → listed put ≡ listed es ++ string_bytes key ∷ []
  listed_put key es put h none is more = ap (λ n. names_below n put) (more ∙ add-one (length es))
      ∙ ap₂ (λ ns name. ns ++ name ∷ [])
      (ap (names_below (length es)) is ∙ names_put (length es) (length es) key (omega arith) es none)
      (ap (name_at (length es)) is ∙ at_new (length es) (length es) key (omega arith) es h.below none)

  -- as many names as places
  length_below : (n : ℕ) (es : List (String Y × ℕ)) → length (names_below n es) ≡ n
  length_below zero es = refl
  length_below (suc n) es = length-append (names_below n es) (name_at n es ∷ []) ∙ ap (λ k. k + 1) (length_below n es) ∙ add-one n

  -- the look-up after one more name
  pub numbered_put : (name : List ℕ) (key : String Y) (m put : BTreeMap (String Y) ℕ) → string_bytes key ≡ name → IsNumbered m.entries → get_by_text m name ≡ None → put.entries ≡ insert_entry string_cmp m.entries key (length m.entries) → length put.entries ≡ length m.entries + 1
      → ((q : List ℕ) → get_by_text put q ≡ update bytes_eq (get_by_text m) name (Some (length m.entries)) q) → IsNumbered put.entries
  numbered_put name key m put named h none is more gives = record {
    below = subst (λ es. Each (λ e. e.1 < length put.entries) es) (sym is) (below_put (length m.entries) (length put.entries) (length m.entries) key (omega arith) (omega arith) m.entries h.below);
    found = λ q. gives q
        ∙ ap₂ (λ (n : ℕ) (r : Option ℕ). cond (bytes_eq name q) (Some n) r) (sym (length_below (length m.entries) m.entries)) (h.found q)
        ∙ found_push (listed m.entries) name (sym (h.found name) ∙ none) q (bytes_eq name q) refl
        ∙ ap (position_from (λ other. bytes_eq other q) 0) (sym (listed_put key m.entries put.entries h (subst (λ n. get_by_text m n ≡ None) (sym named) none) is more ∙ ap (λ n. listed m.entries ++ n ∷ []) named));
  }

-- a place by its first-place form
pub position_zero : (name : List ℕ) (names : List (List ℕ)) → position_from (λ other. bytes_eq other name) 0 names ≡ position (λ other. bytes_eq other name) names
position_zero name names = sym (position_from-zero (λ other. bytes_eq other name) names)
