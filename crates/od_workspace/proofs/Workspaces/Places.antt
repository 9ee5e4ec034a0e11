-- Where the session of a name stands.
use Rattle.std.proofs.Common.{◌≡◌, ℕ, suc, ◌+◌, ◌<◌, List, [], ◌∷◌, map, find, position, slice_get, get_or, length, MatchOption, Option, Some, None, Bool, true, false, cond, refl, sym, ap, ◌∙◌, subst, bytes_eq, arith}
use Rattle.std.specs.List.{position_from}
use Rattle.std.proofs.lemmas.Iterator.Adapters.{position_from-zero}
use Rattle.std.proofs.lemmas.Option.{slice_get_read, slice_get_within}
use Rattle.od_session.specs.declared.object.SessionState.{SessionState}
use Rattle.od_names.proofs.Named.{position-map}
use Rattle.od_session.specs.Parts.{is_named, session_of}

-- what is found at a place, counted on from n
abbrev FoundFrom : {X : Type 0} → (X → Bool) → ℕ → List X → Option ℕ → Type 0
FoundFrom {X} p n xs r = MatchOption r (find p xs ≡ None) (λ i. (k : ℕ) × (i ≡ n + k) × ((x : X) × (slice_get xs k ≡ Some x) × (find p xs ≡ Some x)))

module _ {X : Type 0} (p : X → Bool) where
  later : (n : ℕ) (y : X) (xs : List X) (r : Option ℕ) → p y ≡ false → FoundFrom p (n + 1) xs r → FoundFrom p n (y ∷ xs) r
  later n y xs None e h = ap (λ b. cond b (Some y) (find p xs)) e ∙ h
  later n y xs (Some i) e h = (suc h.0, omega (arith, h.1), (h.2.0, h.2.1, ap (λ b. cond b (Some y) (find p xs)) e ∙ h.2.2))

  here : (n : ℕ) (y : X) (xs : List X) (b : Bool) → p y ≡ b → FoundFrom p (n + 1) xs (position_from p (n + 1) xs) → FoundFrom p n (y ∷ xs) (cond b (Some n) (position_from p (n + 1) xs))
  here n y xs true e h = (0, omega arith, (y, refl, ap (λ b. cond b (Some y) (find p xs)) e))
  here n y xs false e h = later n y xs (position_from p (n + 1) xs) e h

  found_from : (n : ℕ) (xs : List X) → FoundFrom p n xs (position_from p n xs)
  found_from n [] = refl
  found_from n (y ∷ xs) = here n y xs (p y) refl (found_from (n + 1) xs)

  first-place : (xs : List X) (r : Option ℕ) → FoundFrom p 0 xs r → MatchOption r (find p xs ≡ None) (λ i. (x : X) × (slice_get xs i ≡ Some x) × (find p xs ≡ Some x))
  first-place xs None h = h
  first-place xs (Some i) h = let same : i ≡ h.0 = omega (arith, h.1) in (h.2.0, ap (slice_get xs) same ∙ h.2.1, h.2.2)

  -- the first place at which p passes is that of what is found
  pub found-at_position : (xs : List X) → MatchOption (position p xs) (find p xs ≡ None) (λ i. (x : X) × (slice_get xs i ≡ Some x) × (find p xs ≡ Some x))
  found-at_position xs = first-place xs (position p xs) (subst (FoundFrom p 0 xs) (sym (position_from-zero p xs)) (found_from 0 xs))

-- a session of the name at a place is the one that is found
abbrev pub IsFoundAt : List ℕ → List SessionState → ℕ → Type 0
IsFoundAt name sessions i = (s : SessionState) × (slice_get sessions i ≡ Some s) × (session_of name sessions ≡ Some s)

-- the place of the name among the names is the session's
pub session-at_position : (name : List ℕ) (names : List (List ℕ)) (sessions : List SessionState) (r : Option ℕ) → names ≡ map (λ s. s.name) sessions → r ≡ position (λ other. bytes_eq other name) names
    → MatchOption r (session_of name sessions ≡ None) (IsFoundAt name sessions)
session-at_position name names sessions r are is =
    let same : r ≡ position (is_named name) sessions = is ∙ ap (position (λ other. bytes_eq other name)) are ∙ position-map (λ other. bytes_eq other name) (λ s. s.name) sessions in
    subst (λ q. MatchOption q (session_of name sessions ≡ None) (IsFoundAt name sessions)) (sym same) (found-at_position (is_named name) sessions)

-- what is read at the place
pub read-at : {X : Type 0} (xs : List X) (i : ℕ) (s t : X) → slice_get xs i ≡ Some s → t ≡ get_or xs i t → t ≡ s
read-at xs i s t at is =
    let found : slice_get xs i ≡ Some t = slice_get_read xs (length xs) i t refl (slice_get_within xs i s at) is in
    let both : Some t ≡ Some s = sym found ∙ at in cc

-- one thing stands at a place
pub one-there : {X : Type 0} (xs : List X) (i : ℕ) (s t : X) → slice_get xs i ≡ Some s → slice_get xs i ≡ Some t → s ≡ t
one-there xs i s t at there = let both : Some s ≡ Some t = sym at ∙ there in cc

-- what is read at a place stands there
pub read-there : {X : Type 0} (xs : List X) (i : ℕ) (t : X) → i < length xs → t ≡ get_or xs i t → slice_get xs i ≡ Some t
read-there xs i t lt is = slice_get_read xs (length xs) i t refl lt is
