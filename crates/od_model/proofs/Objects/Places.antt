-- The session of a name at its place: a change of the name is a write there.
use Rattle.std.proofs.Common.{◌≡◌, ℕ, zero, suc, List, [], ◌∷◌, ◌++◌, map, slice_get, slice_set, Some, Bool, true, false, cond, ◌||◌, refl, ap, ap₂, ◌∙◌, bytes_eq}
use Rattle.std.specs.List.{list_any}
use Rattle.std.proofs.lemmas.List.Folds.{list_any-append}
use Rattle.std.proofs.lemmas.Slice.Eq.{bytes_eq-Decides}
use Rattle.od_session.specs.declared.object.SessionState.{SessionState}
use Rattle.od_text.specs.Lists.{Each, points_after}
use Rattle.od_session.specs.Parts.{is_named, Distinct, session_of}
use Rattle.od_model.specs.Object.Effects.{change}
use Rattle.od_text.proofs.Lists.{EachPoint-snoc}
use Rattle.od_model.proofs.Objects.Names.{behind, or_from_left, or_from_right}

-- a name is the same as itself
pub name-itself : (a : List ℕ) → bytes_eq a a ≡ true
name-itself a = (bytes_eq-Decides a a).1 refl

-- the names of xs differ from those that are seen, and from one another
abbrev DistinctAfter : List SessionState → List SessionState → Type 0
DistinctAfter seen xs = Each (λ p. list_any (is_named p.1.name) p.0 ≡ false) (points_after seen xs)

-- one of the name is seen once it is passed
seen-passed : (name : List ℕ) (seen : List SessionState) (x : SessionState) → is_named name x ≡ true → list_any (is_named name) (seen ++ x ∷ []) ≡ true
seen-passed name seen x is = list_any-append (is_named name) seen (x ∷ []) ∙ or_from_right (list_any (is_named name) seen) (is_named name x || false) (or_from_left (is_named name x) false is)

-- a session of the name at a place is the one that is found, and a change is a write there
pub record IsPlaced (name : List ℕ) (sessions : List SessionState) (i : ℕ) (s : SessionState) : Type 0 where
  pub found : session_of name sessions ≡ Some s
  pub changes : (f : SessionState → SessionState) → change name f sessions ≡ slice_set sessions i (f s)

still : (name : List ℕ) (f : SessionState → SessionState) (x : SessionState) (b : Bool) → is_named name x ≡ b → (is_named name x ≡ true → ⊥) → cond b (f x) x ≡ x
still name f x true e h = absurd (h e)
still name f x false e h = refl

-- where no session has the name, nothing changes
pub change-none : (name : List ℕ) (f : SessionState → SessionState) (xs : List SessionState) → Each (λ t. is_named name t ≡ true → ⊥) xs → change name f xs ≡ xs
change-none name f [] h = refl
change-none name f (x ∷ xs) h = ap₂ (λ (s : SessionState) (l : List SessionState). s ∷ l) (still name f x (is_named name x) refl h.0) (change-none name f xs h.1)

placed-past : (name : List ℕ) (x s : SessionState) (xs : List SessionState) (i : ℕ) (b : Bool) → is_named name x ≡ b → (is_named name x ≡ true → ⊥) → IsPlaced name xs i s → IsPlaced name (x ∷ xs) (suc i) s
placed-past name x s xs i true e apart h = absurd (apart e)
placed-past name x s xs i false e apart h = record {
  found = ap (λ b. cond b (Some x) (session_of name xs)) e ∙ h.found;
  changes = λ f. ap (λ b. cond b (f x) x ∷ change name f xs) e ∙ ap (λ l. x ∷ l) (h.changes f);
}

none-at : (name : List ℕ) (xs : List SessionState) (i : ℕ) (s : SessionState) → Each (λ t. is_named name t ≡ true → ⊥) xs → slice_get xs i ≡ Some s → s.name ≡ name → ⊥
none-at name [] i s h at n = absurd (cc)
none-at name (x ∷ xs) zero s h at n = let same : x ≡ s = cc in h.0 (ap (λ t. bytes_eq t name) (ap (λ (t : SessionState). t.name) same ∙ n) ∙ name-itself name)
none-at name (x ∷ xs) (suc i) s h at n = none-at name xs i s h.1 at n

placed : (name : List ℕ) (seen xs : List SessionState) (i : ℕ) (s : SessionState) → DistinctAfter seen xs → slice_get xs i ≡ Some s → s.name ≡ name → IsPlaced name xs i s
placed name seen [] i s h at n = absurd (cc)
placed name seen (x ∷ xs) zero s h at n =
    let same : x ≡ s = cc in
    let is : is_named name x ≡ true = ap (λ t. bytes_eq t name) (ap (λ (t : SessionState). t.name) same ∙ n) ∙ name-itself name in
    let later = behind name (seen ++ x ∷ []) xs (seen-passed name seen x is) h.1 in
    record {
      found = ap (λ b. cond b (Some x) (session_of name xs)) is ∙ ap Some same;
      changes = λ f. ap (λ b. cond b (f x) x ∷ change name f xs) is ∙ ap₂ (λ (t : SessionState) (l : List SessionState). t ∷ l) (ap f same) (change-none name f xs later);
    }
placed name seen (x ∷ xs) (suc i) s h at n = placed-past name x s xs i (is_named name x) refl
    (λ is. none-at name xs i s (behind name (seen ++ x ∷ []) xs (seen-passed name seen x is) h.1) at n)
    (placed name (seen ++ x ∷ []) xs i s h.1 at n)

-- among sessions of different names, one of the name is so placed
pub session-placed : (name : List ℕ) (sessions : List SessionState) (i : ℕ) (s : SessionState) → Distinct sessions → slice_get sessions i ≡ Some s → s.name ≡ name → IsPlaced name sessions i s
session-placed name sessions i s distinct at n = placed name [] sessions i s distinct at n

-- ## A change that keeps names

changed-name : (f : SessionState → SessionState) (s : SessionState) (b : Bool) → (f s).name ≡ s.name → (cond b (f s) s).name ≡ s.name
changed-name f s true h = h
changed-name f s false h = refl

-- a change that keeps names keeps the row of names
pub names-change : (name : List ℕ) (f : SessionState → SessionState) → ((s : SessionState) → (f s).name ≡ s.name) → (xs : List SessionState) → map (λ s. s.name) (change name f xs) ≡ map (λ s. s.name) xs
names-change name f keeps [] = refl
names-change name f keeps (x ∷ xs) = ap₂ (λ (n : List ℕ) (l : List (List ℕ)). n ∷ l) (changed-name f x (is_named name x) (keeps x)) (names-change name f keeps xs)

-- ## One session more

-- a session whose name is new
pub Distinct-append : (xs : List SessionState) (s : SessionState) → Distinct xs → list_any (is_named s.name) xs ≡ false → Distinct (xs ++ s ∷ [])
Distinct-append xs s h new = EachPoint-snoc (λ seen t. list_any (is_named t.name) seen ≡ false) xs s h new
