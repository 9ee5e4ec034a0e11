-- Sessions of different names, and changes of the one of a name.
use Rattle.std.proofs.Common.{◌≡◌, ℕ, List, [], ◌∷◌, ◌++◌, map, find, Some, Bool, true, false, cond, ◌||◌, refl, sym, ap, ◌∙◌, subst, bytes_eq}
use Rattle.std.specs.List.{list_any}
use Rattle.std.proofs.lemmas.List.Folds.{list_any-append}
use Rattle.std.proofs.lemmas.List.{map-append}
use Rattle.std.proofs.lemmas.Slice.Eq.{bytes_eq-Decides}
use Rattle.od_session.specs.declared.object.SessionState.{SessionState}
use Rattle.od_text.specs.Lists.{Each, points_after, points}
use Rattle.od_session.specs.Parts.{is_named, Distinct, session_of}
use Rattle.od_model.specs.Object.Effects.{change, change_one}
use Rattle.od_text.proofs.Lists.{Each-map, Each-weaker}

pub or_from_left : (a b : Bool) → a ≡ true → (a || b) ≡ true
or_from_left true b h = refl
or_from_left false b h = absurd (cc)

pub or_from_right : (a b : Bool) → b ≡ true → (a || b) ≡ true
or_from_right true b h = refl
or_from_right false b h = h

pub same-name : (a b : List ℕ) → bytes_eq a b ≡ true → a ≡ b
same-name a b h = (bytes_eq-Decides a b).0 h

-- ## The session of a name is the only one

-- behind one of the name there is none
pub behind : (name : List ℕ) (seen xs : List SessionState) → list_any (is_named name) seen ≡ true → Each (λ p. list_any (is_named p.1.name) p.0 ≡ false) (points_after seen xs) → Each (λ t. is_named name t ≡ true → ⊥) xs
behind name seen [] h k = tt
behind name seen (x ∷ xs) h k = (
  (λ same. let e : x.name ≡ name = same-name x.name name same in
      let f : list_any (is_named name) seen ≡ false = subst (λ n. list_any (is_named n) seen ≡ false) e k.0 in absurd (cc)),
  behind name (seen ++ x ∷ []) xs (list_any-append (is_named name) seen (x ∷ []) ∙ or_from_left (list_any (is_named name) seen) (list_any (is_named name) (x ∷ [])) h) k.1,
)

none-named : (name : List ℕ) (xs : List SessionState) (s : SessionState) → Each (λ t. is_named name t ≡ true → ⊥) xs → Each (λ t. is_named name t ≡ true → t ≡ s) xs
none-named name [] s h = tt
none-named name (x ∷ xs) s h = ((λ yes. absurd (h.0 yes)), none-named name xs s h.1)

here_or_behind : (name : List ℕ) (seen xs : List SessionState) (x s : SessionState) (b : Bool) → is_named name x ≡ b → (cond b (Some x) (find (is_named name) xs) ≡ Some s)
    → Each (λ p. list_any (is_named p.1.name) p.0 ≡ false) (points_after (seen ++ x ∷ []) xs)
    → (find (is_named name) xs ≡ Some s → Each (λ t. is_named name t ≡ true → t ≡ s) xs)
    → Each (λ t. is_named name t ≡ true → t ≡ s) (x ∷ xs)
here_or_behind name seen xs x s true is e k more = let same : x ≡ s = cc in
    ((λ _. same), none-named name xs s (behind name (seen ++ x ∷ []) xs (list_any-append (is_named name) seen (x ∷ []) ∙ or_from_right (list_any (is_named name) seen) (is_named name x || false) (or_from_left (is_named name x) false is)) k))
here_or_behind name seen xs x s false is e k more = ((λ yes. absurd (cc)), more e)

unique : (name : List ℕ) (seen xs : List SessionState) (s : SessionState) → Each (λ p. list_any (is_named p.1.name) p.0 ≡ false) (points_after seen xs) → find (is_named name) xs ≡ Some s → Each (λ t. is_named name t ≡ true → t ≡ s) xs
unique name seen [] s h e = tt
unique name seen (x ∷ xs) s h e = here_or_behind name seen xs x s (is_named name x) refl e h.1 (unique name (seen ++ x ∷ []) xs s h.1)

pub session-unique : (name : List ℕ) (sessions : List SessionState) (s : SessionState) → Distinct sessions → session_of name sessions ≡ Some s → Each (λ t. is_named name t ≡ true → t ≡ s) sessions
session-unique name sessions s h e = unique name [] sessions s h e

-- ## A session of a name is found where there is one

pub found-any : (name : List ℕ) (xs : List SessionState) (s : SessionState) → session_of name xs ≡ Some s → list_any (is_named name) xs ≡ true
found-any name [] s at = absurd (cc)
found-any name (x ∷ xs) s at = here (is_named name x) (found-any name xs s) at
  where
    here : (b : Bool) → (session_of name xs ≡ Some s → list_any (is_named name) xs ≡ true) → cond b (Some x) (session_of name xs) ≡ Some s → (b || list_any (is_named name) xs) ≡ true
    here true behind e = refl
    here false behind e = behind e

pub any-found : (name : List ℕ) (xs : List SessionState) → list_any (is_named name) xs ≡ true → (s : SessionState) × (session_of name xs ≡ Some s)
any-found name [] h = absurd (cc)
any-found name (x ∷ xs) h = here (is_named name x) (any-found name xs) h
  where
    here : (b : Bool) → (list_any (is_named name) xs ≡ true → (s : SessionState) × (session_of name xs ≡ Some s)) → (b || list_any (is_named name) xs) ≡ true → (s : SessionState) × (cond b (Some x) (session_of name xs) ≡ Some s)
    here true behind e = (x, refl)
    here false behind e = behind e

-- ## Changes

each_one : (P : SessionState → Type 0) (f : SessionState → SessionState) (s : SessionState) (b : Bool) → P s → (b ≡ true → P (f s)) → P (cond b (f s) s)
each_one P f s true h k = k refl
each_one P f s false h k = h

-- what holds of each session, and of those of the name when changed
pub Each-change : (P : SessionState → Type 0) (name : List ℕ) (f : SessionState → SessionState) (xs : List SessionState) → Each P xs → Each (λ t. is_named name t ≡ true → P (f t)) xs → Each P (change name f xs)
Each-change P name f [] h k = tt
Each-change P name f (s ∷ xs) h k = (each_one P f s (is_named name s) h.0 k.0, Each-change P name f xs h.1 k.1)

-- what a change keeps in every session
pub Each-changed : (P : SessionState → Type 0) (name : List ℕ) (f : SessionState → SessionState) → ((s : SessionState) → P s → P (f s)) → (xs : List SessionState) → Each P xs → Each P (change name f xs)
Each-changed P name f keeps [] h = tt
Each-changed P name f keeps (s ∷ xs) h = (each_one P f s (is_named name s) h.0 (λ _. keeps s h.0), Each-changed P name f keeps xs h.1)

-- ## A change that keeps the names keeps them different

any-map : {X Y : Type 0} (p : Y → Bool) (f : X → Y) (xs : List X) → list_any p (map f xs) ≡ list_any (λ x. p (f x)) xs
any-map p f [] = refl
any-map p f (x ∷ xs) = ap (λ b. p (f x) || b) (any-map p f xs)

points-map : {X Y : Type 0} (f : X → Y) (seen xs : List X) → points_after (map f seen) (map f xs) ≡ map (λ p. (map f p.0, f p.1)) (points_after seen xs)
points-map f seen [] = refl
points-map f seen (x ∷ xs) = ap (λ ps. (map f seen, f x) ∷ ps) (ap (λ l. points_after l (map f xs)) (sym (map-append f seen (x ∷ []))) ∙ points-map f (seen ++ x ∷ []) xs)

name_kept : (f : SessionState → SessionState) → ((s : SessionState) → (f s).name ≡ s.name) → (s : SessionState) (b : Bool) → (cond b (f s) s).name ≡ s.name
name_kept f keeps s true = keeps s
name_kept f keeps s false = refl

any-kept : (name : List ℕ) (g : SessionState → SessionState) → ((s : SessionState) → (g s).name ≡ s.name) → (xs : List SessionState) → list_any (λ s. is_named name (g s)) xs ≡ list_any (is_named name) xs
any-kept name g keeps [] = refl
any-kept name g keeps (x ∷ xs) = rw (keeps x, any-kept name g keeps xs) refl

-- the names stay different where each session keeps its own
pub Distinct-kept : (g : SessionState → SessionState) → ((s : SessionState) → (g s).name ≡ s.name) → (xs : List SessionState) → Distinct xs → Distinct (map g xs)
Distinct-kept g keeps xs h = rw (points-map g [] xs) (Each-map (λ p. list_any (is_named p.1.name) p.0 ≡ false) (λ p. (map g p.0, g p.1)) (points xs)
    (Each-weaker (λ p. list_any (is_named p.1.name) p.0 ≡ false) (λ p. list_any (is_named (g p.1).name) (map g p.0) ≡ false)
    (λ p e. any-map (is_named (g p.1).name) g p.0 ∙ any-kept (g p.1).name g keeps p.0 ∙ ap (λ n. list_any (is_named n) p.0) (keeps p.1) ∙ e) (points xs) h))

pub Distinct-change : (name : List ℕ) (f : SessionState → SessionState) → ((s : SessionState) → (f s).name ≡ s.name) → (xs : List SessionState) → Distinct xs → Distinct (change name f xs)
Distinct-change name f keeps xs h = Distinct-kept (change_one name f) (λ s. name_kept f keeps s (is_named name s)) xs h

-- a name is there after a change that keeps the names as it was before
pub any-change : (name asked : List ℕ) (f : SessionState → SessionState) → ((s : SessionState) → (f s).name ≡ s.name) → (xs : List SessionState) → list_any (is_named name) (change asked f xs) ≡ list_any (is_named name) xs
any-change name asked f keeps xs = any-map (is_named name) (change_one asked f) xs ∙ any-kept name (change_one asked f) (λ s. name_kept f keeps s (is_named asked s)) xs
