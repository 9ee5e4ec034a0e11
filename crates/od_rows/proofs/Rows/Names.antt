-- Sessions by their names, as rows give them.
use Rattle.std.proofs.Common.{◌≡◌, ℕ, List, [], ◌∷◌, ◌++◌, map, filter, find, Ok, Bool, true, false, cond, ◌||◌, refl, sym, ap, ◌∙◌, bytes_eq, append-nil}
use Rattle.std.specs.List.{list_any}
use Rattle.std.specs.Prelude.{option_map}
use Rattle.std.proofs.lemmas.List.Elements.{filter-append}
use Rattle.std.proofs.lemmas.List.{map-append}
use Rattle.od_extraction.specs.declared.mention.Mention.{Mention}
use Rattle.od_row.specs.declared.rows.SessionRow.{SessionRow}
use Rattle.od_row.specs.declared.rows.RoundRow.{RoundRow}
use Rattle.od_session.specs.declared.object.SessionState.{SessionState}
use Rattle.od_session.specs.Parts.{is_named, Distinct, session_of}
use Rattle.od_stored.specs.ReadMentions.{list_read}
use Rattle.od_text.specs.Lists.{Each, points_after, points, EachPoint}
use Rattle.od_model.specs.Object.Effects.{change, change_one, let_go}
use Rattle.od_text.proofs.Lists.{find-map, Each-map, Each-from_map, Each-weaker}
use Rattle.od_rows.specs.Formed.{is_session_row}
use Rattle.od_rows.specs.Loaded.{is_round_of, list_of, lists_of, read_mentions, session_in}

map-same : {X Y : Type 0} (f g : X → Y) (xs : List X) → ((x : X) → f x ≡ g x) → map f xs ≡ map g xs
map-same f g [] h = refl
map-same f g (x ∷ xs) h = rw (h x, map-same f g xs h) refl

pub map-map : {X Y Z : Type 0} (f : X → Y) (g : Y → Z) (xs : List X) → map g (map f xs) ≡ map (λ x. g (f x)) xs
map-map f g [] = refl
map-map f g (x ∷ xs) = ap (λ ys. g (f x) ∷ ys) (map-map f g xs)

-- ## One round row more

-- a session with one list more
abbrev pub with_list : List Mention → SessionState → SessionState
with_list l s = record s { rounds = s.rounds ++ l ∷ [] }

pub filtered : {X : Type 0} (p : X → Bool) (xs : List X) (x : X) (b : Bool) → p x ≡ b → filter p (xs ++ x ∷ []) ≡ filter p xs ++ cond b (x ∷ []) []
filtered p xs x b e = filter-append p xs (x ∷ []) ∙ ap (λ c. filter p xs ++ cond c (x ∷ []) []) e

grown : (rounds : List RoundRow) (row : RoundRow) (l : List Mention) (srow : SessionRow) (b : Bool) → list_read row.body ≡ Ok l → bytes_eq srow.name row.session ≡ b
    → session_in (rounds ++ row ∷ []) srow ≡ cond b (with_list l (session_in rounds srow)) (session_in rounds srow)
grown rounds row l srow true d e = ap (λ ls. record (session_in rounds srow) { rounds = ls })
    (ap (map list_of) (filtered (is_round_of srow.name) rounds row true e) ∙ map-append list_of (filter (is_round_of srow.name) rounds) (row ∷ []) ∙ ap (λ m. lists_of srow.name rounds ++ read_mentions m ∷ []) d)
grown rounds row l srow false d e = ap (λ ls. record (session_in rounds srow) { rounds = ls })
    (ap (map list_of) (filtered (is_round_of srow.name) rounds row false e ∙ append-nil (filter (is_round_of srow.name) rounds)))

-- one round row more gives its session one list more
pub sessions-snoc : (rounds : List RoundRow) (row : RoundRow) (l : List Mention) (rows : List SessionRow) → list_read row.body ≡ Ok l
    → map (session_in (rounds ++ row ∷ [])) rows ≡ change row.session (with_list l) (map (session_in rounds) rows)
sessions-snoc rounds row l rows d = map-same (session_in (rounds ++ row ∷ [])) (λ r. change_one row.session (with_list l) (session_in rounds r)) rows (λ r. grown rounds row l r (bytes_eq r.name row.session) d refl)
    ∙ sym (map-map (session_in rounds) (change_one row.session (with_list l)) rows)

go_one : (l : List Mention) (s : SessionState) (b : Bool) → let_go (cond b (with_list l s) s) ≡ cond b (with_list l (let_go s)) (let_go s)
go_one l s true = refl
go_one l s false = refl

-- a list more, and then nobody holds it, or the other way round
pub go-change : (name : List ℕ) (l : List Mention) (sessions : List SessionState) → map let_go (change name (with_list l) sessions) ≡ change name (with_list l) (map let_go sessions)
go-change name l sessions = map-map (change_one name (with_list l)) let_go sessions
    ∙ map-same (λ s. let_go (change_one name (with_list l) s)) (λ s. change_one name (with_list l) (let_go s)) sessions (λ s. go_one l s (bytes_eq s.name name))
    ∙ sym (map-map let_go (change_one name (with_list l)) sessions)

-- a change of the holder alone is none once nobody holds it
go_held : (f : SessionState → SessionState) → ((s : SessionState) → let_go (f s) ≡ let_go s) → (s : SessionState) (b : Bool) → let_go (cond b (f s) s) ≡ let_go s
go_held f same s true = same s
go_held f same s false = refl

pub go-unchanged : (name : List ℕ) (f : SessionState → SessionState) → ((s : SessionState) → let_go (f s) ≡ let_go s) → (sessions : List SessionState) → map let_go (change name f sessions) ≡ map let_go sessions
go-unchanged name f same sessions = map-map (change_one name f) let_go sessions ∙ map-same (λ s. let_go (change_one name f s)) let_go sessions (λ s. go_held f same s (bytes_eq s.name name))

-- two changes that agree on the sessions of the name
change_agrees : (f g : SessionState → SessionState) (t : SessionState) (b : Bool) → (b ≡ true → f t ≡ g t) → cond b (f t) t ≡ cond b (g t) t
change_agrees f g t true h = h refl
change_agrees f g t false h = refl

pub change-same : (name : List ℕ) (f g : SessionState → SessionState) (xs : List SessionState) → Each (λ t. is_named name t ≡ true → f t ≡ g t) xs → change name f xs ≡ change name g xs
change-same name f g [] h = refl
change-same name f g (t ∷ xs) h = rw (change_agrees f g t (is_named name t) h.0, change-same name f g xs h.1) refl

-- ## Looking up

pub session-released : (name : List ℕ) (sessions : List SessionState) → session_of name (map let_go sessions) ≡ option_map let_go (session_of name sessions)
session-released name sessions = find-map (is_named name) let_go sessions

pub session-in : (name : List ℕ) (rounds : List RoundRow) (rows : List SessionRow) → session_of name (map (session_in rounds) rows) ≡ option_map (session_in rounds) (find (is_session_row name) rows)
session-in name rounds rows = find-map (is_named name) (session_in rounds) rows

-- ## Names of a mapped list

any-map : {X Y : Type 0} (p : Y → Bool) (f : X → Y) (xs : List X) → list_any p (map f xs) ≡ list_any (λ x. p (f x)) xs
any-map p f [] = refl
any-map p f (x ∷ xs) = ap (λ b. p (f x) || b) (any-map p f xs)

points-map : {X Y : Type 0} (f : X → Y) (seen xs : List X) → points_after (map f seen) (map f xs) ≡ map (λ p. (map f p.0, f p.1)) (points_after seen xs)
points-map f seen [] = refl
points-map f seen (x ∷ xs) = ap (λ ps. (map f seen, f x) ∷ ps) (ap (λ l. points_after l (map f xs)) (sym (map-append f seen (x ∷ []))) ∙ points-map f (seen ++ x ∷ []) xs)

module _ {X : Type 0} (f : X → SessionState) (xs : List X) where
  pub Distinct-map : EachPoint (λ seen x. list_any (λ y. bytes_eq (f y).name (f x).name) seen ≡ false) xs → Distinct (map f xs)
  Distinct-map h = rw (points-map f [] xs) (Each-map (λ p. list_any (is_named p.1.name) p.0 ≡ false) (λ p. (map f p.0, f p.1)) (points xs)
      (Each-weaker (λ p. list_any (λ y. bytes_eq (f y).name (f p.1).name) p.0 ≡ false) (λ p. list_any (is_named (f p.1).name) (map f p.0) ≡ false) (λ p e. any-map (is_named (f p.1).name) f p.0 ∙ e) (points xs) h))

  pub Distinct-from_map : Distinct (map f xs) → EachPoint (λ seen x. list_any (λ y. bytes_eq (f y).name (f x).name) seen ≡ false) xs
  Distinct-from_map h = Each-weaker (λ p. list_any (is_named (f p.1).name) (map f p.0) ≡ false) (λ p. list_any (λ y. bytes_eq (f y).name (f p.1).name) p.0 ≡ false) (λ p e. sym (any-map (is_named (f p.1).name) f p.0) ∙ e) (points xs)
      (Each-from_map (λ p. list_any (is_named p.1.name) p.0 ≡ false) (λ p. (map f p.0, f p.1)) (points xs) (rw (points-map f [] xs) at h))

pub named-released : (name : List ℕ) (sessions : List SessionState) → list_any (is_named name) (map let_go sessions) ≡ list_any (is_named name) sessions
named-released name sessions = any-map (is_named name) let_go sessions

pub named-in : (name : List ℕ) (rounds : List RoundRow) (rows : List SessionRow) → list_any (is_named name) (map (session_in rounds) rows) ≡ list_any (is_session_row name) rows
named-in name rounds rows = any-map (is_named name) (session_in rounds) rows
