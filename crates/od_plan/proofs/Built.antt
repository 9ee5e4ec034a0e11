-- What wanted trees say that are built from their parts.
use Rattle.std.proofs.Common.{◌≡◌, ℕ, Bool, true, false, List, [], ◌∷◌, ◌++◌, length, arith, refl, sym, ap, ◌∙◌, ◌<◌, ◌≤◌, get_or}
use Rattle.std.specs.Prelude.{◌&&◌, ◌||◌}
use Rattle.std.specs.List.{list_any, list_all}
use mathlib.Core.Former.{Count}
use Rattle.od_plan.specs.Wanted.{wanted, all_wanted, some_wanted}
use Rattle.od_plan.specs.declared.wanted.Wanted as want
use Rattle.od_plan.specs.declared.wanted.Wanted.{Wanted, Row_of-Wanted, end_of-Wanted, more_of-Wanted, items-the_row-Wanted, items_hidden-the_row-Wanted-0}

pub and-true : (b : Bool) → (b && true) ≡ b
and-true true = refl
and-true false = refl

pub or-false : (b : Bool) → (b || false) ≡ b
or-false true = refl
or-false false = refl

pub and-assoc : (a b c : Bool) → ((a && b) && c) ≡ (a && (b && c))
and-assoc true b c = refl
and-assoc false b c = refl

pub or-assoc : (a b c : Bool) → ((a || b) || c) ≡ (a || (b || c))
or-assoc true b c = refl
or-assoc false b c = refl

-- the row of some
abbrev row_of : Wanted → (n : Count) × Row_of-Wanted n
row_of (want.All' _ row) = (_, row)
row_of _ = (_, end_of-Wanted)

module _ (stands : ℕ → Bool) (labelled : List ℕ → Bool) where
  all-row : (n : _) (row : Row_of-Wanted n) → all_wanted stands labelled row ≡ list_all (wanted stands labelled) (items-the_row-Wanted n row)
  unfolding all_wanted
  all-row n end_of-Wanted = refl
  all-row n (more_of-Wanted w rest) = ap (λ b. wanted stands labelled w && b) (all-row _ rest)

  pub wanted-all : (ws : List Wanted) → wanted stands labelled (want.All ws) ≡ list_all (wanted stands labelled) ws
  unfolding wanted
  wanted-all ws = let row = row_of (want.All ws) in all-row row.0 row.1 ∙ ap (list_all (wanted stands labelled)) (items_hidden-the_row-Wanted-0 ws)

  some-row : (n : _) (row : Row_of-Wanted n) → some_wanted stands labelled row ≡ list_any (wanted stands labelled) (items-the_row-Wanted n row)
  unfolding some_wanted
  some-row n end_of-Wanted = refl
  some-row n (more_of-Wanted w rest) = ap (λ b. wanted stands labelled w || b) (some-row _ rest)

  pub wanted-any : (ws : List Wanted) → wanted stands labelled (want.Any ws) ≡ list_any (wanted stands labelled) ws
  unfolding wanted
  wanted-any ws = let row = row_of (want.All ws) in some-row row.0 row.1 ∙ ap (list_any (wanted stands labelled)) (items_hidden-the_row-Wanted-0 ws)

  pub wanted-nowhere : wanted stands labelled want.Nowhere ≡ false
  unfolding wanted
  wanted-nowhere = refl

  pub wanted-everywhere : wanted stands labelled want.Everywhere ≡ true
  unfolding wanted
  wanted-everywhere = refl

  pub wanted-term : (n : ℕ) → wanted stands labelled (want.Term n) ≡ stands n
  unfolding wanted
  wanted-term n = refl

  pub wanted-one_of : (ns : List ℕ) → wanted stands labelled (want.OneOf ns) ≡ list_any stands ns
  unfolding wanted
  wanted-one_of ns = refl

  pub wanted-label : (name : List ℕ) → wanted stands labelled (want.Label name) ≡ labelled name
  unfolding wanted
  wanted-label name = refl

-- ## Several

module _ (stands : ℕ → Bool) (labelled : List ℕ → Bool) where
  pub none-all : (ws : List Wanted) → length ws ≡ 0 → wanted stands labelled want.Everywhere ≡ list_all (wanted stands labelled) ws
  none-all [] e = wanted-everywhere stands labelled
  none-all (w ∷ ws) e = absurd (omega (arith, e))

  pub none-any : (ws : List Wanted) → length ws ≡ 0 → wanted stands labelled want.Nowhere ≡ list_any (wanted stands labelled) ws
  none-any [] e = wanted-nowhere stands labelled
  none-any (w ∷ ws) e = absurd (omega (arith, e))

  pub one-all : (ws : List Wanted) (w : Wanted) → ws ≡ w ∷ [] → wanted stands labelled w ≡ list_all (wanted stands labelled) ws
  one-all ws w e = sym (and-true (wanted stands labelled w)) ∙ sym (ap (list_all (wanted stands labelled)) e)

  pub one-any : (ws : List Wanted) (w : Wanted) → ws ≡ w ∷ [] → wanted stands labelled w ≡ list_any (wanted stands labelled) ws
  one-any ws w e = sym (or-false (wanted stands labelled w)) ∙ sym (ap (list_any (wanted stands labelled)) e)

  pub more-all : (ws more : List Wanted) → list_all (wanted stands labelled) (ws ++ more) ≡ (list_all (wanted stands labelled) ws && list_all (wanted stands labelled) more)
  more-all [] more = refl
  more-all (w ∷ ws) more = ap (λ b. wanted stands labelled w && b) (more-all ws more) ∙ sym (and-assoc (wanted stands labelled w) _ _)

  pub more-any : (ws more : List Wanted) → list_any (wanted stands labelled) (ws ++ more) ≡ (list_any (wanted stands labelled) ws || list_any (wanted stands labelled) more)
  more-any [] more = refl
  more-any (w ∷ ws) more = ap (λ b. wanted stands labelled w || b) (more-any ws more) ∙ sym (or-assoc (wanted stands labelled w) _ _)

-- ## One of some numbers

module _ (stands : ℕ → Bool) (labelled : List ℕ → Bool) where
  pub one-of-none : (ns : List ℕ) → length ns < 1 → wanted stands labelled want.Nowhere ≡ list_any stands ns
  one-of-none [] e = wanted-nowhere stands labelled
  one-of-none (n ∷ ns) e = absurd (omega (arith, e))

  pub one-of-one : (ns : List ℕ) → 1 ≤ length ns → length ns < 2 → wanted stands labelled (want.Term (get_or ns 0 0)) ≡ list_any stands ns
  one-of-one [] e f = absurd (omega (arith, e))
  one-of-one (n ∷ []) e f = wanted-term stands labelled n ∙ sym (or-false (stands n))
  one-of-one (n ∷ m ∷ ns) e f = absurd (omega (arith, f))
