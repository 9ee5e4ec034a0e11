-- Tables fit what is asked, piece by piece.
use Rattle.std.proofs.Common.{◌≡◌, ℕ, suc, ◌+◌, Bool, List, [], ◌∷◌, ◌++◌, length, refl, subst, arith}
use Rattle.std.specs.Prelude.{◌↔◌}
use Rattle.od_asked.specs.Asked.{Asked}
use Rattle.od_asked.specs.Tables.{RowsFit, truths, columns_of}
use Rattle.od_document.specs.declared.sentence.Sentence.{Sentence}

module _ (rows : List (List Bool)) (s : Sentence) where
  -- a table for two lists is one for the first
  pub fit_left : (n : ℕ) (asked more : List Asked) → RowsFit rows s n (asked ++ more) → RowsFit rows s n asked
  fit_left n [] more fit = tt
  fit_left n (a ∷ asked) more fit = (fit.0, fit_left (suc n) asked more fit.1)

  -- and one for the second, behind the rows of the first
  pub fit_right_at : (n m : ℕ) (asked more : List Asked) → m ≡ n + length asked → RowsFit rows s n (asked ++ more) → RowsFit rows s m more
  fit_right_at n m [] more e fit = let same : n ≡ m = omega arith in subst (λ (z : ℕ). RowsFit rows s z more) same fit
  fit_right_at n m (a ∷ asked) more e fit = fit_right_at (suc n) m asked more (omega arith) fit.1

  pub fit_right : (n : ℕ) (asked more : List Asked) → RowsFit rows s n (asked ++ more) → RowsFit rows s (n + length asked) more
  fit_right n asked more fit = fit_right_at n (n + length asked) asked more refl fit

  -- a table for each is a table for both
  pub fit_both_at : (n m : ℕ) (asked more : List Asked) → m ≡ n + length asked → RowsFit rows s n asked → RowsFit rows s m more → RowsFit rows s n (asked ++ more)
  fit_both_at n m [] more e fit rest = let same : m ≡ n = omega arith in subst (λ (z : ℕ). RowsFit rows s z more) same rest
  fit_both_at n m (a ∷ asked) more e fit rest = (fit.0, fit_both_at (suc n) m asked more (omega arith) fit.1 rest)

  pub fit_split : (n : ℕ) (asked more : List Asked) → RowsFit rows s n (asked ++ more) ↔ (RowsFit rows s n asked × RowsFit rows s (n + length asked) more)
  fit_split n asked more = (
    (λ fit. (fit_left n asked more fit, fit_right n asked more fit)),
    (λ both. fit_both_at n (n + length asked) asked more refl both.0 both.1),
  )

-- with one row before it a table fits one row later
pub fit_shift : (row : List Bool) (rows : List (List Bool)) (s : Sentence) (n : ℕ) (asked : List Asked) → RowsFit rows s n asked → RowsFit (row ∷ rows) s (suc n) asked
fit_shift row rows s n [] fit = tt
fit_shift row rows s n (a ∷ asked) fit = (fit.0, fit_shift row rows s (suc n) asked fit.1)

-- the table of what is asked
pub table_fits : (s : Sentence) (asked : List Asked) → RowsFit (columns_of s asked) s 0 asked
table_fits s [] = tt
table_fits s (a ∷ asked) = (refl, fit_shift (truths s a) (columns_of s asked) s 0 asked (table_fits s asked))
