-- One pair of a list of runners, and its change.
use Rattle.std.proofs.Common.{◌≡◌, ℕ, suc, zero, List, [], ◌∷◌, refl, ◌∙◌, ap, set, get_or, slice_get, Some}
use Rattle.od_constraint.specs.Runners.{patterns_of, AreOwn}

-- the runner beside an expression is its own
pub own_at : {R : Type 0} (pattern : R → List ℕ) (pairs : List (List ℕ × R)) (k : ℕ) (e : List ℕ) (d : List ℕ × R)
    → AreOwn pattern pairs → slice_get (patterns_of pairs) k ≡ Some e → pattern (get_or pairs k d).1 ≡ e
own_at pattern [] k e d h s = absurd (cc)
own_at pattern (p ∷ pairs) zero e d h s = let same : p.0 ≡ e = cc in h.0 ∙ same
own_at pattern (p ∷ pairs) (suc k) e d h s = own_at pattern pairs k e d h.1 s

-- a change of a runner leaves the expressions
pub patterns_stay : {R : Type 0} (pairs : List (List ℕ × R)) (k : ℕ) (d : List ℕ × R) (r : R)
    → patterns_of (set pairs k ((get_or pairs k d).0, r)) ≡ patterns_of pairs
patterns_stay [] k d r = refl
patterns_stay (p ∷ pairs) zero d r = refl
patterns_stay (p ∷ pairs) (suc k) d r = ap (λ (ps : List (List ℕ)). p.0 ∷ ps) (patterns_stay pairs k d r)
