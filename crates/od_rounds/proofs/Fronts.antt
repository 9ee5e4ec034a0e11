-- The first of some mentions, and lists of mentions one after another.
use Rattle.std.proofs.Common.{◌≡◌, ℕ, zero, suc, ◌+◌, ◌≤◌, List, [], ◌∷◌, ◌++◌, length, take, drop, fold, slice_get, Some, Bool, true, false, cond, refl, sym, ap, ◌∙◌, subst, arith, length-append, append_assoc, append-nil, take-append-drop}
use Rattle.std.proofs.lemmas.List.Sums.{fold-append, sum_by-cons}
use Rattle.od_extraction.specs.declared.mention.Mention.{Mention}
use Rattle.od_extraction.specs.Joined.{joined}
use Rattle.od_extraction.specs.Mentions.{is_among, with_new, distinct}
use Rattle.od_extraction.specs.Weight.{weight}
use Rattle.od_matching.proofs.Rounds.Joined.{joined-snoc}
use Rattle.od_rounds.proofs.Moves.{weight-with}

-- ## Fronts

pub weight-take : (n : ℕ) (ms : List Mention) → weight (take n ms) ≤ weight ms
weight-take zero ms = omega arith
weight-take (suc n) [] = omega arith
weight-take (suc n) (m ∷ ms) = omega (arith, weight-take n ms, sum_by-cons (λ (x : Mention). 1 + length x.parts) m ms, sum_by-cons (λ (x : Mention). 1 + length x.parts) m (take n ms))

short-by : (b : Bool) (seen : List Mention) (m : Mention) → length (cond b seen (seen ++ m ∷ [])) ≤ length seen + 1
short-by true seen m = omega arith
short-by false seen m = omega (arith, length-append seen (m ∷ []))

short-fold : (seen ms : List Mention) → length (fold with_new seen ms) ≤ length seen + length ms
short-fold seen [] = omega arith
short-fold seen (m ∷ ms) = omega (arith, short-fold (with_new seen m) ms, short-by (is_among seen m) seen m)

same-front : (xs ys : List Mention) (m : Mention) → length xs ≤ length ys → xs ++ m ∷ [] ≡ ys ++ m ∷ [] → xs ≡ ys
same-front xs ys m h e =
    let long : length (xs ++ m ∷ []) ≡ length (ys ++ m ∷ []) = ap length e in
    let same : length xs ≡ length ys = omega (arith, long, length-append xs (m ∷ []), length-append ys (m ∷ [])) in
    sym (all xs) ∙ ap (take (length xs)) e ∙ ap (λ n. take n (ys ++ m ∷ [])) same ∙ all ys
  where
    all : (zs : List Mention) → take (length zs) (zs ++ m ∷ []) ≡ zs
    all [] = refl
    all (z ∷ zs) = ap (λ l. z ∷ l) (all zs)

one-less-by : (b : Bool) (xs : List Mention) (m : Mention) → length (distinct xs) ≤ length xs → cond b (distinct xs) (distinct xs ++ m ∷ []) ≡ xs ++ m ∷ [] → distinct xs ≡ xs
one-less-by true xs m h e = absurd (omega (arith, h, ap length e, length-append xs (m ∷ [])))
one-less-by false xs m h e = same-front (distinct xs) xs m h e

-- mentions without repeats have none with the last left out
one-less : (xs : List Mention) (m : Mention) → distinct (xs ++ m ∷ []) ≡ xs ++ m ∷ [] → distinct xs ≡ xs
one-less xs m e = one-less-by (is_among (distinct xs) m) xs m (let h : length (distinct xs) ≤ 0 + length xs = short-fold [] xs in omega arith) (sym (fold-append with_new [] xs (m ∷ [])) ∙ e)

front-unlike : (xs ys : List Mention) → distinct (xs ++ ys) ≡ xs ++ ys → distinct xs ≡ xs
front-unlike xs [] e = subst (λ ms. distinct ms ≡ ms) (append-nil xs) e
front-unlike xs (m ∷ ys) e = one-less xs m (front-unlike (xs ++ m ∷ []) ys (subst (λ ms. distinct ms ≡ ms) (sym (append_assoc xs (m ∷ []) ys)) e))

-- mentions without repeats have none in their front
pub take-unlike : (n : ℕ) (ms : List Mention) → distinct ms ≡ ms → distinct (take n ms) ≡ take n ms
take-unlike n ms e = front-unlike (take n ms) (drop n ms) (subst (λ xs. distinct xs ≡ xs) (sym (take-append-drop n ms)) e)

-- ## List by list

pub take-at : {X : Type 0} (xs : List X) (i : ℕ) (x : X) → slice_get xs i ≡ Some x → take (i + 1) xs ≡ take i xs ++ x ∷ []
take-at [] i x e = absurd (cc)
take-at (y ∷ xs) zero x e = let same : y ≡ x = cc in ap (λ z. z ∷ []) same
take-at (y ∷ xs) (suc i) x e = let n : suc i + 1 ≡ suc (i + 1) = omega arith in rw n (ap (λ l. y ∷ l) (take-at xs i x e))

-- the known mentions of one list more
pub known-more : (lists : List (List Mention)) (i : ℕ) (new : List Mention) → slice_get lists i ≡ Some new → fold with_new (distinct (joined (take i lists))) new ≡ distinct (joined (take (i + 1) lists))
known-more lists i new e =
    sym (fold-append with_new [] (joined (take i lists)) new)
    ∙ ap distinct (sym (joined-snoc (take i lists) new))
    ∙ ap (λ ls. distinct (joined ls)) (sym (take-at lists i new e))

-- they weigh no more than both
pub weight-fold : (seen ms : List Mention) → weight (fold with_new seen ms) ≤ weight seen + weight ms
weight-fold seen [] = omega arith
weight-fold seen (m ∷ ms) = omega (arith, weight-fold (with_new seen m) ms, weight-with seen m, sum_by-cons (λ (x : Mention). 1 + length x.parts) m ms)

-- mention by mention
pub fold-more : (known : List Mention) (ms : List Mention) (i : ℕ) (m : Mention) → slice_get ms i ≡ Some m → with_new (fold with_new known (take i ms)) m ≡ fold with_new known (take (i + 1) ms)
fold-more known ms i m e = sym (ap (fold with_new known) (take-at ms i m e) ∙ fold-append with_new known (take i ms) (m ∷ []))

pub weight-front : (ms : List Mention) (i : ℕ) (m : Mention) → slice_get ms i ≡ Some m → weight (take i ms) + (1 + length m.parts) ≤ weight ms
weight-front [] i m e = absurd (cc)
weight-front (x ∷ ms) zero m e = let same : length x.parts ≡ length m.parts = cc in omega (arith, same, sum_by-cons (λ (x : Mention). 1 + length x.parts) x ms)
weight-front (x ∷ ms) (suc i) m e = omega (arith, weight-front ms i m e, sum_by-cons (λ (x : Mention). 1 + length x.parts) x ms, sum_by-cons (λ (x : Mention). 1 + length x.parts) x (take i ms))
