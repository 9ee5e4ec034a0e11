-- Mentions without repeats.
use Rattle.std.proofs.Common.{◌≡◌, List, [], ◌∷◌, ◌++◌, fold, Bool, true, false, ◌||◌, cond, refl, sym, ap, ◌∙◌, append_assoc}
use Rattle.std.proofs.lemmas.List.Folds.{list_any-append}
use Rattle.std.proofs.lemmas.List.Sums.{fold-append}
use Rattle.std.proofs.lemmas.Bool.{or_left}
use Rattle.od_extraction.specs.declared.mention.Mention.{Mention}
use Rattle.od_extraction.specs.Mentions.{same_mention, is_among, with_new, distinct}
use Rattle.od_extraction.proofs.Sameness.{mention-Decides}

-- among the mentions of two lists
pub is_among-append : (xs ys : List Mention) (m : Mention) → is_among (xs ++ ys) m ≡ (is_among xs m || is_among ys m)
is_among-append xs ys m = list_any-append (same_mention m) xs ys

-- a test or false
or-false : (b : Bool) → (b || false) ≡ b
or-false true = refl
or-false false = refl

-- what is the same as one that is there is there
among-same : (xs : List Mention) (m n : Mention) → same_mention m n ≡ true → is_among xs m ≡ is_among xs n
among-same xs m n e = ap (is_among xs) ((mention-Decides m n).0 e)

-- the same, where the tests are known
added-among : (xs : List Mention) (x m : Mention) (b c : Bool) → is_among xs x ≡ b → same_mention m x ≡ c
    → is_among (cond b xs (xs ++ x ∷ [])) m ≡ (is_among xs m || (c || false))
added-among xs x m true true e h = among-same xs m x h ∙ e ∙ sym (or_left (is_among xs m) true (among-same xs m x h ∙ e))
added-among xs x m true false e h = sym (or-false (is_among xs m))
added-among xs x m false c e h = is_among-append xs (x ∷ []) m ∙ ap (λ z. is_among xs m || (z || false)) h

-- one mention more, where it is not there already: the same mentions are there as with it in any case
pub is_among-with_new : (xs : List Mention) (x m : Mention) → is_among (with_new xs x) m ≡ is_among (xs ++ x ∷ []) m
is_among-with_new xs x m = added-among xs x m (is_among xs x) (same_mention m x) refl refl ∙ sym (is_among-append xs (x ∷ []) m)

-- one after another
among-folded : (seen xs : List Mention) (m : Mention) → is_among (fold with_new seen xs) m ≡ is_among (seen ++ xs) m
among-folded seen [] m = sym (or-false (is_among seen m)) ∙ sym (is_among-append seen [] m)
among-folded seen (x ∷ xs) m =
    among-folded (with_new seen x) xs m
    ∙ is_among-append (with_new seen x) xs m
    ∙ ap (λ b. b || is_among xs m) (is_among-with_new seen x m)
    ∙ sym (is_among-append (seen ++ x ∷ []) xs m)
    ∙ ap (λ ys. is_among ys m) (append_assoc seen (x ∷ []) xs)

-- the same mentions are there without repeats
pub is_among-distinct : (xs : List Mention) (m : Mention) → is_among (distinct xs) m ≡ is_among xs m
is_among-distinct xs m = among-folded [] xs m

-- the mentions of two lists without repeats: those of the first, with what is new in the second
pub distinct-append : (xs ys : List Mention) → distinct (xs ++ ys) ≡ fold with_new (distinct xs) ys
distinct-append xs ys = fold-append with_new [] xs ys
