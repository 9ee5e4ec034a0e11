-- What holds of each element, by recursion and by index.
use Rattle.std.proofs.Common.{zero, suc, List, [], ◌∷◌, All, arith}
use Rattle.od_text.specs.Lists.{Each}

pub all_each : {A : Type 0} (P : A → Type 0) (xs : List A) → All P xs → Each P xs
all_each P [] h = tt
all_each P (x ∷ xs) h = (h 0 x (omega arith), all_each P xs (λ i d l. h (suc i) d (omega arith)))

pub each_all : {A : Type 0} (P : A → Type 0) (xs : List A) → Each P xs → All P xs
each_all P [] h i d l = absurd (omega arith)
each_all P (x ∷ xs) h zero d l = h.0
each_all P (x ∷ xs) h (suc i) d l = each_all P xs h.1 i d (omega arith)
