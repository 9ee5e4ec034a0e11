-- Mentions move from one state to another.
use Rattle.std.proofs.Common.{◌≡◌, ℕ, ◌+◌, ◌≤◌, List, [], ◌∷◌, ◌++◌, length, take, Bool, true, false, cond, refl, arith, length-append}
use Rattle.std.proofs.lemmas.List.{take-append-le}
use Rattle.od_extraction.specs.declared.mention.Mention.{Mention}
use Rattle.od_extraction.specs.Mentions.{is_among, with_new}
use Rattle.od_extraction.specs.Weight.{weight}
use Rattle.od_matching.proofs.Rounds.Weights.{weight-append}

kept-by : (b : Bool) (n : ℕ) (ms : List Mention) (m : Mention) → n ≤ length ms → take n (cond b ms (ms ++ m ∷ [])) ≡ take n ms
kept-by true n ms m h = refl
kept-by false n ms m h = take-append-le n ms (m ∷ []) h

-- the first mentions stay
pub kept-with : (n : ℕ) (ms : List Mention) (m : Mention) → n ≤ length ms → take n (with_new ms m) ≡ take n ms
kept-with n ms m h = kept-by (is_among ms m) n ms m h

long-by : (b : Bool) (ms : List Mention) (m : Mention) → length ms ≤ length (cond b ms (ms ++ m ∷ []))
long-by true ms m = omega arith
long-by false ms m = omega (arith, length-append ms (m ∷ []))

-- there are not fewer
pub long-with : (ms : List Mention) (m : Mention) → length ms ≤ length (with_new ms m)
long-with ms m = long-by (is_among ms m) ms m

weight-by : (b : Bool) (ms : List Mention) (m : Mention) → weight (cond b ms (ms ++ m ∷ [])) ≤ weight ms + (1 + length m.parts)
weight-by true ms m = omega arith
weight-by false ms m = omega (arith, weight-append ms (m ∷ []))

-- they weigh at most so much more
pub weight-with : (ms : List Mention) (m : Mention) → weight (with_new ms m) ≤ weight ms + (1 + length m.parts)
weight-with ms m = weight-by (is_among ms m) ms m
