-- How a surface pattern goes from a place to a place of a sentence:
-- as a relation, and the preferred way as a function.
use Rattle.std.specs.Prelude.{ℕ, zero, suc, ◌-◌, ◌≤◌, Bool, true, false, not, List, Option, Some, None, if◌then◌else◌, nat_lt, nat_le, ◌==◌, ◌&&◌}
use Rattle.od_matching.specs.Matching.Choice.{Relation, Stays, OneToken, Test, Jump, Never, Then, Choose, Either, Named, Times, Further, Endless}
use Rattle.od_matching.specs.Matching.First.{Trial, first_one, first_test, first_jump, first_never, first_then, first_or, first_named, first_times, first_further, first_endless}
use Rattle.od_pattern.specs.declared.pattern.Constraint.{Constraint}
use Rattle.od_pattern.specs.declared.pattern.Surface.{Surface, Row_of-Surface, end_of-Surface, more_of-Surface}
use Rattle.od_pattern.specs.declared.pattern.Surface.TheVariants.{Token, Label, Look, First, Last, Seq', Alt', Repeat', Capture'}

-- a sentence as patterns see it: how many tokens it has, whether a constraint holds at a token,
-- and whether a mention with this label has this span
pub record World : Type 0 where
  pub length : ℕ
  pub holds : Constraint → ℕ → Bool
  pub is_span : List ℕ → ℕ → ℕ → Bool

-- token i is there, and the constraint holds at it
abbrev pub fits_token : World → Constraint → ℕ → Bool
fits_token w c i = nat_lt i w.length && w.holds c i

-- the test of the place before i; where there is none it fails
abbrev pub holds_before : (ℕ → Bool) → ℕ → Bool
holds_before test zero = false
holds_before test (suc i) = test i

-- a look at the token at the place, or at the one before it, which must fit or must not
abbrev pub looks : World → Constraint → Bool → Bool → ℕ → Bool
looks w c true true i = fits_token w c i
looks w c true false i = not (fits_token w c i)
looks w c false true i = holds_before (fits_token w c) i
looks w c false false i = not (holds_before (fits_token w c) i)

-- the least turns without a choice, and then further ones up to the most
abbrev pub turns_from : Bool → Relation → ℕ → Option ℕ → Relation
turns_from lazy A least None i j c t = Times A least (Endless lazy A) i j c t
turns_from lazy A least (Some most) i j c t =
    (least ≤ most) × Times A least (Further lazy A (most - least)) i j c t

-- the same, the preferred way, within so many tokens
abbrev pub first_turns : ℕ → Bool → Trial → ℕ → Option ℕ → Trial
first_turns length lazy f least None k i = first_times f least (first_endless length lazy f) k i
first_turns length lazy f least (Some most) k i =
    if nat_le least most then first_times f least (first_further lazy f (most - least)) k i else None

module _ (w : World) where
  unfoldable mutual
    -- the pattern goes from place i to place j with the captures c by the choices t
    pub derives : Surface → Relation
    derives (Token c) = OneToken (fits_token w c)
    derives (Label name) = Jump w.length (w.is_span name)
    derives (Look ahead positive c) = Test (looks w c ahead positive)
    derives First = Test (λ i. i == 0)
    derives Last = Test (λ i. i == w.length)
    derives (Seq' v row) = in_order row
    derives (Alt' v row) = one_of 0 row
    derives (Repeat' v (more_of-Surface p end_of-Surface) turns) =
        turns_from turns.lazy (derives p) turns.least turns.most
    derives (Capture' name v (more_of-Surface p end_of-Surface)) = Named name (derives p)

    -- the parts one after another
    pub in_order : {m : _} → Row_of-Surface m → Relation
    in_order end_of-Surface = Stays
    in_order (more_of-Surface p rest) = Then (derives p) (in_order rest)

    -- one of the parts, by its number; k is the number of the first
    pub one_of : ℕ → {m : _} → Row_of-Surface m → Relation
    one_of k end_of-Surface = Never
    one_of k (more_of-Surface p rest) = Either (Choose k (derives p)) (one_of (suc k) rest)

  unfoldable mutual
    -- the preferred way through the pattern
    pub first : Surface → Trial
    first (Token c) = first_one (fits_token w c)
    first (Label name) = first_jump w.length (w.is_span name)
    first (Look ahead positive c) = first_test (looks w c ahead positive)
    first First = first_test (λ i. i == 0)
    first Last = first_test (λ i. i == w.length)
    first (Seq' v row) = first_order row
    first (Alt' v row) = first_of row
    first (Repeat' v (more_of-Surface p end_of-Surface) turns) =
        first_turns w.length turns.lazy (first p) turns.least turns.most
    first (Capture' name v (more_of-Surface p end_of-Surface)) = first_named name (first p)

    -- the parts one after another
    pub first_order : {m : _} → Row_of-Surface m → Trial
    first_order end_of-Surface = λ k i. k i
    first_order (more_of-Surface p rest) = first_then (first p) (first_order rest)

    -- the first of the parts that has a way
    pub first_of : {m : _} → Row_of-Surface m → Trial
    first_of end_of-Surface = first_never
    first_of (more_of-Surface p rest) = first_or (first p) (first_of rest)
