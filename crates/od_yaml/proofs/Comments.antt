-- Places in plain scalars.
use Rattle.std.proofs.Common.{◌≡◌, ℕ, suc, ◌+◌, ◌<◌, ◌≤◌, List, [], ◌∷◌, length, take, get_or, Bool, true, false, refl, ap, arith}
use Rattle.std.specs.Prelude.{◌&&◌, if◌then◌else◌}
use Rattle.std.specs.Str.{IsCharBoundary}
use Rattle.od_rule_text.specs.Blanks.{is_blank}
use Rattle.od_rule_text.specs.Texts.{begins_with}
use Rattle.od_rule_text.specs.Scalars.{before_comment}
use Rattle.od_yaml.specs.Comments.{comment_place}
use Rattle.od_yaml.proofs.Blanks.{blank_ascii}

before_by : (c : ℕ) (s : List ℕ) (t : Bool) → take (comment_place s) s ≡ before_comment s → take (if t then 0 else 1 + comment_place s) (c ∷ s) ≡ (if t then [] else c ∷ before_comment s)
before_by c s true more = refl
before_by c s false more = let n : 1 + comment_place s ≡ suc (comment_place s) = omega arith in rw n (ap (λ ys. c ∷ ys) more)

pub before_comment_is : (s : List ℕ) → take (comment_place s) s ≡ before_comment s
before_comment_is [] = refl
before_comment_is (c ∷ s) = before_by c s (is_blank c && begins_with 35 s) (before_comment_is s)

first_true : (a b : Bool) → (a && b) ≡ true → a ≡ true
first_true true b h = refl
first_true false b h = absurd (cc)

-- a place is the end, or a blank stands there
abbrev pub IsEndOrBlank : List ℕ → ℕ → Type 0
IsEndOrBlank s n = (n ≤ length s) × (n < length s → is_blank (get_or s n 0) ≡ true)

place_by : (c : ℕ) (s : List ℕ) (t : Bool) → (is_blank c && begins_with 35 s) ≡ t → IsEndOrBlank s (comment_place s) → IsEndOrBlank (c ∷ s) (if t then 0 else 1 + comment_place s)
place_by c s true e more = (omega arith, λ h. first_true (is_blank c) (begins_with 35 s) e)
place_by c s false e more = let n : 1 + comment_place s ≡ suc (comment_place s) = omega arith in (omega (arith, more.0), λ h. rw n (more.1 (omega (arith, h))))

place_is : (s : List ℕ) → IsEndOrBlank s (comment_place s)
place_is [] = (omega arith, λ h. absurd (omega (arith, h)))
place_is (c ∷ s) = place_by c s (is_blank c && begins_with 35 s) refl (place_is s)

boundary_there : (s : List ℕ) (n : ℕ) → IsEndOrBlank s n → IsCharBoundary s n
boundary_there s n is = (is.0, λ h ascii. absurd (omega (arith, blank_ascii (get_or s n 0) (is.1 h), ascii)))

pub comment_boundary : (s : List ℕ) → IsCharBoundary s (comment_place s)
comment_boundary s = boundary_there s (comment_place s) (place_is s)
