-- Where a name ends.
use Rattle.std.proofs.Common.{◌≡◌, ℕ, zero, suc, ◌<◌, ◌≤◌, List, length, get_or, Bool, true, false, refl, subst, arith, add-one}
use Rattle.std.specs.Prelude.{◌==◌, ◌||◌, nat_le}
use Rattle.std.specs.Int.{is_in_range}
use Rattle.std.proofs.lemmas.Bool.{leb-true, eqb-true}
use Rattle.od_rule_text.proofs.Outcomes.{both}
use Rattle.std.specs.List.{prefix_len}
use Rattle.std.specs.Str.{IsUtf8, IsCharBoundary}
use Rattle.std.proofs.lemmas.Str.{IsCharBoundary-start, IsCharBoundary-after_ascii}
use Rattle.std.proofs.lemmas.List.Sums.{prefix_len_passes, prefix_len-le-length}
use Rattle.od_language.specs.Identifier.{in_identifier}

range_below : (lo hi c : ℕ) → hi < 128 → is_in_range lo hi c ≡ true → c < 128
range_below lo hi c small h = omega (arith, small, leb-true c hi (both (nat_le lo c) (nat_le c hi) h).1)

identifier_ascii : (c : ℕ) → in_identifier c ≡ true → c < 128
identifier_ascii c h = by_class (is_in_range 48 57 c) (is_in_range 65 90 c) (is_in_range 97 122 c) (c == 95) refl refl refl refl h
  where
    by_class : (digit upper lower mark : Bool) → is_in_range 48 57 c ≡ digit → is_in_range 65 90 c ≡ upper → is_in_range 97 122 c ≡ lower → (c == 95) ≡ mark → (((digit || upper) || lower) || mark) ≡ true → c < 128
    by_class true upper lower mark d u l m h = range_below 48 57 c (omega arith) d
    by_class false true lower mark d u l m h = range_below 65 90 c (omega arith) u
    by_class false false true mark d u l m h = range_below 97 122 c (omega arith) l
    by_class false false false true d u l m h = omega (arith, eqb-true c 95 m)
    by_class false false false false d u l m h = absurd (cc)

-- a text may be cut inside a front of ASCII
boundary_within : (s : List ℕ) (n : ℕ) → IsUtf8 s → n ≤ prefix_len in_identifier s → IsCharBoundary s n
boundary_within s zero u h = IsCharBoundary-start s u
boundary_within s (suc k) u h =
    let within : k < length s = omega (arith, prefix_len-le-length in_identifier s) in
    let before : k < prefix_len in_identifier s = omega arith in
    subst (IsCharBoundary s) (add-one k) (IsCharBoundary-after_ascii s k u within (identifier_ascii (get_or s k 0) (prefix_len_passes in_identifier s k 0 before)))

pub name_boundary : (s : List ℕ) → IsUtf8 s → IsCharBoundary s (prefix_len in_identifier s)
name_boundary s u = boundary_within s (prefix_len in_identifier s) u (omega arith)
