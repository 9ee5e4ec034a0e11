-- Where texts may be cut, and what stands at their ends.
use Rattle.std.proofs.Math.Seq.{take-nil}
use Rattle.std.proofs.Common.{◌≡◌, ℕ, zero, suc, ◌-◌, ◌<◌, ◌≤◌, List, [], ◌∷◌, length, take, drop, get_or, Bool, true, false, refl, sym, ap, ◌∙◌, subst, arith, add-one, eqb-true}
use Rattle.std.specs.Prelude.{◌==◌, ◌||◌, ◌&&◌, if◌then◌else◌}
use Rattle.std.specs.List.{prefix_len, list_all}
use Rattle.std.specs.Str.{IsUtf8, IsCharBoundary}
use Rattle.std.proofs.lemmas.Str.{IsCharBoundary-start, IsCharBoundary-after_ascii}
use Rattle.std.proofs.lemmas.List.Sums.{prefix_len_passes, prefix_len-le-length}
use Rattle.std.proofs.lemmas.List.Folds.{list_all_at}
use Rattle.od_rule_text.specs.Blanks.{is_blank, without_last}
use Rattle.od_rule_text.specs.Texts.{begins_with}
use Rattle.od_rule_text.specs.Statements.{is_item}

-- a text may be cut inside a front of ASCII
pub boundary_within : (p : ℕ → Bool) → ((c : ℕ) → p c ≡ true → c < 128) → (s : List ℕ) (n : ℕ) → IsUtf8 s → n ≤ prefix_len p s → IsCharBoundary s n
boundary_within p ascii s zero u h = IsCharBoundary-start s u
boundary_within p ascii s (suc k) u h =
    let within : k < length s = omega (arith, prefix_len-le-length p s) in
    let before : k < prefix_len p s = omega arith in
    subst (IsCharBoundary s) (add-one k) (IsCharBoundary-after_ascii s k u within (ascii (get_or s k 0) (prefix_len_passes p s k 0 before)))

pub boundary_prefix : (p : ℕ → Bool) → ((c : ℕ) → p c ≡ true → c < 128) → (s : List ℕ) → IsUtf8 s → IsCharBoundary s (prefix_len p s)
boundary_prefix p ascii s u = boundary_within p ascii s (prefix_len p s) u (omega arith)

pub blank_ascii : (c : ℕ) → is_blank c ≡ true → c < 128
blank_ascii c h = by (c == 32) (c == 9) refl refl h
  where
    by : (a b : Bool) → (c == 32) ≡ a → (c == 9) ≡ b → (a || b) ≡ true → c < 128
    by true b e f h = omega (arith, eqb-true _ _ e)
    by false true e f h = omega (arith, eqb-true _ _ f)
    by false false e f h = absurd (cc)

pub space_ascii : (c : ℕ) → (c == 32) ≡ true → c < 128
space_ascii c h = omega (arith, eqb-true _ _ h)

before_last : {A : Type 0} (p : A → Bool) (x : A) (xs : List A) (n : ℕ) (d : A) → 0 < n → p (get_or (x ∷ xs) n d) ≡ false → p (get_or xs (n - 1) d) ≡ false
before_last p x xs zero d h e = absurd (omega arith)
before_last p x xs (suc n) d h e = let k : suc n - 1 ≡ n = omega arith in rw k e

-- before a place from which on all pass, and before which one does not
pub without_last_is : {A : Type 0} (p : A → Bool) (xs : List A) (n : ℕ) (d : A) → n ≤ length xs → list_all p (drop n xs) ≡ true → (0 < n → p (get_or xs (n - 1) d) ≡ false) → take n xs ≡ without_last p xs
without_last_is p [] n d within all stops = take-nil n
without_last_is p (x ∷ xs) zero d within all stops = ap (λ (t : Bool). if t then [] else x ∷ without_last p xs) (sym all)
without_last_is p (x ∷ xs) (suc n) d within all stops =
    let k : suc n - 1 ≡ n = omega arith in
    let last : p (get_or (x ∷ xs) n d) ≡ false = subst (λ j. p (get_or (x ∷ xs) j d) ≡ false) k (stops (omega arith)) in
    let some : list_all p (x ∷ xs) ≡ false = list_all_at p (x ∷ xs) n d (omega arith) last in
    ap (λ ys. x ∷ ys) (without_last_is p xs n d (omega arith) all (λ h. before_last p x xs n d h last)) ∙ ap (λ (t : Bool). if t then [] else x ∷ without_last p xs) (sym some)

-- behind an ASCII byte at the front
pub boundary_after_first : (c : ℕ) (s : List ℕ) → c < 128 → IsUtf8 s → begins_with c s ≡ true → IsCharBoundary s 1
boundary_after_first c [] ascii u e = absurd (cc)
boundary_after_first c (b ∷ s) ascii u e = IsCharBoundary-after_ascii (b ∷ s) 0 u (omega arith) (omega (arith, eqb-true b c e))

item_second : (s : List ℕ) → is_item s ≡ true → (1 < length s) × (get_or s 1 0 < 128)
item_second [] e = absurd (cc)
item_second (b ∷ []) e = absurd (short (45 == b) e)
  where
    short : (t : Bool) → (t && false) ≡ true → ⊥
    short true e = absurd (cc)
    short false e = absurd (cc)
item_second (b ∷ d ∷ s) e = (omega arith, omega (arith, eqb-true 32 d (second (45 == b) (32 == d) e)))
  where
    second : (t v : Bool) → (t && (v && true)) ≡ true → v ≡ true
    second true true e = refl
    second true false e = absurd (cc)
    second false v e = absurd (cc)

-- behind `- `
pub boundary_after_dash : (s : List ℕ) → IsUtf8 s → is_item s ≡ true → IsCharBoundary s 2
boundary_after_dash s u e = let h = item_second s e in let within = h.0 in let ascii = h.1 in IsCharBoundary-after_ascii s 1 u within ascii
