-- Scalars between quotes, run by run.
use Rattle.std.proofs.Common.{◌≡◌, ℕ, suc, ◌+◌, ◌<◌, List, [], ◌∷◌, take, drop, get_or, Bool, true, false, Option, Some, None, refl, sym, ap, ◌∙◌, arith, eqb-true}
use Rattle.std.specs.Prelude.{◌==◌, ◌||◌, not, if◌then◌else◌}
use Rattle.std.specs.Option.{option_map}
use Rattle.std.specs.List.{prefix_len}
use Rattle.std.specs.Str.{IsUtf8, IsCharBoundary}
use Rattle.std.proofs.lemmas.List.Sums.{prefix_len-le-length, prefix_len_stops}
use Rattle.od_rule_text.specs.Scalars.{quoted, may_follow_quote, escaped}
use Rattle.od_yaml.specs.Quotes.{is_ordinary, behind}

behind_cons : (c : ℕ) (a : List ℕ) (o : Option (List ℕ)) → option_map (λ t. c ∷ t) (behind a o) ≡ behind (c ∷ a) o
behind_cons c a None = refl
behind_cons c a (Some t) = refl

behind_nothing : (o : Option (List ℕ)) → behind [] o ≡ o
behind_nothing None = refl
behind_nothing (Some t) = refl

special_ascii : (c : ℕ) → is_ordinary c ≡ false → c < 128
special_ascii c h = by (c == 34) (c == 92) refl refl h
  where
    by : (q b : Bool) → (c == 34) ≡ q → (c == 92) ≡ b → not (q || b) ≡ false → c < 128
    by true b e f h = omega (arith, eqb-true _ _ e)
    by false true e f h = omega (arith, eqb-true _ _ f)
    by false false e f h = absurd (cc)

pub escaped_ascii : (c b : ℕ) → escaped c ≡ Some b → c < 128
escaped_ascii c b h = by (c == 34 || c == 92) (c == 110) (c == 116) refl refl refl h
  where
    both : (x y : Bool) → (c == 34) ≡ x → (c == 92) ≡ y → (x || y) ≡ true → c < 128
    both true y e f h = omega (arith, eqb-true _ _ e)
    both false true e f h = omega (arith, eqb-true _ _ f)
    both false false e f h = absurd (cc)

    by : (x n t : Bool) → (c == 34 || c == 92) ≡ x → (c == 110) ≡ n → (c == 116) ≡ t → (if x then Some c else (if n then Some 10 else (if t then Some 9 else None))) ≡ Some b → c < 128
    by true n t e f g h = both (c == 34) (c == 92) refl refl e
    by false true t e f g h = omega (arith, eqb-true _ _ f)
    by false false true e f g h = omega (arith, eqb-true _ _ g)
    by false false false e f g h = absurd (cc)

plain_step : (c : ℕ) (s : List ℕ) (q b : Bool) → not (q || b) ≡ true
    → (if q then (if may_follow_quote s then Some [] else None) else (if b then quoted true s else option_map (λ t. c ∷ t) (quoted false s))) ≡ option_map (λ t. c ∷ t) (quoted false s)
plain_step c s true b e = absurd (cc)
plain_step c s false true e = absurd (cc)
plain_step c s false false e = refl

run_by : (c : ℕ) (s : List ℕ) (t : Bool) → is_ordinary c ≡ t → quoted false s ≡ behind (take (prefix_len is_ordinary s) s) (quoted false (drop (prefix_len is_ordinary s) s))
    → quoted false (c ∷ s) ≡ behind (take (if t then 1 + prefix_len is_ordinary s else 0) (c ∷ s)) (quoted false (drop (if t then 1 + prefix_len is_ordinary s else 0) (c ∷ s)))
run_by c s true e more =
    let n : 1 + prefix_len is_ordinary s ≡ suc (prefix_len is_ordinary s) = omega arith in
    plain_step c s (c == 34) (c == 92) e ∙ ap (option_map (λ t. c ∷ t)) more ∙ behind_cons c (take (prefix_len is_ordinary s) s) (quoted false (drop (prefix_len is_ordinary s) s))
    ∙ rw n refl
run_by c s false e more = sym (behind_nothing (quoted false (c ∷ s)))

-- the run before the first quote or backslash
pub quoted_run : (s : List ℕ) → quoted false s ≡ behind (take (prefix_len is_ordinary s) s) (quoted false (drop (prefix_len is_ordinary s) s))
quoted_run [] = refl
quoted_run (c ∷ s) = run_by c s (is_ordinary c) refl (quoted_run s)

-- behind the run comes the end, a quote or a backslash
run_ends : (c : ℕ) (s : List ℕ) (t : Bool) → prefix_len is_ordinary (drop (prefix_len is_ordinary s) s) ≡ 0 → is_ordinary c ≡ t
    → prefix_len is_ordinary (drop (if t then 1 + prefix_len is_ordinary s else 0) (c ∷ s)) ≡ 0
run_ends c s true more e = let n : 1 + prefix_len is_ordinary s ≡ suc (prefix_len is_ordinary s) = omega arith in rw n more
run_ends c s false more e = ap (λ (t : Bool). if t then 1 + prefix_len is_ordinary s else 0) e

pub run_stops : (s : List ℕ) → prefix_len is_ordinary (drop (prefix_len is_ordinary s) s) ≡ 0
run_stops [] = refl
run_stops (c ∷ s) = run_ends c s (is_ordinary c) (run_stops s) refl

pub run_boundary : (s : List ℕ) → IsUtf8 s → IsCharBoundary s (prefix_len is_ordinary s)
run_boundary s u = (prefix_len-le-length is_ordinary s, λ h ascii. absurd (omega (arith, special_ascii (get_or s (prefix_len is_ordinary s) 0) (prefix_len_stops is_ordinary s 0 h), ascii)))
