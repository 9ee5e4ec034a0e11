-- Numbers, digit by digit.
use Rattle.std.proofs.Common.{◌≡◌, ℕ, zero, suc, ◌+◌, ◌-◌, ◌*◌, ◌^◌, ◌<◌, ◌≤◌, List, length, get_or, drop, drop-cons, add-zero, add-suc, add-one, true, false, refl, arith}
use Rattle.std.specs.Prelude.{None}
use Rattle.std.proofs.Math.Nat.{pow-suc}
use Rattle.od_order.specs.Names.{is_digit, digits_from}

-- fewer digits give a smaller number
grows : (i k : ℕ) → 10 ^ i ≤ 10 ^ (i + k)
grows i zero = simp add-zero (omega arith)
grows i (suc k) = let h = grows i k in rw (add-suc, pow-suc) (omega (arith, h))

pub below_nine : (i : ℕ) → i < 9 → 10 ^ i ≤ 100000000
below_nine i few =
    let e : i + (8 - i) ≡ 8 = omega arith in
    rw e at (grows i (8 - i))

pub next_digit : (n i b : ℕ) → n < 10 ^ i → b < 58 → n * 10 + (b - 48) < 10 ^ (i + 1)
next_digit n i b below digit = rw (add-one, pow-suc) (omega arith)

pub digit_below : (b : ℕ) → is_digit b ≡ true → b < 58
digit_below b e = grind (arith, e)

-- the digits from a place on
pub digits_more : (n : ℕ) (text : List ℕ) (i : ℕ) → i < length text → is_digit (get_or text i 0) ≡ true → digits_from n (drop i text) ≡ digits_from (n * 10 + (get_or text i 0 - 48)) (drop (i + 1) text)
digits_more n text i within e = rw (drop-cons text i 0 within, add-one) (rw e refl)

pub digits_stop : (n : ℕ) (text : List ℕ) (i : ℕ) → i < length text → is_digit (get_or text i 0) ≡ false → digits_from n (drop i text) ≡ None
digits_stop n text i within e = rw (drop-cons text i 0 within) (rw e refl)
