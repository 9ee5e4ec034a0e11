-- Texts that grow by a character.
use Rattle.std.proofs.Common.{◌≡◌, ℕ, zero, suc, ◌+◌, ◌<◌, List, [], ◌∷◌, ◌++◌, length, take, drop, drop-drop, get_or, Option, Some, None, refl, sym, ◌∙◌, ap, arith, append_assoc, add-one, append-nil, ◌≤◌, ◌*◌, ◌-◌, Bool, true, false, cond}
use Rattle.std.specs.List.{prefix_len}
use Rattle.std.specs.Char.{encode_utf8}
use Rattle.std.specs.Str.{encode_utf8_all}
use Rattle.od_language.specs.Forms as lex
use Rattle.od_language.specs.Spelling.{value_from}

spelled_next : (xs : List ℕ) (i : ℕ) (c : ℕ) → i < length xs → c ≡ get_or xs i c → encode_utf8_all (take (suc i) xs) ≡ encode_utf8_all (take i xs) ++ encode_utf8 c
spelled_next [] i c h e = absurd (omega arith)
spelled_next (x ∷ xs) zero c h e = append-nil (encode_utf8 x) ∙ ap encode_utf8 (sym e)
spelled_next (x ∷ xs) (suc i) c h e = ap (λ z. encode_utf8 x ++ z) (spelled_next xs i c (omega arith) e) ∙ sym (append_assoc (encode_utf8 x) _ _)

pub spelled_more : (xs : List ℕ) (i : ℕ) (c : ℕ) → i < length xs → c ≡ get_or xs i c → encode_utf8_all (take (i + 1) xs) ≡ encode_utf8_all (take i xs) ++ encode_utf8 c
spelled_more xs i c h e = rw add-one (spelled_next xs i c h e)

pub before_more : (a b : List ℕ) (o : Option (List ℕ × List ℕ)) → lex.before (a ++ b) o ≡ lex.before a (lex.before b o)
before_more a b None = refl
before_more a b (Some x) = ap (λ z. Some (z, x.1)) (append_assoc a b x.0)

pub before_none : (o : Option (List ℕ × List ℕ)) → lex.before [] o ≡ o
before_none None = refl
before_none (Some x) = refl

pub value_grows : (n : ℕ) (ds : List ℕ) → n ≤ value_from n ds
value_grows n [] = omega arith
value_grows n (d ∷ ds) = omega (arith, value_grows (n * 10 + (d - 48)) ds)

prefix_by : (b : Bool) (m n : ℕ) → m ≤ n → cond b (1 + m) 0 ≤ suc n
prefix_by true m n h = omega arith
prefix_by false m n h = omega arith

pub prefix_most : (p : ℕ → Bool) (xs : List ℕ) → prefix_len p xs ≤ length xs
prefix_most p [] = omega arith
prefix_most p (x ∷ xs) = prefix_by (p x) (prefix_len p xs) (length xs) (prefix_most p xs)

pub part_is : (xs : List ℕ) (from n end : ℕ) → end ≡ from + n → take (end - from) (drop from xs) ≡ take n (drop from xs)
part_is xs from n end e = ap (λ z. take z (drop from xs)) (omega arith)

pub rest_is : (xs : List ℕ) (from n end : ℕ) → end ≡ from + n → drop end xs ≡ drop n (drop from xs)
rest_is xs from n end e = ap (λ z. drop z xs) e ∙ sym (drop-drop n from xs)
