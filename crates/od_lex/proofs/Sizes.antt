-- Sizes in bytes, and steps of the lexer.
use Rattle.std.proofs.Common.{◌≡◌, ℕ, zero, suc, ◌+◌, ◌-◌, ◌<◌, ◌≤◌, true, false, List, [], ◌∷◌, ◌++◌, length, take, drop, get_or, Option, Some, None, Ok, Err, refl, sym, ◌∙◌, ap, subst, arith, add-one, length-append}
use Rattle.std.proofs.lemmas.List.{drop-drop, take-append-drop}
use Rattle.std.proofs.lemmas.Str.{length-encode, encodes-chars}
use Rattle.std.specs.Char.{encode_utf8, len_utf8, is_whitespace}
use Rattle.std.specs.Str.{encode_utf8_all, chars, IsUtf8}
use Rattle.od_language.specs.declared.lexeme.Lexeme.{Lexeme}
use Rattle.od_language.specs.declared.lexeme.LexKind.{LexKind}
use Rattle.od_language.specs.declared.lexeme.LexKind.TheVariants as lexeme
use Rattle.od_language.specs.declared.lexeme.Miss.{Miss}
use Rattle.od_language.specs.Forms.{form}
use Rattle.od_language.specs.Lexing.{size_of as bytes}
use Rattle.od_language.specs.Formed.{Formed, end, stuck, white, next}

bytes_next : (xs : List ℕ) (i c : ℕ) → i < length xs → c ≡ get_or xs i c → bytes (take (suc i) xs) ≡ bytes (take i xs) + len_utf8 c
bytes_next [] i c h e = absurd (omega arith)
bytes_next (x ∷ xs) zero c h e = let r : len_utf8 c ≡ len_utf8 x = ap len_utf8 e in omega arith
bytes_next (x ∷ xs) (suc i) c h e = let r : bytes (take (suc i) xs) ≡ bytes (take i xs) + len_utf8 c = bytes_next xs i c (omega arith) e in omega arith

pub bytes_more : (xs : List ℕ) (i c : ℕ) → i < length xs → c ≡ get_or xs i c → bytes (take (i + 1) xs) ≡ bytes (take i xs) + len_utf8 c
bytes_more xs i c h e = rw add-one (bytes_next xs i c h e)

pub bytes_most : (xs : List ℕ) (i : ℕ) → bytes (take i xs) ≤ bytes xs
bytes_most [] zero = omega arith
bytes_most [] (suc i) = omega arith
bytes_most (x ∷ xs) zero = omega arith
bytes_most (x ∷ xs) (suc i) = omega (arith, bytes_most xs i)

pub bytes_split : (xs : List ℕ) (n : ℕ) → bytes xs ≡ bytes (take n xs) + bytes (drop n xs)
bytes_split [] zero = omega arith
bytes_split [] (suc i) = omega arith
bytes_split (x ∷ xs) zero = omega arith
bytes_split (x ∷ xs) (suc i) = omega (arith, bytes_split xs i)

bytes_encodes : (cs : List ℕ) → bytes cs ≡ length (encode_utf8_all cs)
bytes_encodes [] = refl
bytes_encodes (c ∷ cs) = let s : length (encode_utf8 c ++ encode_utf8_all cs) ≡ length (encode_utf8 c) + length (encode_utf8_all cs) = length-append (encode_utf8 c) (encode_utf8_all cs) in omega (arith, s, bytes_encodes cs, length-encode c)

pub bytes_of : (bs : List ℕ) → IsUtf8 bs → bytes (chars bs) ≡ length bs
bytes_of bs u = bytes_encodes (chars bs) ∙ ap length (encodes-chars bs u)

pub white_on : (at i c : ℕ) (cs : List ℕ) (xs : List Lexeme) (f : Option (ℕ × Miss)) → drop i cs ≡ c ∷ drop (i + 1) cs → is_whitespace c ≡ true →
    Formed (at + len_utf8 c) (drop (i + 1) cs) xs f → Formed at (drop i cs) xs f
white_on at i c cs xs f e w l = subst (λ (z : List ℕ). Formed at z xs f) (sym e) (white at c (drop (i + 1) cs) xs f w l)

pub stuck_on : (at i c : ℕ) (cs : List ℕ) (m : Miss) → drop i cs ≡ c ∷ drop (i + 1) cs → is_whitespace c ≡ false → form c (drop (i + 1) cs) ≡ Err m →
    Formed at (drop i cs) ((record { at = at; kind = lexeme.End }) ∷ []) (Some (at, m))
stuck_on at i c cs m e w h = subst (λ (z : List ℕ). Formed at z ((record { at = at; kind = lexeme.End }) ∷ []) (Some (at, m))) (sym e) (stuck at c (drop (i + 1) cs) m w h)

pub end_on : (at i : ℕ) (cs : List ℕ) → drop i cs ≡ [] → Formed at (drop i cs) ((record { at = at; kind = lexeme.End }) ∷ []) None
end_on at i cs e = subst (λ (z : List ℕ). Formed at z ((record { at = at; kind = lexeme.End }) ∷ []) None) (sym e) (end at)

-- what a lexeme takes, and what is behind it
parted : (i to : ℕ) (cs : List ℕ) → i ≤ to → drop i cs ≡ take (to - i) (drop i cs) ++ drop to cs
parted i to cs h = sym (take-append-drop (to - i) (drop i cs)) ∙ ap (λ z. take (to - i) (drop i cs) ++ z) (drop-drop (to - i) i cs ∙ ap (λ z. drop z cs) (omega arith))

pub form_on : (at i to c size : ℕ) (cs : List ℕ) (k : LexKind) (xs : List Lexeme) (f : Option (ℕ × Miss)) → drop i cs ≡ c ∷ drop (i + 1) cs → is_whitespace c ≡ false →
    form c (drop (i + 1) cs) ≡ Ok (k, drop to cs) → i + 1 ≤ to → size ≡ bytes (take (to - (i + 1)) (drop (i + 1) cs)) →
    Formed (at + (len_utf8 c + size)) (drop to cs) xs f → Formed at (drop i cs) ((record { at = at; kind = k }) ∷ xs) f
form_on at i to c size cs k xs f e w h b s l =
    let front : List ℕ = take (to - (i + 1)) (drop (i + 1) cs) in
    let part : drop (i + 1) cs ≡ front ++ drop to cs = parted (i + 1) to cs b in
    let on : form c (front ++ drop to cs) ≡ Ok (k, drop to cs) = ap (form c) (sym part) ∙ h in
    let place : at + (len_utf8 c + size) ≡ at + len_utf8 c + bytes front = omega (arith, s) in
    let at_next : Formed (at + len_utf8 c + bytes front) (drop to cs) xs f = subst (λ (z : ℕ). Formed z (drop to cs) xs f) place l in
    subst (λ (z : List ℕ). Formed at z ((record { at = at; kind = k }) ∷ xs) f) (sym (e ∙ ap (λ z. c ∷ z) part)) (next at c front (drop to cs) k xs f w on at_next)

pub sized : (i to : ℕ) (cs : List ℕ) → i ≤ to → bytes (drop i cs) ≡ bytes (take (to - i) (drop i cs)) + bytes (drop to cs)
sized i to cs h = bytes_split (drop i cs) (to - i) ∙ ap (λ z. bytes (take (to - i) (drop i cs)) + bytes z) (drop-drop (to - i) i cs ∙ ap (λ z. drop z cs) (omega arith))
