-- A text whose length was read.
use Rattle.std.proofs.Common.{◌≡◌, ℕ, ◌≤◌, List, length, take, drop, false, Ok, Err, refl}
use Rattle.std.specs.Prelude.{IsUtf8}
use Rattle.std.specs.Str.{is_utf8}
use Rattle.std.proofs.lemmas.Bool.{le-ltb, false_from_ne_true}
use Rattle.std.proofs.lemmas.Str.{IsUtf8-from_is_utf8, is_utf8-from_IsUtf8}
use Rattle.od_stored.specs.declared.fault.CodecFault.TheVariants as fault
use Rattle.od_stored.specs.Texts.{place, number_at, text_at}

pub text_is : (total size : ℕ) (bytes left text rest : List ℕ) → number_at total bytes ≡ Ok (size, left) → size ≤ length left
    → IsUtf8 (take size left) → text ≡ take size left → rest ≡ drop size left → text_at total bytes ≡ Ok (text, rest)
unfolding text_at
text_is total size bytes left text rest read long utf8 t r = rw (read, le-ltb (length left) size long, is_utf8-from_IsUtf8 (take size left) utf8, t, r) refl

pub text_is_bad : (total size : ℕ) (bytes left : List ℕ) → number_at total bytes ≡ Ok (size, left) → size ≤ length left
    → (IsUtf8 (take size left) → ⊥) → text_at total bytes ≡ Err (fault.BadText (place total bytes))
unfolding text_at
text_is_bad total size bytes left read long bad =
    let no : is_utf8 (take size left) ≡ false = false_from_ne_true (is_utf8 (take size left)) (λ yes. bad (IsUtf8-from_is_utf8 (take size left) yes)) in
    rw (read, le-ltb (length left) size long, no) refl
