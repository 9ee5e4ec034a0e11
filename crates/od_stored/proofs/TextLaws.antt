-- Texts, and items in a row: what is written is read again, and what is read is written so.
use Rattle.std.proofs.Common.{◌≡◌, ℕ, zero, suc, ◌+◌, ◌<◌, ◌≤◌, true, false, cond, ltb, List, [], ◌∷◌, ◌++◌, length, take, drop, Result, Ok, Err, refl, sym, ap, subst, ◌∙◌, append_assoc, arith, inl, inr}
use Rattle.std.specs.Prelude.{flat_map}
use Rattle.std.specs.Str.{is_utf8}
use Rattle.std.proofs.lemmas.Bool.{ltb-false, le-ltb}
use Rattle.std.proofs.lemmas.List.{take_at, drop_at, take-append-drop, length-append, length-take, get_or-drop}
use Rattle.std.proofs.lemmas.Str.{IsUtf8-from_is_utf8, is_utf8-from_IsUtf8}
use Rattle.od_text.specs.Lists.{Each}
use Rattle.od_stored.specs.declared.fault.CodecFault.{CodecFault}
use Rattle.od_stored.specs.declared.fault.CodecFault.TheVariants as fault
use Rattle.od_stored.specs.declared.fault.NumberFault.{NumberFault}
use Rattle.od_stored.specs.declared.limits.TheConstants.{NUMBER_END}
use Rattle.od_stored.specs.Laws.{AreBytes}
use Rattle.od_stored.specs.Numbers.{number_bytes, number_read}
use Rattle.od_stored.specs.Steps.{◌>>=◌, in_a_row}
use Rattle.od_stored.specs.Texts.{place, placed, number_at, IsText, text_bytes, text_of, text_at}
use Rattle.od_stored.proofs.NumberLaws.{bind_ok, passed_ok, chosen, ok_is, Takes, number_again, number_takes}

pub Takes-then : (a x b y c : List ℕ) → Takes a x b → Takes b y c → Takes a (x ++ y) c
Takes-then a x b y c p q = record { parts = p.parts ∙ ap (λ (t : List ℕ). x ++ t) q.parts ∙ sym (append_assoc x y c); rest_fits = q.rest_fits }

AreBytes-drop : (n : ℕ) (bytes : List ℕ) → AreBytes bytes → AreBytes (drop n bytes)
AreBytes-drop n bytes h i = rw get_or-drop (h (n + i))

-- ## numbers within a list

placed_ok : {X : Type 0} (total : ℕ) (bytes : List ℕ) (r : Result X NumberFault) (x : X) → placed total bytes r ≡ Ok x → r ≡ Ok x
placed_ok total bytes (Ok y) x e = ap (λ (z : _). Ok z) (ok_is {E = CodecFault} y x e)
placed_ok total bytes (Err d) x e = absurd (cc)

pub at_again : (total n : ℕ) (rest : List ℕ) → n < NUMBER_END → number_at total (number_bytes n ++ rest) ≡ Ok (n, rest)
unfolding number_at
at_again total n rest lt = ap (placed total (number_bytes n ++ rest)) (number_again n rest lt)

pub at_takes : (total : ℕ) (bytes : List ℕ) (n : ℕ) (rest : List ℕ) → AreBytes bytes → number_at total bytes ≡ Ok (n, rest) → Takes bytes (number_bytes n) rest × (n < NUMBER_END)
unfolding number_at
at_takes total bytes n rest fits e = number_takes bytes n rest fits (placed_ok total bytes (number_read bytes) (n, rest) e)

-- ## texts

pub text_again : (total : ℕ) (text rest : List ℕ) → IsText text → text_at total (text_bytes text ++ rest) ≡ Ok (text, rest)
unfolding text_at
text_again total text rest is =
    let regrouped : text_bytes text ++ rest ≡ number_bytes (length text) ++ (text ++ rest) = append_assoc (number_bytes (length text)) text rest in
    let long : ltb (length (text ++ rest)) (length text) ≡ false = le-ltb _ _ (omega (arith, length-append text rest)) in
    let valid : is_utf8 text ≡ true = is_utf8-from_IsUtf8 text is.utf8 in
    ap (text_at total) regrouped ∙ rw (at_again total (length text) (text ++ rest) is.short, long, take_at text rest (length text) refl, drop_at text rest (length text) refl, valid) refl

pub text_takes : (total : ℕ) (bytes text rest : List ℕ) → AreBytes bytes → text_at total bytes ≡ Ok (text, rest) → Takes bytes (text_bytes text) rest × IsText text
unfolding text_at
text_takes total bytes text rest fits e =
    let b = bind_ok (number_at total bytes) (λ size. text_of total (place total bytes) size.0 size.1) (text, rest) e in
    let n : ℕ = b.0.0 in let left : List ℕ = b.0.1 in
    let t = at_takes total bytes n left fits b.1 in
    elim (chosen (ltb (length left) n) (Err (fault.Short total)) (cond (is_utf8 (take n left)) (Ok (take n left, drop n left)) (Err (fault.BadText (place total bytes)))) (Ok (text, rest)) b.2) [
      | inl p ↦ absurd (cc p.1)
      | inr q ↦
          let g = passed_ok (is_utf8 (take n left)) (fault.BadText (place total bytes)) (take n left, drop n left) (text, rest) q.1 in
          let long : n ≤ length left = ltb-false _ _ q.0 in
          let len : length (take n left) ≡ n = omega (arith, length-take n left) in
          let second : Takes left (take n left) (drop n left) = record { parts = sym (take-append-drop n left); rest_fits = AreBytes-drop n left t.0.rest_fits } in
          let both = Takes-then bytes (number_bytes n) left (take n left) (drop n left) t.0 second in
          let whole : Takes bytes (text_bytes (take n left)) (drop n left) = subst (λ (k : ℕ). Takes bytes (number_bytes k ++ take n left) (drop n left)) (sym len) both in
          let is : IsText (take n left) = record { short = omega (arith, t.1); utf8 = IsUtf8-from_is_utf8 (take n left) g.0 } in
          subst (λ (x : List ℕ × List ℕ). Takes bytes (text_bytes x.0) x.1 × IsText x.0) g.1 (whole, is)
    ]

-- ## items in a row

-- what is written of an item is read again
abbrev pub Again : {X E : Type 0} → (List ℕ → Result (X × List ℕ) E) → (X → List ℕ) → (X → Type 0) → Type 0
Again {X} {E} read written P = (x : X) (rest : List ℕ) → P x → read (written x ++ rest) ≡ Ok (x, rest)

-- what is read of an item is written so
abbrev pub Taking : {X E : Type 0} → (List ℕ → Result (X × List ℕ) E) → (X → List ℕ) → (X → Type 0) → Type 0
Taking {X} {E} read written P = (bytes : List ℕ) (x : X) (rest : List ℕ) → AreBytes bytes → read bytes ≡ Ok (x, rest) → Takes bytes (written x) rest × P x

pub row_again : {X E : Type 0} (read : List ℕ → Result (X × List ℕ) E) (written : X → List ℕ) (P : X → Type 0) → Again read written P
    → (xs : List X) (rest : List ℕ) → Each P xs → in_a_row read (length xs) (flat_map written xs ++ rest) ≡ Ok (xs, rest)
unfolding in_a_row
row_again read written P again [] rest each = refl
row_again read written P again (x ∷ xs) rest each =
    rw (append_assoc (written x) (flat_map written xs) rest, again x (flat_map written xs ++ rest) each.0, row_again read written P again xs rest each.1) refl

pub record TakesRow {X : Type 0} (P : X → Type 0) (n : ℕ) (xs : List X) : Type 0 where
  pub each : Each P xs
  pub count : length xs ≡ n

pub row_takes : {X E : Type 0} (read : List ℕ → Result (X × List ℕ) E) (written : X → List ℕ) (P : X → Type 0) → Taking read written P
    → (n : ℕ) (bytes : List ℕ) (xs : List X) (rest : List ℕ) → AreBytes bytes → in_a_row read n bytes ≡ Ok (xs, rest) → Takes bytes (flat_map written xs) rest × TakesRow P n xs
unfolding in_a_row
row_takes {X} {E} read written P taking zero bytes xs rest fits e =
    subst (λ (x : List X × List ℕ). Takes bytes (flat_map written x.0) x.1 × TakesRow P 0 x.0) (ok_is {E = E} ([], bytes) (xs, rest) e) (record { parts = refl; rest_fits = fits }, record { each = tt; count = refl })
row_takes {X} {E} read written P taking (suc n) bytes xs rest fits e =
    let a = bind_ok (read bytes) (λ first. in_a_row read n first.1 >>= λ others. Ok (first.0 ∷ others.0, others.1)) (xs, rest) e in
    let b = bind_ok (in_a_row read n a.0.1) (λ others. Ok (a.0.0 ∷ others.0, others.1)) (xs, rest) a.2 in
    let t = taking bytes a.0.0 a.0.1 fits a.1 in
    let u = row_takes read written P taking n a.0.1 b.0.0 b.0.1 t.0.rest_fits b.1 in
    let whole = Takes-then bytes (written a.0.0) a.0.1 (flat_map written b.0.0) b.0.1 t.0 u.0 in
    subst (λ (x : List X × List ℕ). Takes bytes (flat_map written x.0) x.1 × TakesRow P (suc n) x.0) (ok_is {E = E} (a.0.0 ∷ b.0.0, b.0.1) (xs, rest) b.2)
    (whole, record { each = (t.1, u.1.each); count = omega (arith, u.1.count) })
