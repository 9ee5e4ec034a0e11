-- The lexemes that the forms give are those of the longest fronts, and the other way round.
use Rattle.std.proofs.Common.{◌≡◌, ℕ, ◌+◌, ◌≤◌, false, List, [], ◌∷◌, ◌++◌, length, Option, Some, Result, Ok, Err, refl, sym, ◌∙◌, ap, subst, inl, inr, arith, append_assoc, length-append, add_assoc}
use Rattle.std.proofs.lemmas.List.{append_cancel_right}
use Rattle.std.specs.Char.{len_utf8, is_whitespace}
use Rattle.od_language.specs.declared.lexeme.Miss.{Miss}
use Rattle.od_language.specs.declared.lexeme.Lexeme.{Lexeme}
use Rattle.od_language.specs.declared.lexeme.LexKind.{LexKind}
use Rattle.od_language.specs.declared.lexeme.LexKind.TheVariants.{End}
use Rattle.od_language.specs.Spelling.{Spells}
use Rattle.od_language.specs.Lexing.{size_of, SpellsNothing, IsLongest, miss_at, Lexes, end, stuck, white, next}
use Rattle.od_language.specs.Forms.{form}
use Rattle.od_language.specs.Formed.{Formed}
use Rattle.od_language.specs.Formed as by
use Rattle.od_language.proofs.Lexing.Spelled.{FormIs, form_is}
use Rattle.od_language.proofs.Lexing.Reaches.{Reaches, formed, reaches}

-- where two splits of one list overlap
overlap : (a b c d : List ℕ) → a ++ b ≡ c ++ d → length a ≤ length c → (more : List ℕ) × (c ≡ a ++ more) × (b ≡ more ++ d)
overlap [] b c d e h = (c, refl, e)
overlap (x ∷ a) b [] d e h = absurd (omega arith)
overlap (x ∷ a) b (y ∷ c) d e h =
    let first : x ≡ y = cc in
    let rest : a ++ b ≡ c ++ d = cc in
    let o = overlap a b c d rest (omega arith) in
    (o.0, ap (λ z. z ∷ c) (sym first) ∙ ap (λ z. x ∷ z) o.1, o.2)

nothing_left : (more : List ℕ) → length more ≡ 0 → more ≡ []
nothing_left [] h = refl
nothing_left (x ∷ more) h = absurd (omega arith)

-- a form that is refused spells nothing
refused_spells : (c : ℕ) (cs : List ℕ) (m : Miss) → form c cs ≡ Err m → SpellsNothing (c ∷ cs)
refused_spells c cs m h front rest k e s =
    let r : Reaches (formed (front ++ rest)) k rest = reaches front k s rest in
    let none : Reaches (Err m) k rest = subst (λ (z : Result (LexKind × List ℕ) Miss). Reaches z k rest) (ap formed (sym e) ∙ h) r in
    none

-- no longer front than that of a form spells
form_longest : (c : ℕ) (front rest : List ℕ) (k : LexKind) → form c (front ++ rest) ≡ Ok (k, rest) → IsLongest (c ∷ front) rest
form_longest c front rest k h more behind j e s =
    let whole : (((c ∷ front) ++ more) ++ behind) ≡ c ∷ (front ++ rest) = append_assoc (c ∷ front) more behind ∙ ap (λ z. c ∷ (front ++ z)) (sym e) in
    let r : Reaches (Ok (k, rest)) j behind = subst (λ (z : Result (LexKind × List ℕ) Miss). Reaches z j behind) (ap formed whole ∙ h) (reaches ((c ∷ front) ++ more) j s behind) in
    let size : length rest ≡ length more + length behind = ap length e ∙ length-append more behind in
    elim r [
      | inl x ↦ let same : length rest ≡ length behind = ap length x.1 in nothing_left more (omega (arith, same, size))
      | inr x ↦ absurd (omega (arith, x, size))
    ]

form_spells : (c : ℕ) (front rest : List ℕ) (k : LexKind) → form c (front ++ rest) ≡ Ok (k, rest) → Spells (c ∷ front) k
form_spells c front rest k h =
    let t = subst (FormIs c (front ++ rest)) h (form_is c (front ++ rest)) in
    subst (λ (z : List ℕ). Spells (c ∷ z) k) (sym (append_cancel_right front t.front rest t.parts)) t.spells

pub longest : (at : ℕ) (cs : List ℕ) (xs : List Lexeme) (f : Option (ℕ × Miss)) → Formed at cs xs f → Lexes at cs xs f
longest _ _ _ _ (by.end at) = end at
longest _ _ _ _ (by.stuck at c cs m w h) =
    let is : m ≡ miss_at c = subst (FormIs c cs) h (form_is c cs) in
    subst (λ (z : Miss). Lexes at (c ∷ cs) ((record { at = at; kind = End }) ∷ []) (Some (at, z))) (sym is) (stuck at c cs w (refused_spells c cs m h))
longest _ _ _ _ (by.white at c cs xs f w l) = white at c cs xs f w (longest (at + len_utf8 c) cs xs f l)
longest _ _ _ _ (by.next at c front rest k xs f w h l) =
    next at c front rest k xs f w (form_spells c front rest k h) (form_longest c front rest k h)
    (subst (λ (z : ℕ). Lexes z rest xs f) (add_assoc at (len_utf8 c) (size_of front)) (longest (at + len_utf8 c + size_of front) rest xs f l))

stuck_by : (at c : ℕ) (cs : List ℕ) → is_whitespace c ≡ false → SpellsNothing (c ∷ cs) → (q : Result (LexKind × List ℕ) Miss) → form c cs ≡ q → FormIs c cs q →
    Formed at (c ∷ cs) ((record { at = at; kind = End }) ∷ []) (Some (at, miss_at c))
stuck_by at c cs w n (Ok x) h t = absurd (n (c ∷ t.front) x.1 x.0 (ap (λ z. c ∷ z) t.parts) t.spells)
stuck_by at c cs w n (Err m) h is = by.stuck at c cs (miss_at c) w (h ∙ ap (λ z. Err z) is)

next_by : (c : ℕ) (front rest : List ℕ) (k : LexKind) → Spells (c ∷ front) k → IsLongest (c ∷ front) rest → (q : Result (LexKind × List ℕ) Miss) → form c (front ++ rest) ≡ q →
    FormIs c (front ++ rest) q → Reaches q k rest → form c (front ++ rest) ≡ Ok (k, rest)
next_by c front rest k s o (Ok x) h t (inl (same, left)) = h ∙ ap (λ z. Ok (z, x.1)) same ∙ ap (λ z. Ok (k, z)) left
next_by c front rest k s o (Ok x) h t (inr shorter) =
    let size : length front + length rest ≡ length t.front + length x.1 = sym (length-append front rest) ∙ ap length t.parts ∙ length-append t.front x.1 in
    let v = overlap front rest t.front x.1 t.parts (omega (arith, size, shorter)) in
    let none : v.0 ≡ [] = o v.0 x.1 x.0 v.2 (subst (λ (z : List ℕ). Spells (c ∷ z) x.0) v.1 t.spells) in
    let more : length rest ≡ length v.0 + length x.1 = ap length v.2 ∙ length-append v.0 x.1 in
    let zero_more : length v.0 ≡ 0 = ap length none in
    absurd (omega (arith, more, zero_more, shorter))
next_by c front rest k s o (Err m) h t r = absurd r

pub by_forms : (at : ℕ) (cs : List ℕ) (xs : List Lexeme) (f : Option (ℕ × Miss)) → Lexes at cs xs f → Formed at cs xs f
by_forms _ _ _ _ (end at) = by.end at
by_forms _ _ _ _ (stuck at c cs w n) = stuck_by at c cs w n (form c cs) refl (form_is c cs)
by_forms _ _ _ _ (white at c cs xs f w l) = by.white at c cs xs f w (by_forms (at + len_utf8 c) cs xs f l)
by_forms _ _ _ _ (next at c front rest k xs f w s o l) =
    by.next at c front rest k xs f w (next_by c front rest k s o (form c (front ++ rest)) refl (form_is c (front ++ rest)) (reaches (c ∷ front) k s rest))
    (subst (λ (z : ℕ). Formed z rest xs f) (sym (add_assoc at (len_utf8 c) (size_of front))) (by_forms (at + size_of (c ∷ front)) rest xs f l))

pub longest_from : (cs ds : List ℕ) (xs : List Lexeme) (f : Option (ℕ × Miss)) → cs ≡ ds → Formed 0 cs xs f → Lexes 0 ds xs f
longest_from cs ds xs f e l = subst (λ (z : List ℕ). Lexes 0 z xs f) e (longest 0 cs xs f l)
