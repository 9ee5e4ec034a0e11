-- Each text has one reading, and it ends with `End`.
use Rattle.std.proofs.Common.{◌≡◌, ℕ, zero, suc, ◌+◌, ◌-◌, ◌≤◌, if◌then◌else◌, length, length-append, Bool, true, false, List, [], ◌∷◌, ◌++◌, Option, Some, Result, Ok, Err, refl, sym, ◌∙◌, ap, subst, arith}
use Rattle.std.specs.Char.{len_utf8, is_whitespace}
use Rattle.od_language.specs.declared.lexeme.Lexeme.{Lexeme}
use Rattle.od_language.specs.declared.lexeme.LexKind.{LexKind}
use Rattle.od_language.specs.declared.lexeme.LexKind.TheVariants as lexeme
use Rattle.od_language.specs.declared.lexeme.Miss.{Miss}
use Rattle.od_language.specs.Alphabet.{plain, IsEnded, HasOneEnd}
use Rattle.od_language.specs.Lexing as lexing
use Rattle.od_language.specs.Spelling.{Spells, word, quoted, regex, name_open, exactly, between, at_least, at_most, symbol, symbol_of}
use Rattle.od_language.specs.Forms.{form}
use Rattle.od_language.specs.Lexing.{size_of as bytes}
use Rattle.od_language.specs.Lexing.{Lexes, OneReading}
use Rattle.od_language.specs.Lexed.{Lexemes, before, lexed_form, lexed_by, lexed_from, lexed, LexemesAreComputed}
use Rattle.od_language.proofs.Lexing.Spelled.{FormIs, form_is}
use Rattle.od_language.proofs.Lexing.Longest.{longest, by_forms}
use Rattle.od_language.specs.Formed.{Formed, end, stuck, white, next}

ended_more : (x : Lexeme) (xs : List Lexeme) → IsEnded plain xs → IsEnded plain (x ∷ xs)
ended_more x [] h = absurd h
ended_more x (y ∷ xs) h = h

pub ended : (at : ℕ) (cs : List ℕ) (xs : List Lexeme) (f : Option (ℕ × Miss)) → Formed at cs xs f → IsEnded plain xs
ended _ _ _ _ (end at) = refl
ended _ _ _ _ (stuck at c cs m w h) = refl
ended _ _ _ _ (white at c cs xs f w l) = ended (at + len_utf8 c) cs xs f l
ended _ _ _ _ (next at c front rest k xs f w h l) = ended_more (record { at = at; kind = k }) xs (ended (at + len_utf8 c + bytes front) rest xs f l)

-- no lexeme that is spelled is the end
spells_no_end : (cs : List ℕ) (k : LexKind) → Spells cs k → k ≡ lexeme.End → ⊥
unfolding symbol_of
spells_no_end _ _ (word c more b h) e = absurd (cc)
spells_no_end _ _ (quoted mark more text b h) e = absurd (cc)
spells_no_end _ _ (regex more text h) e = absurd (cc)
spells_no_end _ _ (name_open name i) e = absurd (cc)
spells_no_end _ _ (exactly a n i) e = absurd (cc)
spells_no_end _ _ (between a n b m i j) e = absurd (cc)
spells_no_end _ _ (at_least a n i) e = absurd (cc)
spells_no_end _ _ (at_most b m i) e = absurd (cc)
spells_no_end _ _ (symbol k text h) e = let n : symbol_of lexeme.End ≡ Some text = ap symbol_of (sym e) ∙ h in absurd (cc)

one_more : (x : Lexeme) (xs : List Lexeme) → (x.kind ≡ lexeme.End → ⊥) → HasOneEnd plain xs → HasOneEnd plain (x ∷ xs)
one_more x [] n h = absurd h
one_more x (y ∷ xs) n h = (n, h)

pub ends_once : (at : ℕ) (cs : List ℕ) (xs : List Lexeme) (f : Option (ℕ × Miss)) → Lexes at cs xs f → HasOneEnd plain xs
ends_once _ _ _ _ (lexing.end at) = refl
ends_once _ _ _ _ (lexing.stuck at c cs w n) = refl
ends_once _ _ _ _ (lexing.white at c cs xs f w l) = ends_once (at + len_utf8 c) cs xs f l
ends_once _ _ _ _ (lexing.next at c front rest k xs f w s o l) =
    one_more (record { at = at; kind = k }) xs (spells_no_end (c ∷ front) k s) (ends_once (at + bytes (c ∷ front)) rest xs f l)

bytes_append : (a b : List ℕ) → bytes (a ++ b) ≡ bytes a + bytes b
bytes_append [] b = omega arith
bytes_append (x ∷ a) b = omega (arith, bytes_append a b)

abbrev pub Form : Type 0
Form = Result (LexKind × List ℕ) Miss

abbrev kind_in : Form → LexKind
kind_in (Ok x) = x.0
kind_in (Err m) = lexeme.End

abbrev rest_in : Form → List ℕ
rest_in (Ok x) = x.1
rest_in (Err m) = []

abbrev miss_in : Miss → Form → Miss
miss_in d (Ok x) = d
miss_in d (Err m) = m

head_in : (c d : ℕ) (cs ds : List ℕ) → c ∷ cs ≡ d ∷ ds → c ≡ d
head_in c d cs ds e = cc

tail_in : (c d : ℕ) (cs ds : List ℕ) → c ∷ cs ≡ d ∷ ds → cs ≡ ds
tail_in c d cs ds e = cc

forms : (c d : ℕ) (cs ds : List ℕ) (p q : Form) → c ∷ cs ≡ d ∷ ds → form c cs ≡ p → form d ds ≡ q → p ≡ q
forms c d cs ds p q e g h = sym g ∙ ap (λ z. form z cs) (head_in c d cs ds e) ∙ ap (form d) (tail_in c d cs ds e) ∙ h

colour : (c d : ℕ) (cs ds : List ℕ) (a b : Bool) → c ∷ cs ≡ d ∷ ds → is_whitespace c ≡ a → is_whitespace d ≡ b → a ≡ b
colour c d cs ds a b e g h = sym g ∙ ap is_whitespace (head_in c d cs ds e) ∙ h

pub unique : (at : ℕ) (cs : List ℕ) (xs : List Lexeme) (f : Option (ℕ × Miss)) → Formed at cs xs f → (ds : List ℕ) (ys : List Lexeme) (g : Option (ℕ × Miss)) → cs ≡ ds → Formed at ds ys g → (xs ≡ ys) × (f ≡ g)
unique _ _ _ _ (end at) _ _ _ e (end _) = (refl, refl)
unique _ _ _ _ (end at) _ _ _ e (stuck _ d ds n v i) = absurd (cc)
unique _ _ _ _ (end at) _ _ _ e (white _ d ds ys g v i) = absurd (cc)
unique _ _ _ _ (end at) _ _ _ e (next _ d front rest j ys g v i l) = absurd (cc)
unique _ _ _ _ (stuck at c cs m w h) _ _ _ e (end _) = absurd (cc)
unique _ _ _ _ (stuck at c cs m w h) _ _ _ e (stuck _ d ds n v i) =
    (refl, ap (λ z. Some (at, miss_in m z)) (forms c d cs ds (Err m) (Err n) e h i))
unique _ _ _ _ (stuck at c cs m w h) _ _ _ e (white _ d ds ys g v i) = let b = colour c d cs ds false true e w v in absurd (cc)
unique _ _ _ _ (stuck at c cs m w h) _ _ _ e (next _ d front rest j ys g v i l) = let b = forms c d cs (front ++ rest) (Err m) (Ok (j, rest)) e h i in absurd (cc)
unique _ _ _ _ (white at c cs xs f w h) _ _ _ e (end _) = absurd (cc)
unique _ _ _ _ (white at c cs xs f w h) _ _ _ e (stuck _ d ds n v i) = let b = colour c d cs ds true false e w v in absurd (cc)
unique _ _ _ _ (white at c cs xs f w h) _ _ _ e (white _ d ds ys g v i) =
    unique (at + len_utf8 c) cs xs f h ds ys g (tail_in c d cs ds e) (subst (λ (z : ℕ). Formed (at + len_utf8 z) ds ys g) (sym (head_in c d cs ds e)) i)
unique _ _ _ _ (white at c cs xs f w h) _ _ _ e (next _ d front rest j ys g v i l) = let b = colour c d cs (front ++ rest) true false e w v in absurd (cc)
unique _ _ _ _ (next at c front rest k xs f w h l) _ _ _ e (end _) = absurd (cc)
unique _ _ _ _ (next at c front rest k xs f w h l) _ _ _ e (stuck _ d ds n v i) = let b = forms c d (front ++ rest) ds (Ok (k, rest)) (Err n) e h i in absurd (cc)
unique _ _ _ _ (next at c front rest k xs f w h l) _ _ _ e (white _ d ds ys g v i) = let b = colour c d (front ++ rest) ds false true e w v in absurd (cc)
unique _ _ _ _ (next at c front rest k xs f w h l) _ _ _ e (next _ d ahead back j ys g v i r) =
    let b = forms c d (front ++ rest) (ahead ++ back) (Ok (k, rest)) (Ok (j, back)) e h i in
    let same : rest ≡ back = ap rest_in b in
    let like : k ≡ j = ap kind_in b in
    let head = head_in c d (front ++ rest) (ahead ++ back) e in
    let whole : bytes front + bytes rest ≡ bytes ahead + bytes back = sym (bytes_append front rest) ∙ ap bytes (tail_in c d (front ++ rest) (ahead ++ back) e) ∙ bytes_append ahead back in
    let size : bytes rest ≡ bytes back = ap bytes same in
    let len : len_utf8 c ≡ len_utf8 d = ap len_utf8 head in
    let place : at + len_utf8 d + bytes ahead ≡ at + len_utf8 c + bytes front = omega (arith, whole, size, len) in
    let u = unique (at + len_utf8 c + bytes front) rest xs f l back ys g same (subst (λ (z : ℕ). Formed z back ys g) place r) in
    (ap (λ z. (record { at = at; kind = z }) ∷ xs) like ∙ ap (λ z. (record { at = at; kind = j }) ∷ z) u.0, u.1)

-- what is computed is a reading, where so many characters are left at most
abbrev IsComputed : ℕ → List ℕ → Lexemes → Type 0
IsComputed at cs x = Formed at cs x.0 x.1

computed_form : (n at c : ℕ) (cs : List ℕ) → length cs ≤ n → is_whitespace c ≡ false →
    ((at : ℕ) (ds : List ℕ) → length ds ≤ n → IsComputed at ds (lexed_by n at ds)) →
    (q : Form) → form c cs ≡ q → FormIs c cs q → IsComputed at (c ∷ cs) (lexed_form (λ to rest. lexed_by n to rest) at c cs q)
computed_form n at c cs b w more (Err m) h t = stuck at c cs m w h
computed_form n at c cs b w more (Ok x) h t =
    let size : length cs ≡ length t.front + length x.1 = ap length t.parts ∙ length-append t.front x.1 in
    let weight : bytes cs ≡ bytes t.front + bytes x.1 = ap bytes t.parts ∙ bytes_append t.front x.1 in
    let to : ℕ = at + (bytes (c ∷ cs) - bytes x.1) in
    let place : to ≡ at + len_utf8 c + bytes t.front = omega (arith, weight) in
    let r : IsComputed to x.1 (lexed_by n to x.1) = more to x.1 (omega (arith, size, b)) in
    let s : Formed (at + len_utf8 c + bytes t.front) x.1 (lexed_by n to x.1).0 (lexed_by n to x.1).1 =
    subst (λ (z : ℕ). Formed z x.1 (lexed_by n to x.1).0 (lexed_by n to x.1).1) place r in
    subst (λ (z : List ℕ). IsComputed at (c ∷ z) (before at x.0 (lexed_by n to x.1))) (sym t.parts)
    (next at c t.front x.1 x.0 (lexed_by n to x.1).0 (lexed_by n to x.1).1 w (ap (form c) (sym t.parts) ∙ h) s)

computed_at : (n at c : ℕ) (cs : List ℕ) → length cs ≤ n →
    ((at : ℕ) (ds : List ℕ) → length ds ≤ n → IsComputed at ds (lexed_by n at ds)) →
    (b : Bool) → is_whitespace c ≡ b → IsComputed at (c ∷ cs) (if b then lexed_by n (at + len_utf8 c) cs else lexed_form (λ to rest. lexed_by n to rest) at c cs (form c cs))
computed_at n at c cs s more true w = white at c cs (lexed_by n (at + len_utf8 c) cs).0 (lexed_by n (at + len_utf8 c) cs).1 w (more (at + len_utf8 c) cs s)
computed_at n at c cs s more false w = computed_form n at c cs s w more (form c cs) refl (form_is c cs)

computed_by : (n at : ℕ) (cs : List ℕ) → length cs ≤ n → IsComputed at cs (lexed_by n at cs)
computed_by zero at [] s = end at
computed_by zero at (c ∷ cs) s = absurd (omega arith)
computed_by (suc n) at [] s = end at
computed_by (suc n) at (c ∷ cs) s = computed_at n at c cs (omega arith) (computed_by n) (is_whitespace c) refl

pub computed : (at : ℕ) (cs : List ℕ) → Lexes at cs (lexed_from at cs).0 (lexed_from at cs).1
computed at cs = longest at cs (lexed_from at cs).0 (lexed_from at cs).1 (computed_by (length cs) at cs (omega arith))

pub only_computed : (at : ℕ) (cs : List ℕ) (xs : List Lexeme) (f : Option (ℕ × Miss)) → Lexes at cs xs f → lexed_from at cs ≡ (xs, f)
only_computed at cs xs f a =
    let u = unique at cs (lexed_from at cs).0 (lexed_from at cs).1 (computed_by (length cs) at cs (omega arith)) cs xs f refl (by_forms at cs xs f a) in
    ap (λ z. (z, (lexed_from at cs).1)) u.0 ∙ ap (λ z. (xs, z)) u.1

-- what was formed along characters that are those of a text is what is computed of the text
pub computed_from : (cs ds : List ℕ) (xs : List Lexeme) (f : Option (ℕ × Miss)) → cs ≡ ds → Formed 0 cs xs f → lexed ds ≡ (xs, f)
computed_from cs ds xs f e l = only_computed 0 ds xs f (subst (λ (z : List ℕ). Lexes 0 z xs f) e (longest 0 cs xs f l))

pub lexemes_are_computed : LexemesAreComputed
lexemes_are_computed at cs xs f =
    (only_computed at cs xs f, λ e. subst (λ (z : Lexemes). Lexes at cs z.0 z.1) e (computed at cs))

pub one_reading : (cs : List ℕ) → OneReading cs
one_reading cs =
    record {
      some = ((lexed cs).0, (lexed cs).1, computed 0 cs);
      unique = λ xs ys f g a b. unique 0 cs xs f (by_forms 0 cs xs f a) cs ys g refl (by_forms 0 cs ys g b);
      ends = λ xs f a. ended 0 cs xs f (by_forms 0 cs xs f a);
    }
