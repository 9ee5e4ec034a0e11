-- What a form takes spells its lexeme, and what it refuses is named by the first character.
use Rattle.std.proofs.Common.{◌≡◌, ℕ, ◌+◌, Bool, true, false, ◌&&◌, ◌==◌, cond, if◌then◌else◌, List, [], ◌∷◌, ◌++◌, take, drop, Option, Some, None, Result, Ok, Err, refl, sym, ◌∙◌, ap, subst, append_assoc, one-add}
use Rattle.std.proofs.lemmas.Bool.{eqb-true}
use Rattle.std.proofs.lemmas.List.{take-append-drop}
use Rattle.std.specs.List.{prefix_len, list_all}
use Rattle.std.specs.Char.{encode_utf8, is_ascii_digit}
use Rattle.od_language.specs.declared.lexeme.Miss.{Miss}
use Rattle.od_language.specs.declared.lexeme.Miss.TheVariants as miss
use Rattle.od_language.specs.declared.lexeme.LexKind.{LexKind}
use Rattle.od_language.specs.declared.lexeme.LexKind.TheVariants as lexeme
use Rattle.od_language.specs.Identifier.{in_identifier, is_identifier}
use Rattle.od_language.specs.Spelling.{begins_word, in_word, is_quote, pair, number, IsNumber, QuotedText, closed, escaped, plain, RegexText, ended, paired, kept, symbol_of, Spells, word, quoted, regex, name_open, exactly, between, at_least, at_most, symbol}
use Rattle.od_language.specs.Lexing.{miss_at}
use Rattle.od_language.specs.Forms as form

-- a fact of both branches
pub if_cases : {R : Type 0} (P : R → Type 0) (b : Bool) (x y : R) → (b ≡ true → P x) → (b ≡ false → P y) → P (if b then x else y)
if_cases P true x y f g = f refl
if_cases P false x y f g = g refl

pub both_true : (a b : Bool) → (a && b) ≡ true → (a ≡ true) × (b ≡ true)
both_true true b h = (refl, h)
both_true false b h = absurd (cc)

passes_by : (p : ℕ → Bool) (c : ℕ) (cs : List ℕ) (b : Bool) → p c ≡ b → list_all p (take (prefix_len p cs) cs) ≡ true → list_all p (take (cond b (1 + prefix_len p cs) 0) (c ∷ cs)) ≡ true
passes_by p c cs true e h = rw one-add (ap (λ z. z && list_all p (take (prefix_len p cs) cs)) e ∙ h)
passes_by p c cs false e h = refl

-- the characters of a run pass
run_passes : (p : ℕ → Bool) (cs : List ℕ) → list_all p (take (prefix_len p cs) cs) ≡ true
run_passes p [] = refl
run_passes p (c ∷ cs) = passes_by p c cs (p c) refl (run_passes p cs)

-- the part of a form's text that it takes, where it takes one
abbrev pub QuotedBy : ℕ → Bool → List ℕ → Option (List ℕ × List ℕ) → Type 0
QuotedBy mark e cs None = Unit {0}
QuotedBy mark false cs (Some x) = (front : List ℕ) × (cs ≡ front ++ x.1) × QuotedText mark front x.0
QuotedBy mark true cs (Some x) = (front : List ℕ) × (cs ≡ front ++ x.1) × QuotedText mark (92 ∷ front) x.0

quoted_escaped : (mark c : ℕ) (cs : List ℕ) (o : Option (List ℕ × List ℕ)) → QuotedBy mark false cs o → QuotedBy mark true (c ∷ cs) (form.before (encode_utf8 c) o)
quoted_escaped mark c cs None h = tt
quoted_escaped mark c cs (Some x) h = (c ∷ h.0, ap (λ z. c ∷ z) h.1, escaped c h.0 x.0 h.2)

quoted_plain : (mark c : ℕ) (cs : List ℕ) (o : Option (List ℕ × List ℕ)) → (c == mark) ≡ false → (c == 92) ≡ false → QuotedBy mark false cs o → QuotedBy mark false (c ∷ cs) (form.before (encode_utf8 c) o)
quoted_plain mark c cs None m b h = tt
quoted_plain mark c cs (Some x) m b h = (c ∷ h.0, ap (λ z. c ∷ z) h.1, plain c h.0 x.0 m b h.2)

quoted_slash : (mark c : ℕ) (cs : List ℕ) (o : Option (List ℕ × List ℕ)) → c ≡ 92 → QuotedBy mark true cs o → QuotedBy mark false (c ∷ cs) o
quoted_slash mark c cs None e h = tt
quoted_slash mark c cs (Some x) e h = (92 ∷ h.0, ap (λ z. z ∷ cs) e ∙ ap (λ z. 92 ∷ z) h.1, h.2)

quoted_by : (mark : ℕ) (e : Bool) (cs : List ℕ) → QuotedBy mark e cs (form.quoted mark e cs)
quoted_by mark true [] = tt
quoted_by mark false [] = tt
quoted_by mark true (c ∷ cs) = quoted_escaped mark c cs (form.quoted mark false cs) (quoted_by mark false cs)
quoted_by mark false (c ∷ cs) = if_cases (QuotedBy mark false (c ∷ cs)) (c == mark) _ _
    (λ m. (mark ∷ [], ap (λ z. z ∷ cs) (eqb-true c mark m), closed))
    (λ m. if_cases (QuotedBy mark false (c ∷ cs)) (c == 92) _ _
    (λ b. quoted_slash mark c cs (form.quoted mark true cs) (eqb-true c 92 b) (quoted_by mark true cs))
    (λ b. quoted_plain mark c cs (form.quoted mark false cs) m b (quoted_by mark false cs)))

abbrev pub RegexBy : Bool → List ℕ → Option (List ℕ × List ℕ) → Type 0
RegexBy e cs None = Unit {0}
RegexBy false cs (Some x) = (front : List ℕ) × (cs ≡ front ++ x.1) × RegexText front x.0
RegexBy true cs (Some x) = (front : List ℕ) × (cs ≡ front ++ x.1) × RegexText (92 ∷ front) x.0

regex_paired : (c : ℕ) (cs : List ℕ) (o : Option (List ℕ × List ℕ)) → RegexBy false cs o → RegexBy true (c ∷ cs) (form.before (pair c) o)
regex_paired c cs None h = tt
regex_paired c cs (Some x) h = (c ∷ h.0, ap (λ z. c ∷ z) h.1, paired c h.0 x.0 h.2)

regex_kept : (c : ℕ) (cs : List ℕ) (o : Option (List ℕ × List ℕ)) → (c == 47) ≡ false → (c == 92) ≡ false → RegexBy false cs o → RegexBy false (c ∷ cs) (form.before (encode_utf8 c) o)
regex_kept c cs None m b h = tt
regex_kept c cs (Some x) m b h = (c ∷ h.0, ap (λ z. c ∷ z) h.1, kept c h.0 x.0 m b h.2)

regex_slash : (c : ℕ) (cs : List ℕ) (o : Option (List ℕ × List ℕ)) → c ≡ 92 → RegexBy true cs o → RegexBy false (c ∷ cs) o
regex_slash c cs None e h = tt
regex_slash c cs (Some x) e h = (92 ∷ h.0, ap (λ z. z ∷ cs) e ∙ ap (λ z. 92 ∷ z) h.1, h.2)

regex_by : (e : Bool) (cs : List ℕ) → RegexBy e cs (form.regex e cs)
regex_by true [] = tt
regex_by false [] = tt
regex_by true (c ∷ cs) = regex_paired c cs (form.regex false cs) (regex_by false cs)
regex_by false (c ∷ cs) = if_cases (RegexBy false (c ∷ cs)) (c == 47) _ _
    (λ m. (47 ∷ [], ap (λ z. z ∷ cs) (eqb-true c 47 m), ended))
    (λ m. if_cases (RegexBy false (c ∷ cs)) (c == 92) _ _
    (λ b. regex_slash c cs (form.regex true cs) (eqb-true c 92 b) (regex_by true cs))
    (λ b. regex_kept c cs (form.regex false cs) m b (regex_by false cs)))

-- what is taken behind some characters that were taken before, of those that are there
pub record Taken (before cs : List ℕ) (k : LexKind) (rest : List ℕ) : Type 0 where
  pub front : List ℕ
  pub parts : cs ≡ front ++ rest
  pub spells : Spells (before ++ front) k

abbrev pub TakenBy : List ℕ → List ℕ → Option (LexKind × List ℕ) → Type 0
TakenBy before cs None = Unit {0}
TakenBy before cs (Some x) = Taken before cs x.0 x.1

-- behind one more character
taken_behind : (before : List ℕ) (c : ℕ) (cs : List ℕ) (o : Option (LexKind × List ℕ)) → TakenBy (before ++ c ∷ []) cs o → TakenBy before (c ∷ cs) o
taken_behind before c cs None h = tt
taken_behind before c cs (Some x) h = record {
  front = c ∷ h.front;
  parts = ap (λ z. c ∷ z) h.parts;
  spells = subst (λ (z : List ℕ). Spells z x.0) (append_assoc before (c ∷ []) h.front) h.spells;
}

-- a symbol whose last character comes
ends_symbol : (before : List ℕ) (c d : ℕ) (cs : List ℕ) (k : LexKind) → c ≡ d → symbol_of k ≡ Some (before ++ d ∷ []) → Taken before (c ∷ cs) k cs
ends_symbol before c d cs k e s = record { front = d ∷ []; parts = ap (λ z. z ∷ cs) e; spells = symbol k (before ++ d ∷ []) s }

named_to : (name cs : List ℕ) → list_all in_identifier name ≡ true → TakenBy (40 ∷ 63 ∷ 60 ∷ name) cs (form.named_to name cs)
named_to name [] a = tt
named_to name (c ∷ cs) a = if_cases (TakenBy (40 ∷ 63 ∷ 60 ∷ name) (c ∷ cs)) (c == 62 && is_identifier name) _ _
    (λ b. let two = both_true (c == 62) (is_identifier name) b in
    record { front = 62 ∷ []; parts = ap (λ z. z ∷ cs) (eqb-true c 62 two.0); spells = name_open name two.1 })
    (λ b. tt)

-- what is taken of the end of characters is taken of the whole
taken_whole : (before a cs whole : List ℕ) (o : Option (LexKind × List ℕ)) → whole ≡ a ++ cs → TakenBy (before ++ a) cs o → TakenBy before whole o
taken_whole before a cs whole None e h = tt
taken_whole before a cs whole (Some x) e h = record {
  front = a ++ h.front;
  parts = e ∙ ap (λ z. a ++ z) h.parts ∙ sym (append_assoc a h.front x.1);
  spells = subst (λ (z : List ℕ). Spells z x.0) (append_assoc before a h.front) h.spells;
}

named : (cs : List ℕ) → TakenBy (40 ∷ 63 ∷ 60 ∷ []) cs (form.named cs)
named cs =
    let n = prefix_len in_identifier cs in
    taken_whole (40 ∷ 63 ∷ 60 ∷ []) (take n cs) (drop n cs) cs (form.named cs) (sym (take-append-drop n cs)) (named_to (take n cs) (drop n cs) (run_passes in_identifier cs))

sign : (before : List ℕ) (is other : LexKind) (cs : List ℕ) → symbol_of is ≡ Some (before ++ 61 ∷ []) → symbol_of other ≡ Some (before ++ 33 ∷ []) →
    TakenBy before cs (form.sign is other cs)
sign before is other [] e h = tt
sign before is other (c ∷ cs) e h = if_cases (TakenBy before (c ∷ cs)) (c == 61) _ _
    (λ b. ends_symbol before c 61 cs is (eqb-true c 61 b) e)
    (λ _. if_cases (TakenBy before (c ∷ cs)) (c == 33) _ _ (λ b. ends_symbol before c 33 cs other (eqb-true c 33 b) h) (λ _. tt))

either : (before cs : List ℕ) (a b : Option (LexKind × List ℕ)) → TakenBy before cs a → TakenBy before cs b → TakenBy before cs (form.either_form a b)
either before cs None b h k = k
either before cs (Some x) b h k = h

behind : (cs : List ℕ) → TakenBy (40 ∷ 63 ∷ 60 ∷ []) cs (form.behind cs)
unfolding symbol_of
behind cs = either (40 ∷ 63 ∷ 60 ∷ []) cs (form.sign lexeme.BehindIs lexeme.BehindNot cs) (form.named cs)
    (sign (40 ∷ 63 ∷ 60 ∷ []) lexeme.BehindIs lexeme.BehindNot cs refl refl) (named cs)

first_is : (before : List ℕ) (c d : ℕ) (cs : List ℕ) (o : Option (LexKind × List ℕ)) → c ≡ d → TakenBy (before ++ d ∷ []) cs o → TakenBy before (c ∷ cs) o
first_is before c d cs o e h = subst (λ (z : ℕ). TakenBy before (z ∷ cs) o) (sym e) (taken_behind before d cs o h)

back : (cs : List ℕ) → TakenBy (40 ∷ 63 ∷ []) cs (form.back cs)
back [] = tt
back (c ∷ cs) = if_cases (TakenBy (40 ∷ 63 ∷ []) (c ∷ cs)) (c == 60) _ _
    (λ b. first_is (40 ∷ 63 ∷ []) c 60 cs (form.behind cs) (eqb-true c 60 b) (behind cs)) (λ _. tt)

pub looking : (cs : List ℕ) → TakenBy (40 ∷ 63 ∷ []) cs (form.looking cs)
unfolding symbol_of
looking cs = either (40 ∷ 63 ∷ []) cs (form.sign lexeme.AheadIs lexeme.AheadNot cs) (form.back cs)
    (sign (40 ∷ 63 ∷ []) lexeme.AheadIs lexeme.AheadNot cs refl refl) (back cs)

-- nothing more is taken
takes_alone : (c : ℕ) (cs : List ℕ) (k : LexKind) → symbol_of k ≡ Some (c ∷ []) → Taken (c ∷ []) cs k cs
takes_alone c cs k s = record { front = []; parts = refl; spells = symbol k (c ∷ []) s }

or_round : (cs : List ℕ) (o : Option (LexKind × List ℕ)) → TakenBy (40 ∷ []) cs o → Taken (40 ∷ []) cs (form.or_round o cs).0 (form.or_round o cs).1
unfolding symbol_of
or_round cs None h = takes_alone 40 cs lexeme.RoundOpen refl
or_round cs (Some x) h = h

abbrev TakesPair : List ℕ → List ℕ → LexKind × List ℕ → Type 0
TakesPair before cs x = Taken before cs x.0 x.1

round : (cs : List ℕ) → TakesPair (40 ∷ []) cs (form.round cs)
unfolding symbol_of
round [] = takes_alone 40 [] lexeme.RoundOpen refl
round (c ∷ cs) = if_cases (TakesPair (40 ∷ []) (c ∷ cs)) (c == 63) _ _
    (λ b. or_round (c ∷ cs) (form.looking cs) (first_is (40 ∷ []) c 63 cs (form.looking cs) (eqb-true c 63 b) (looking cs)))
    (λ _. takes_alone 40 (c ∷ cs) lexeme.RoundOpen refl)

doubled : (c : ℕ) (one two : LexKind) (cs : List ℕ) → symbol_of one ≡ Some (c ∷ []) → symbol_of two ≡ Some (c ∷ c ∷ []) → TakesPair (c ∷ []) cs (form.doubled c one two cs)
doubled c one two [] s t = takes_alone c [] one s
doubled c one two (d ∷ cs) s t = if_cases (TakesPair (c ∷ []) (d ∷ cs)) (d == c) _ _
    (λ b. ends_symbol (c ∷ []) d c cs two (eqb-true d c b) t)
    (λ _. takes_alone c (d ∷ cs) one s)

-- digits up to a closing brace
braced : (before : List ℕ) (cs : List ℕ) (q : Option (ℕ × Option ℕ)) → ((n : ℕ) (m : Option ℕ) → q ≡ Some (n, m) → Spells (before ++ 125 ∷ []) (lexeme.Range n m)) → (c : ℕ) → c ≡ 125 →
    TakenBy before (c ∷ cs) (form.bounded cs q)
braced before cs None f c e = tt
braced before cs (Some (n, m)) f c e = record { front = 125 ∷ []; parts = ap (λ z. z ∷ cs) e; spells = f n m refl }

abbrev pub bounds_of : ℕ × Option ℕ → Option (ℕ × Option ℕ)
bounds_of x = Some x

least_in : ℕ × Option ℕ → Option (ℕ × Option ℕ) → ℕ × Option ℕ
least_in d None = d
least_in d (Some x) = x

same_bounds : (x y : ℕ × Option ℕ) → bounds_of x ≡ bounds_of y → x ≡ y
unfolding least_in
same_bounds x y h = ap (least_in x) h

-- the range that two bounds spell
spells_range : (before : List ℕ) (x y : ℕ × Option ℕ) → bounds_of x ≡ bounds_of y → Spells before (lexeme.Range x.0 x.1) → Spells before (lexeme.Range y.0 y.1)
spells_range before x y h s = subst (λ (z : ℕ × Option ℕ). Spells before (lexeme.Range z.0 z.1)) (same_bounds x y h) s

spells_exactly : (a : List ℕ) (q : Option ℕ) → list_all is_ascii_digit a ≡ true → number a ≡ q → (n : ℕ) (m : Option ℕ) → form.exactly q ≡ Some (n, m) → Spells (123 ∷ (a ++ 125 ∷ [])) (lexeme.Range n m)
spells_exactly a None d e n m h = absurd (cc)
spells_exactly a (Some v) d e n m h = spells_range (123 ∷ (a ++ 125 ∷ [])) (v, Some v) (n, m) h (exactly a v (record { digital = d; value = e }))

spells_at_most : (b : List ℕ) (q : Option ℕ) → list_all is_ascii_digit b ≡ true → number b ≡ q → (n : ℕ) (m : Option ℕ) → form.to_bound 0 q ≡ Some (n, m) →
    Spells (123 ∷ 44 ∷ (b ++ 125 ∷ [])) (lexeme.Range n m)
spells_at_most b None d e n m h = absurd (cc)
spells_at_most b (Some v) d e n m h = spells_range (123 ∷ 44 ∷ (b ++ 125 ∷ [])) (0, Some v) (n, m) h (at_most b v (record { digital = d; value = e }))

spells_between : (a b : List ℕ) (v : ℕ) (q : Option ℕ) → IsNumber a v → list_all is_ascii_digit b ≡ true → number b ≡ q → (n : ℕ) (m : Option ℕ) → form.to_bound v q ≡ Some (n, m) →
    Spells (123 ∷ (a ++ 44 ∷ (b ++ 125 ∷ []))) (lexeme.Range n m)
spells_between a b v None i d e n m h = absurd (cc)
spells_between a b v (Some w) i d e n m h = spells_range (123 ∷ (a ++ 44 ∷ (b ++ 125 ∷ []))) (v, Some w) (n, m) h (between a v b w i (record { digital = d; value = e }))

spells_from : (a b : List ℕ) (q : Option ℕ) → list_all is_ascii_digit a ≡ true → number a ≡ q → list_all is_ascii_digit b ≡ true → (n : ℕ) (m : Option ℕ) → form.from_bound q b ≡ Some (n, m) →
    Spells (123 ∷ (a ++ 44 ∷ (b ++ 125 ∷ []))) (lexeme.Range n m)
spells_from a b None d e g n m h = absurd (cc)
spells_from a [] (Some v) d e g n m h = spells_range (123 ∷ (a ++ 44 ∷ 125 ∷ [])) (v, None) (n, m) h (at_least a v (record { digital = d; value = e }))
spells_from a (x ∷ b) (Some v) d e g n m h = spells_between a (x ∷ b) v (number (x ∷ b)) (record { digital = d; value = e }) g refl n m h

spells_bounds : (a b : List ℕ) → list_all is_ascii_digit a ≡ true → list_all is_ascii_digit b ≡ true → (n : ℕ) (m : Option ℕ) → form.bounds a b ≡ Some (n, m) →
    Spells (123 ∷ (a ++ 44 ∷ (b ++ 125 ∷ []))) (lexeme.Range n m)
spells_bounds [] b d g n m h = spells_at_most b (number b) g refl n m h
spells_bounds (x ∷ a) b d g n m h = spells_from (x ∷ a) b (number (x ∷ a)) d refl g n m h

-- behind digits, a comma and digits
upper : (a b cs : List ℕ) → list_all is_ascii_digit a ≡ true → list_all is_ascii_digit b ≡ true → TakenBy (123 ∷ (a ++ 44 ∷ b)) cs (form.upper a b cs)
upper a b [] d g = tt
upper a b (c ∷ cs) d g = if_cases (TakenBy (123 ∷ (a ++ 44 ∷ b)) (c ∷ cs)) (c == 125) _ _
    (λ e. braced (123 ∷ (a ++ 44 ∷ b)) cs (form.bounds a b)
    (λ n m h. subst (λ (z : List ℕ). Spells (123 ∷ z) (lexeme.Range n m)) (sym (append_assoc a (44 ∷ b) (125 ∷ []))) (spells_bounds a b d g n m h)) c (eqb-true c 125 e))
    (λ _. tt)

upper_from : (a cs : List ℕ) → list_all is_ascii_digit a ≡ true → TakenBy (123 ∷ (a ++ 44 ∷ [])) cs (form.upper_from a cs)
upper_from a cs d =
    let n = prefix_len is_ascii_digit cs in
    let b : List ℕ = take n cs in
    taken_whole (123 ∷ (a ++ 44 ∷ [])) b (drop n cs) cs (form.upper_from a cs) (sym (take-append-drop n cs))
    (subst (λ (z : List ℕ). TakenBy (123 ∷ z) (drop n cs) (form.upper_from a cs)) (sym (append_assoc a (44 ∷ []) b)) (upper a b (drop n cs) d (run_passes is_ascii_digit cs)))

lower : (a cs : List ℕ) → list_all is_ascii_digit a ≡ true → TakenBy (123 ∷ a) cs (form.lower a cs)
lower a [] d = tt
lower a (c ∷ cs) d = if_cases (TakenBy (123 ∷ a) (c ∷ cs)) (c == 125) _ _
    (λ e. braced (123 ∷ a) cs (form.exactly (number a)) (λ n m h. spells_exactly a (number a) d refl n m h) c (eqb-true c 125 e))
    (λ _. if_cases (TakenBy (123 ∷ a) (c ∷ cs)) (c == 44) _ _
    (λ e. first_is (123 ∷ a) c 44 cs (form.upper_from a cs) (eqb-true c 44 e) (upper_from a cs d))
    (λ _. tt))

range : (cs : List ℕ) → TakenBy (123 ∷ []) cs (form.range cs)
range cs =
    let n = prefix_len is_ascii_digit cs in
    taken_whole (123 ∷ []) (take n cs) (drop n cs) cs (form.range cs) (sym (take-append-drop n cs)) (lower (take n cs) (drop n cs) (run_passes is_ascii_digit cs))

-- what a form gives: a lexeme that is spelled, or what is wrong by the first character
abbrev pub FormIs : ℕ → List ℕ → Result (LexKind × List ℕ) Miss → Type 0
FormIs c cs (Ok x) = Taken (c ∷ []) cs x.0 x.1
FormIs c cs (Err m) = m ≡ miss_at c

quote_is : (c : ℕ) (cs : List ℕ) (o : Option (List ℕ × List ℕ)) → is_quote c ≡ true → QuotedBy c false cs o → FormIs c cs (form.or_miss lexeme.Quoted miss.OpenText o)
quote_is c cs None b h = sym (ap (λ z. if z then miss.OpenText else if c == 47 then miss.OpenRegex else if c == 123 then miss.BadNumber else miss.BadChar) b)
quote_is c cs (Some x) b h = record { front = h.0; parts = h.1; spells = quoted c h.0 x.0 b h.2 }

regex_is : (c : ℕ) (cs : List ℕ) (o : Option (List ℕ × List ℕ)) → c ≡ 47 → RegexBy false cs o → FormIs c cs (form.or_miss lexeme.Regex miss.OpenRegex o)
regex_is c cs None e h = ap miss_at (sym e)
regex_is c cs (Some x) e h = subst (λ (z : ℕ). Taken (z ∷ []) cs (lexeme.Regex x.0) x.1) (sym e) (record { front = h.0; parts = h.1; spells = regex h.0 x.0 h.2 })

range_is : (c : ℕ) (cs : List ℕ) (o : Option (LexKind × List ℕ)) → c ≡ 123 → TakenBy (123 ∷ []) cs o → FormIs c cs (form.or_bad miss.BadNumber o)
range_is c cs None e h = ap miss_at (sym e)
range_is c cs (Some x) e h = subst (λ (z : ℕ). Taken (z ∷ []) cs x.0 x.1) (sym e) h

pair_is : (c d : ℕ) (cs : List ℕ) (x : LexKind × List ℕ) → c ≡ d → TakesPair (d ∷ []) cs x → FormIs c cs (Ok x)
pair_is c d cs x e h = subst (λ (z : ℕ). Taken (z ∷ []) cs x.0 x.1) (sym e) h

word_is : (c : ℕ) (cs : List ℕ) → begins_word c ≡ true → FormIs c cs (Ok (form.text_of c cs))
word_is c cs b =
    let n = prefix_len in_word cs in
    record { front = take n cs; parts = sym (take-append-drop n cs); spells = word c (take n cs) b (run_passes in_word cs) }

miss_else : (c : ℕ) → is_quote c ≡ false → (c == 47) ≡ false → (c == 123) ≡ false → miss.BadChar ≡ miss_at c
miss_else c q r b =
    sym (ap (λ z. if z then miss.OpenText else if c == 47 then miss.OpenRegex else if c == 123 then miss.BadNumber else miss.BadChar) q
    ∙ ap (λ z. if z then miss.OpenRegex else if c == 123 then miss.BadNumber else miss.BadChar) r
    ∙ ap (λ z. if z then miss.BadNumber else miss.BadChar) b)

abbrev SingleIs : ℕ → List ℕ → Option LexKind → Type 0
SingleIs c cs o = FormIs c cs (form.single o cs)

one_symbol : (c d : ℕ) (cs : List ℕ) (k : LexKind) → (c == d) ≡ true → symbol_of k ≡ Some (d ∷ []) → SingleIs c cs (Some k)
one_symbol c d cs k b s = pair_is c d cs (k, cs) (eqb-true c d b) (takes_alone d cs k s)

single_is : (c : ℕ) (cs : List ℕ) → miss.BadChar ≡ miss_at c → SingleIs c cs (form.symbol c)
unfolding symbol_of
single_is c cs m =
    if_cases (SingleIs c cs) (c == 91) _ _ (λ b. one_symbol c 91 cs lexeme.SquareOpen b refl) (λ _.
    if_cases (SingleIs c cs) (c == 93) _ _ (λ b. one_symbol c 93 cs lexeme.SquareClose b refl) (λ _.
    if_cases (SingleIs c cs) (c == 41) _ _ (λ b. one_symbol c 41 cs lexeme.RoundClose b refl) (λ _.
    if_cases (SingleIs c cs) (c == 38) _ _ (λ b. one_symbol c 38 cs lexeme.And b refl) (λ _.
    if_cases (SingleIs c cs) (c == 124) _ _ (λ b. one_symbol c 124 cs lexeme.Or b refl) (λ _.
    if_cases (SingleIs c cs) (c == 33) _ _ (λ b. one_symbol c 33 cs lexeme.Not b refl) (λ _.
    if_cases (SingleIs c cs) (c == 61) _ _ (λ b. one_symbol c 61 cs lexeme.Equal b refl) (λ _.
    if_cases (SingleIs c cs) (c == 64) _ _ (λ b. one_symbol c 64 cs lexeme.At b refl) (λ _.
    if_cases (SingleIs c cs) (c == 63) _ _ (λ b. one_symbol c 63 cs lexeme.Question b refl) (λ _.
    if_cases (SingleIs c cs) (c == 42) _ _ (λ b. one_symbol c 42 cs lexeme.Star b refl) (λ _.
    if_cases (SingleIs c cs) (c == 43) _ _ (λ b. one_symbol c 43 cs lexeme.Plus b refl) (λ _.
    if_cases (SingleIs c cs) (c == 94) _ _ (λ b. one_symbol c 94 cs lexeme.Caret b refl) (λ _.
    if_cases (SingleIs c cs) (c == 36) _ _ (λ b. one_symbol c 36 cs lexeme.Dollar b refl) (λ _. m)))))))))))))

pub form_is : (c : ℕ) (cs : List ℕ) → FormIs c cs (form.form c cs)
unfolding symbol_of form.form
form_is c cs =
    if_cases (FormIs c cs) (begins_word c) _ _ (λ b. word_is c cs b) (λ _.
    if_cases (FormIs c cs) (is_quote c) _ _ (λ b. quote_is c cs (form.quoted c false cs) b (quoted_by c false cs)) (λ q.
    if_cases (FormIs c cs) (c == 47) _ _ (λ b. regex_is c cs (form.regex false cs) (eqb-true c 47 b) (regex_by false cs)) (λ r.
    if_cases (FormIs c cs) (c == 40) _ _ (λ b. pair_is c 40 cs (form.round cs) (eqb-true c 40 b) (round cs)) (λ _.
    if_cases (FormIs c cs) (c == 123) _ _ (λ b. range_is c cs (form.range cs) (eqb-true c 123 b) (range cs)) (λ n.
    if_cases (FormIs c cs) (c == 62) _ _ (λ b. pair_is c 62 cs (form.doubled 62 lexeme.Along lexeme.AnyAlong cs) (eqb-true c 62 b) (doubled 62 lexeme.Along lexeme.AnyAlong cs refl refl)) (λ _.
    if_cases (FormIs c cs) (c == 60) _ _ (λ b. pair_is c 60 cs (form.doubled 60 lexeme.Against lexeme.AnyAgainst cs) (eqb-true c 60 b) (doubled 60 lexeme.Against lexeme.AnyAgainst cs refl refl)) (λ _.
    single_is c cs (miss_else c q r n))))))))
