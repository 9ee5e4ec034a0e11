-- A form takes at least as much as any front that spells a lexeme.
use Rattle.std.proofs.Common.{◌≡◌, ℕ, zero, suc, ◌+◌, ◌<◌, ◌≤◌, Bool, true, false, ◌&&◌, ◌||◌, ◌==◌, cond, if◌then◌else◌, nat_lt, List, [], ◌∷◌, ◌++◌, length, take, drop, Option, Some, None, Result, Ok, Err, refl, sym, ◌∙◌, ap, subst, ◌⊎◌, inl, inr, arith, append_assoc, append-nil, one-add, length-append, length-drop, codes}
use Rattle.std.proofs.lemmas.Bool.{eqb-true, eq-eqb}
use Rattle.std.proofs.lemmas.List.Sums.{prefix_len-le-length}
use Rattle.std.specs.List.{prefix_len, list_all}
use Rattle.std.specs.Char.{encode_utf8, is_ascii_digit}
use Rattle.std.specs.Int.{is_in_range}
use Rattle.std.specs.Str.{encode_utf8_all}
use Rattle.od_language.specs.declared.lexeme.Miss.{Miss}
use Rattle.od_language.specs.declared.lexeme.Miss.TheVariants as miss
use Rattle.od_language.specs.declared.lexeme.LexKind.{LexKind}
use Rattle.od_language.specs.declared.lexeme.LexKind.TheVariants as lexeme
use Rattle.od_language.specs.Identifier.{begins_identifier, in_identifier, is_identifier}
use Rattle.od_language.specs.Spelling.{begins_word, in_word, pair, number, IsNumber, QuotedText, closed, escaped, plain, RegexText, ended, paired, kept, symbol_of, Spells, word, quoted, regex, name_open, exactly, between, at_least, at_most, symbol}
use Rattle.od_language.specs.Forms as form
use Rattle.od_language.proofs.Lexing.Spelled.{if_cases, both_true, TakenBy, looking}

-- the same lexeme, or more is taken
abbrev pub Reaches : Result (LexKind × List ℕ) Miss → LexKind → List ℕ → Type 0
Reaches (Ok x) k rest = ((x.0 ≡ k) × (x.1 ≡ rest)) ⊎ (length x.1 < length rest)
Reaches (Err m) k rest = ⊥

abbrev pub formed : List ℕ → Result (LexKind × List ℕ) Miss
formed [] = Err miss.BadChar
formed (c ∷ cs) = form.form c cs

if_true : {R : Type 0} (b : Bool) (x y : R) → b ≡ true → (if b then x else y) ≡ x
if_true b x y e = ap (λ z. if z then x else y) e

if_false : {R : Type 0} (b : Bool) (x y : R) → b ≡ false → (if b then x else y) ≡ y
if_false b x y e = ap (λ z. if z then x else y) e

exact : (q : Result (LexKind × List ℕ) Miss) (k : LexKind) (rest : List ℕ) → q ≡ Ok (k, rest) → Reaches q k rest
exact q k rest e = subst (λ (z : Result (LexKind × List ℕ) Miss). Reaches z k rest) (sym e) (inl (refl, refl))

-- a run goes over what passes, and on
pub record Over (p : ℕ → Bool) (a rest : List ℕ) : Type 0 where
  pub part : take (prefix_len p (a ++ rest)) (a ++ rest) ≡ a ++ take (prefix_len p rest) rest
  pub left : drop (prefix_len p (a ++ rest)) (a ++ rest) ≡ drop (prefix_len p rest) rest

over_by : (p : ℕ → Bool) (c : ℕ) (a rest : List ℕ) → p c ≡ true → Over p a rest → Over p (c ∷ a) rest
over_by p c a rest e h =
    let n = prefix_len p (a ++ rest) in
    let more : prefix_len p (c ∷ (a ++ rest)) ≡ suc n = ap (λ z. cond z (1 + n) 0) e ∙ one-add n in
    record {
      part = ap (λ z. take z (c ∷ (a ++ rest))) more ∙ ap (λ z. c ∷ z) h.part;
      left = ap (λ z. drop z (c ∷ (a ++ rest))) more ∙ h.left;
    }

over : (p : ℕ → Bool) (a rest : List ℕ) → list_all p a ≡ true → Over p a rest
over p [] rest h = record { part = refl; left = refl }
over p (c ∷ a) rest h = let two = both_true (p c) (list_all p a) h in over_by p c a rest two.0 (over p a rest two.1)

word_reaches : (c : ℕ) (more rest : List ℕ) (m : ℕ) → m ≤ length rest →
    Reaches (Ok (lexeme.Word (encode_utf8 c ++ encode_utf8_all (more ++ take m rest)), drop m rest)) (lexeme.Word (encode_utf8_all (c ∷ more))) rest
word_reaches c more rest zero h = inl (ap (λ z. lexeme.Word (encode_utf8 c ++ encode_utf8_all z)) (append-nil more), refl)
word_reaches c more rest (suc m) h = inr (omega (arith, h, length-drop (suc m) rest))

form_word : (c : ℕ) (cs : List ℕ) → begins_word c ≡ true → form.form c cs ≡ Ok (form.text_of c cs)
unfolding form.form
form_word c cs b = if_true (begins_word c) _ _ b

of_word : (c : ℕ) (more rest : List ℕ) → begins_word c ≡ true → list_all in_word more ≡ true → Reaches (form.form c (more ++ rest)) (lexeme.Word (encode_utf8_all (c ∷ more))) rest
of_word c more rest b h =
    let o = over in_word more rest h in
    let e : form.form c (more ++ rest) ≡ Ok (lexeme.Word (encode_utf8 c ++ encode_utf8_all (more ++ take (prefix_len in_word rest) rest)), drop (prefix_len in_word rest) rest) =
    form_word c (more ++ rest) b
    ∙ ap (λ z. Ok (lexeme.Word (encode_utf8 c ++ encode_utf8_all z), drop (prefix_len in_word (more ++ rest)) (more ++ rest))) o.part
    ∙ ap (λ z. Ok (lexeme.Word (encode_utf8 c ++ encode_utf8_all (more ++ take (prefix_len in_word rest) rest)), z)) o.left in
    subst (λ (z : Result (LexKind × List ℕ) Miss). Reaches z (lexeme.Word (encode_utf8_all (c ∷ more))) rest) (sym e)
    (word_reaches c more rest (prefix_len in_word rest) (prefix_len-le-length in_word rest))

quoted_all : (mark : ℕ) (front text : List ℕ) → QuotedText mark front text → (92 == mark) ≡ false → (rest : List ℕ) → form.quoted mark false (front ++ rest) ≡ Some (text, rest)
quoted_all mark _ _ closed e rest = if_true (mark == mark) _ _ (eq-eqb mark mark refl)
quoted_all mark _ _ (escaped c more text h) e rest = if_false (92 == mark) _ _ e ∙ ap (form.before (encode_utf8 c)) (quoted_all mark more text h e rest)
quoted_all mark _ _ (plain c more text m b h) e rest =
    if_false (c == mark) _ _ m ∙ if_false (c == 92) _ _ b ∙ ap (form.before (encode_utf8 c)) (quoted_all mark more text h e rest)

regex_all : (front text : List ℕ) → RegexText front text → (rest : List ℕ) → form.regex false (front ++ rest) ≡ Some (text, rest)
regex_all _ _ ended rest = refl
regex_all _ _ (paired c more text h) rest = ap (form.before (pair c)) (regex_all more text h rest)
regex_all _ _ (kept c more text m b h) rest = if_false (c == 47) _ _ m ∙ if_false (c == 92) _ _ b ∙ ap (form.before (encode_utf8 c)) (regex_all more text h rest)

either_true : (a b : Bool) → (a || b) ≡ true → (a ≡ true) ⊎ (b ≡ true)
either_true true b h = inl refl
either_true false b h = inr h

of_quote : (mark : ℕ) (more text rest : List ℕ) → (mark ≡ 34) ⊎ (mark ≡ 39) → QuotedText mark more text → form.form mark (more ++ rest) ≡ Ok (lexeme.Quoted text, rest)
unfolding form.form
of_quote mark more text rest (inl e) h =
    ap (λ z. form.form z (more ++ rest)) e ∙ ap (form.or_miss lexeme.Quoted miss.OpenText) (quoted_all 34 more text (subst (λ (z : ℕ). QuotedText z more text) e h) refl rest)
of_quote mark more text rest (inr e) h =
    ap (λ z. form.form z (more ++ rest)) e ∙ ap (form.or_miss lexeme.Quoted miss.OpenText) (quoted_all 39 more text (subst (λ (z : ℕ). QuotedText z more text) e h) refl rest)

quote_cases : (c : ℕ) → (c == 34) ≡ true ⊎ (c == 39) ≡ true → (c ≡ 34) ⊎ (c ≡ 39)
quote_cases c (inl e) = inl (eqb-true c 34 e)
quote_cases c (inr e) = inr (eqb-true c 39 e)

of_regex : (more text rest : List ℕ) → RegexText more text → form.form 47 (more ++ rest) ≡ Ok (lexeme.Regex text, rest)
unfolding form.form
of_regex more text rest h = ap (form.or_miss lexeme.Regex miss.OpenRegex) (regex_all more text h rest)

-- a character that begins an identifier is none of these
begins_not : (c d : ℕ) (b : Bool) → (c == d) ≡ b → begins_identifier c ≡ true → begins_identifier d ≡ false → (c == d) ≡ false
begins_not c d false e h n = e
begins_not c d true e h n = let same : begins_identifier c ≡ begins_identifier d = ap begins_identifier (eqb-true c d e) in absurd (cc)

begins_in_by : (d u l e : Bool) → ((u || l) || e) ≡ true → (((d || u) || l) || e) ≡ true
begins_in_by true u l e h = refl
begins_in_by false u l e h = h

begins_in : (c : ℕ) → begins_identifier c ≡ true → in_identifier c ≡ true
begins_in c h = begins_in_by (is_in_range 48 57 c) (is_in_range 65 90 c) (is_in_range 97 122 c) (c == 95) h

named_all : (name rest : List ℕ) → is_identifier name ≡ true → list_all in_identifier name ≡ true → form.named (name ++ 62 ∷ rest) ≡ Some (lexeme.NameOpen (encode_utf8_all name), rest)
named_all name rest i a =
    let o = over in_identifier name (62 ∷ rest) a in
    ap (λ z. form.named_to z (drop (prefix_len in_identifier (name ++ 62 ∷ rest)) (name ++ 62 ∷ rest))) (o.part ∙ append-nil name)
    ∙ ap (form.named_to name) o.left
    ∙ if_true (is_identifier name) _ _ i

behind_all : (name rest : List ℕ) → is_identifier name ≡ true → form.behind (name ++ 62 ∷ rest) ≡ Some (lexeme.NameOpen (encode_utf8_all name), rest)
behind_all [] rest i = absurd (cc)
behind_all (c ∷ more) rest i =
    let two = both_true (begins_identifier c && nat_lt (length more) 64) (list_all in_identifier more) i in
    let first = both_true (begins_identifier c) (nat_lt (length more) 64) two.0 in
    ap (λ z. form.either_form z (form.named ((c ∷ more) ++ 62 ∷ rest)))
    (if_false (c == 61) _ _ (begins_not c 61 (c == 61) refl first.0 refl) ∙ if_false (c == 33) _ _ (begins_not c 33 (c == 33) refl first.0 refl))
    ∙ named_all (c ∷ more) rest i (ap (λ z. z && list_all in_identifier more) (begins_in c first.0) ∙ two.1)

of_name : (name rest : List ℕ) → is_identifier name ≡ true → form.form 40 (63 ∷ 60 ∷ ((name ++ 62 ∷ []) ++ rest)) ≡ Ok (lexeme.NameOpen (encode_utf8_all name), rest)
unfolding form.form
of_name name rest i =
    let e : form.behind ((name ++ 62 ∷ []) ++ rest) ≡ Some (lexeme.NameOpen (encode_utf8_all name), rest) = ap form.behind (append_assoc name (62 ∷ []) rest) ∙ behind_all name rest i in
    ap (λ z. Ok (form.or_round z (63 ∷ 60 ∷ ((name ++ 62 ∷ []) ++ rest)))) e

range_over : (a more : List ℕ) → list_all is_ascii_digit a ≡ true → prefix_len is_ascii_digit more ≡ 0 → form.range (a ++ more) ≡ form.lower a more
range_over a more d n =
    let o = over is_ascii_digit a more d in
    ap (λ z. form.lower z (drop (prefix_len is_ascii_digit (a ++ more)) (a ++ more))) (o.part ∙ ap (λ z. a ++ take z more) n ∙ append-nil a)
    ∙ ap (form.lower a) (o.left ∙ ap (λ z. drop z more) n)

upper_over : (a b more : List ℕ) → list_all is_ascii_digit b ≡ true → prefix_len is_ascii_digit more ≡ 0 → form.upper_from a (b ++ more) ≡ form.upper a b more
upper_over a b more d n =
    let o = over is_ascii_digit b more d in
    ap (λ z. form.upper a z (drop (prefix_len is_ascii_digit (b ++ more)) (b ++ more))) (o.part ∙ ap (λ z. b ++ take z more) n ∙ append-nil b)
    ∙ ap (form.upper a b) (o.left ∙ ap (λ z. drop z more) n)

of_range : (cs : List ℕ) (k : LexKind) (rest : List ℕ) → form.range cs ≡ Some (k, rest) → form.form 123 cs ≡ Ok (k, rest)
unfolding form.form
of_range cs k rest e = ap (form.or_bad miss.BadNumber) e

of_exactly : (a : List ℕ) (n : ℕ) (rest : List ℕ) → IsNumber a n → form.form 123 ((a ++ 125 ∷ []) ++ rest) ≡ Ok (lexeme.Range n (Some n), rest)
of_exactly a n rest i = of_range _ _ rest
    (ap form.range (append_assoc a (125 ∷ []) rest) ∙ range_over a (125 ∷ rest) i.digital refl ∙ ap (λ z. form.bounded rest (form.exactly z)) i.value)

of_at_most : (b : List ℕ) (m : ℕ) (rest : List ℕ) → IsNumber b m → form.form 123 (44 ∷ ((b ++ 125 ∷ []) ++ rest)) ≡ Ok (lexeme.Range 0 (Some m), rest)
of_at_most b m rest i = of_range _ _ rest
    (ap (form.upper_from []) (append_assoc b (125 ∷ []) rest) ∙ upper_over [] b (125 ∷ rest) i.digital refl ∙ ap (λ z. form.bounded rest (form.to_bound 0 z)) i.value)

bounds_least : (a : List ℕ) (n : ℕ) → number a ≡ Some n → form.bounds a [] ≡ Some (n, None)
bounds_least [] n e = absurd (cc)
bounds_least (d ∷ a) n e = ap (λ z. form.from_bound z []) e

bounds_both : (a b : List ℕ) (n m : ℕ) → number a ≡ Some n → number b ≡ Some m → form.bounds a b ≡ Some (n, Some m)
bounds_both [] b n m e g = absurd (cc)
bounds_both (d ∷ a) [] n m e g = absurd (cc)
bounds_both (d ∷ a) (x ∷ b) n m e g = ap (λ z. form.from_bound z (x ∷ b)) e ∙ ap (form.to_bound n) g

of_at_least : (a : List ℕ) (n : ℕ) (rest : List ℕ) → IsNumber a n → form.form 123 ((a ++ 44 ∷ 125 ∷ []) ++ rest) ≡ Ok (lexeme.Range n None, rest)
of_at_least a n rest i = of_range _ _ rest
    (ap form.range (append_assoc a (44 ∷ 125 ∷ []) rest) ∙ range_over a (44 ∷ 125 ∷ rest) i.digital refl ∙ ap (form.bounded rest) (bounds_least a n i.value))

of_between : (a : List ℕ) (n : ℕ) (b : List ℕ) (m : ℕ) (rest : List ℕ) → IsNumber a n → IsNumber b m → form.form 123 ((a ++ 44 ∷ (b ++ 125 ∷ [])) ++ rest) ≡ Ok (lexeme.Range n (Some m), rest)
of_between a n b m rest i j = of_range _ _ rest
    (ap form.range (append_assoc a (44 ∷ (b ++ 125 ∷ [])) rest) ∙ range_over a (44 ∷ ((b ++ 125 ∷ []) ++ rest)) i.digital refl
    ∙ ap (form.upper_from a) (append_assoc b (125 ∷ []) rest) ∙ upper_over a b (125 ∷ rest) j.digital refl ∙ ap (form.bounded rest) (bounds_both a b n m i.value j.value))

-- a symbol of one character that may be doubled
doubled_reaches : (c : ℕ) (one two : LexKind) (rest : List ℕ) → Reaches (Ok (form.doubled c one two rest)) one rest
doubled_reaches c one two [] = inl (refl, refl)
doubled_reaches c one two (d ∷ rest) = if_cases (λ (x : LexKind × List ℕ). Reaches (Ok x) one (d ∷ rest)) (d == c) _ _ (λ _. inr (omega arith)) (λ _. inl (refl, refl))

or_round_reaches : (c : ℕ) (cs : List ℕ) (o : Option (LexKind × List ℕ)) → TakenBy (40 ∷ 63 ∷ []) cs o → Reaches (Ok (form.or_round o (c ∷ cs))) lexeme.RoundOpen (c ∷ cs)
or_round_reaches c cs None h = inl (refl, refl)
or_round_reaches c cs (Some x) h = let e : length cs ≡ length h.front + length x.1 = ap length h.parts ∙ length-append h.front x.1 in inr (omega (arith, e))

round_reaches : (rest : List ℕ) → Reaches (Ok (form.round rest)) lexeme.RoundOpen rest
round_reaches [] = inl (refl, refl)
round_reaches (c ∷ cs) = if_cases (λ (x : LexKind × List ℕ). Reaches (Ok x) lexeme.RoundOpen (c ∷ cs)) (c == 63) _ _ (λ _. or_round_reaches c cs (form.looking cs) (looking cs)) (λ _. inl (refl, refl))

abbrev text_some : List ℕ → Option (List ℕ)
text_some t = Some t

text_or : Option (List ℕ) → List ℕ
text_or None = []
text_or (Some t) = t

same_text : (t u : List ℕ) → text_some t ≡ text_some u → t ≡ u
unfolding text_or
same_text t u e = ap text_or e

spelled_by : (t text : List ℕ) (k : LexKind) (rest : List ℕ) → text_some t ≡ text_some text → Reaches (formed (t ++ rest)) k rest → Reaches (formed (text ++ rest)) k rest
spelled_by t text k rest e r = subst (λ (z : List ℕ). Reaches (formed (z ++ rest)) k rest) (same_text t text e) r

of_symbol : (k : LexKind) (text : List ℕ) → symbol_of k ≡ Some text → (rest : List ℕ) → Reaches (formed (text ++ rest)) k rest
unfolding form.form symbol_of
of_symbol lexeme.AheadIs text e rest = spelled_by (codes "(?=") text lexeme.AheadIs rest e (inl (refl, refl))
of_symbol lexeme.AheadNot text e rest = spelled_by (codes "(?!") text lexeme.AheadNot rest e (inl (refl, refl))
of_symbol lexeme.BehindIs text e rest = spelled_by (codes "(?<=") text lexeme.BehindIs rest e (inl (refl, refl))
of_symbol lexeme.BehindNot text e rest = spelled_by (codes "(?<!") text lexeme.BehindNot rest e (inl (refl, refl))
of_symbol lexeme.SquareOpen text e rest = spelled_by (codes "[") text lexeme.SquareOpen rest e (inl (refl, refl))
of_symbol lexeme.SquareClose text e rest = spelled_by (codes "]") text lexeme.SquareClose rest e (inl (refl, refl))
of_symbol lexeme.RoundOpen text e rest = spelled_by (codes "(") text lexeme.RoundOpen rest e (round_reaches rest)
of_symbol lexeme.RoundClose text e rest = spelled_by (codes ")") text lexeme.RoundClose rest e (inl (refl, refl))
of_symbol lexeme.And text e rest = spelled_by (codes "&") text lexeme.And rest e (inl (refl, refl))
of_symbol lexeme.Or text e rest = spelled_by (codes "|") text lexeme.Or rest e (inl (refl, refl))
of_symbol lexeme.Not text e rest = spelled_by (codes "!") text lexeme.Not rest e (inl (refl, refl))
of_symbol lexeme.Equal text e rest = spelled_by (codes "=") text lexeme.Equal rest e (inl (refl, refl))
of_symbol lexeme.At text e rest = spelled_by (codes "@") text lexeme.At rest e (inl (refl, refl))
of_symbol lexeme.Along text e rest = spelled_by (codes ">") text lexeme.Along rest e (doubled_reaches 62 lexeme.Along lexeme.AnyAlong rest)
of_symbol lexeme.Against text e rest = spelled_by (codes "<") text lexeme.Against rest e (doubled_reaches 60 lexeme.Against lexeme.AnyAgainst rest)
of_symbol lexeme.AnyAlong text e rest = spelled_by (codes ">>") text lexeme.AnyAlong rest e (inl (refl, refl))
of_symbol lexeme.AnyAgainst text e rest = spelled_by (codes "<<") text lexeme.AnyAgainst rest e (inl (refl, refl))
of_symbol lexeme.Question text e rest = spelled_by (codes "?") text lexeme.Question rest e (inl (refl, refl))
of_symbol lexeme.Star text e rest = spelled_by (codes "*") text lexeme.Star rest e (inl (refl, refl))
of_symbol lexeme.Plus text e rest = spelled_by (codes "+") text lexeme.Plus rest e (inl (refl, refl))
of_symbol lexeme.Caret text e rest = spelled_by (codes "^") text lexeme.Caret rest e (inl (refl, refl))
of_symbol lexeme.Dollar text e rest = spelled_by (codes "$") text lexeme.Dollar rest e (inl (refl, refl))
of_symbol k text e rest = absurd (cc)

pub reaches : (front : List ℕ) (k : LexKind) → Spells front k → (rest : List ℕ) → Reaches (formed (front ++ rest)) k rest
reaches _ _ (word c more b h) rest = of_word c more rest b h
reaches _ _ (quoted mark more text b h) rest = exact _ _ rest (of_quote mark more text rest (quote_cases mark (either_true (mark == 34) (mark == 39) b)) h)
reaches _ _ (regex more text h) rest = exact _ _ rest (of_regex more text rest h)
reaches _ _ (name_open name i) rest = exact _ _ rest (of_name name rest i)
reaches _ _ (exactly a n i) rest = exact _ _ rest (of_exactly a n rest i)
reaches _ _ (between a n b m i j) rest = exact _ _ rest (of_between a n b m rest i j)
reaches _ _ (at_least a n i) rest = exact _ _ rest (of_at_least a n rest i)
reaches _ _ (at_most b m i) rest = exact _ _ rest (of_at_most b m rest i)
reaches _ _ (symbol k text e) rest = of_symbol k text e rest
