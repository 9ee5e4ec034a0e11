-- The pieces of a head.
use Rattle.std.proofs.Common.{◌≡◌, ℕ, zero, suc, ◌+◌, ◌<◌, ◌≤◌, Bool, true, false, ◌&&◌, ◌||◌, ◌==◌, if◌then◌else◌, cond, List, [], ◌∷◌, ◌++◌, length, take, drop, Option, Some, None, refl, sym, ◌∙◌, ap, ap₂, subst, arith, nat_lt, ◌-◌, Result, IfOk}
use Rattle.std.specs.Char.{is_whitespace}
use Rattle.od_pattern.specs.declared.rule.Many.{Many}
use Rattle.std.specs.Option.{option_map}
use Rattle.std.specs.List.{list_all, prefix_len}
use Rattle.std.specs.Str.{encode_utf8_all}
use Rattle.std.proofs.lemmas.Bool.{ne_eqb, le-ltb, eqb-true, true≢false}
use Rattle.std.proofs.lemmas.Str.{encode_ascii}
use Rattle.od_language.specs.declared.limits.TheConstants.{IDENTIFIER_BYTES}
use Rattle.od_language.specs.Identifier.{in_identifier, is_identifier, begins_identifier}
use Rattle.od_syntax.specs.Events.{goes_on, joined_to, pieces, Head, head_with, head_behind}
use Rattle.od_event_text.specs.declared.head.Head as program
use Rattle.od_event_text.specs.Heads.{begins_white, shown}

-- a character of an identifier is ASCII, and no white space
small : (c : ℕ) → in_identifier c ≡ true → c < 128
small c e = grind (arith, e)

between : (c : ℕ) → in_identifier c ≡ true → (48 ≤ c) × (c < 123)
between c e = (grind (arith, e), grind (arith, e))

either : (a b : Bool) → a ≡ false → b ≡ false → (a || b) ≡ false
either a b e h = ap₂ (λ x y. x || y) e h

not_both : (a b : Bool) → b ≡ false → (a && b) ≡ false
not_both true b e = e
not_both false b e = refl

above : (c n : ℕ) → n < c → (c == n) ≡ false
above c n h = ne_eqb c n (λ e. omega (arith, h, e))

below : (c n : ℕ) → c < n → (c == n) ≡ false
below c n h = ne_eqb c n (λ e. omega (arith, h, e))

black : (c : ℕ) → in_identifier c ≡ true → is_whitespace c ≡ false
black c e =
    let r = between c e in
    either _ (c == 12288) (either _ (c == 8287) (either _ (c == 8239) (either _ (c == 8233) (either _ (c == 8232) (either _ (nat_lt 8191 c && nat_lt c 8203) (either _ (c == 5760) (either _ (c == 160) (either _ (c == 133)
    (either (nat_lt 8 c && nat_lt c 14) (c == 32)
    (not_both (nat_lt 8 c) (nat_lt c 14) (le-ltb c 14 (omega (arith, r.0)))) (above c 32 (omega (arith, r.0))))
    (below c 133 (omega (arith, r.1)))) (below c 160 (omega (arith, r.1)))) (below c 5760 (omega (arith, r.1))))
    (ap (λ b. b && nat_lt c 8203) (le-ltb 8191 c (omega (arith, r.1)))))
    (below c 8232 (omega (arith, r.1)))) (below c 8233 (omega (arith, r.1)))) (below c 8239 (omega (arith, r.1)))) (below c 8287 (omega (arith, r.1)))) (below c 12288 (omega (arith, r.1)))

begins_low : (c : ℕ) → begins_identifier c ≡ true → c < 128
begins_low c e = grind (arith, e)

-- ## The first piece

-- the pieces from a character on, by whether it is white space and whether an identifier goes on with it
abbrev begun : ℕ → List ℕ → Bool → Bool → List (List ℕ)
begun c cs white joined = if white then pieces cs else if joined then joined_to c (pieces cs) else (c ∷ []) ∷ pieces cs

white_skipped : (c : ℕ) (cs : List ℕ) → is_whitespace c ≡ true → pieces (c ∷ cs) ≡ pieces cs
white_skipped c cs w = ap (λ b. begun c cs b (in_identifier c && goes_on cs)) w

one_other : (c : ℕ) (cs : List ℕ) → is_whitespace c ≡ false → in_identifier c ≡ false → pieces (c ∷ cs) ≡ (c ∷ []) ∷ pieces cs
one_other c cs w i = ap₂ (begun c cs) w (ap (λ b. b && goes_on cs) i)

some_by : (b : Bool) (n : ℕ) → b ≡ true → 0 < cond b (1 + n) 0
some_by true n e = omega arith
some_by false n e = absurd (cc)

none_by : (b : Bool) (n : ℕ) → b ≡ false → cond b (1 + n) 0 ≡ 0
none_by true n e = absurd (cc)
none_by false n e = refl

goes_some : (cs : List ℕ) → goes_on cs ≡ true → 0 < prefix_len in_identifier cs
goes_some [] e = absurd (cc)
goes_some (c ∷ cs) e = some_by (in_identifier c) (prefix_len in_identifier cs) e

goes_none : (cs : List ℕ) → goes_on cs ≡ false → prefix_len in_identifier cs ≡ 0
goes_none [] e = refl
goes_none (c ∷ cs) e = none_by (in_identifier c) (prefix_len in_identifier cs) e

-- the first n characters are the first piece
abbrev Parts : List ℕ → ℕ → Type 0
Parts cs n = pieces cs ≡ take n cs ∷ pieces (drop n cs)

run_next : (c : ℕ) (cs : List ℕ) (n : ℕ) (g : Bool) → in_identifier c ≡ true → goes_on cs ≡ g → (g ≡ true → Parts cs n) → (g ≡ false → n ≡ 0) → Parts (c ∷ cs) (suc n)
run_next c cs n true i e h z = ap₂ (begun c cs) (black c i) (ap₂ (λ a b. a && b) i e) ∙ ap (joined_to c) (h refl)
run_next c cs n false i e h z = ap₂ (begun c cs) (black c i) (ap₂ (λ a b. a && b) i e) ∙ ap (λ m. (c ∷ take m cs) ∷ pieces (drop m cs)) (sym (z refl))

run_by : (c : ℕ) (cs : List ℕ) (b : Bool) → in_identifier c ≡ b → 0 < cond b (1 + prefix_len in_identifier cs) 0 → (0 < prefix_len in_identifier cs → Parts cs (prefix_len in_identifier cs)) →
    Parts (c ∷ cs) (cond b (1 + prefix_len in_identifier cs) 0)
run_by c cs true i h rec = let one_more : suc (prefix_len in_identifier cs) ≡ 1 + prefix_len in_identifier cs = omega arith in
    subst (Parts (c ∷ cs)) one_more (run_next c cs (prefix_len in_identifier cs) (goes_on cs) i refl (λ e. rec (goes_some cs e)) (λ e. goes_none cs e))
run_by c cs false i h rec = absurd (omega (arith, h))

run_first : (cs : List ℕ) → 0 < prefix_len in_identifier cs → Parts cs (prefix_len in_identifier cs)
run_first [] h = absurd (omega (arith, h))
run_first (c ∷ cs) h = run_by c cs (in_identifier c) refl h (run_first cs)

-- a run that is not empty is the first piece
none_taken : (cs name : List ℕ) (n : ℕ) → name ≡ take n cs → (length name == 0) ≡ false → 0 < n
none_taken cs name zero e h = let none : length name ≡ 0 = ap length e in absurd (true≢false (sym (ap (λ n. n == 0) none) ∙ h))
none_taken cs name (suc n) e h = omega arith

pub run_is : (cs name there : List ℕ) → name ≡ take (prefix_len in_identifier cs) cs → there ≡ drop (prefix_len in_identifier cs) cs → (length name == 0) ≡ false → pieces cs ≡ name ∷ pieces there
run_is cs name there e h some = run_first cs (none_taken cs name (prefix_len in_identifier cs) e some) ∙ ap₂ (λ (a b : List ℕ). a ∷ pieces b) (sym e) (sym h)

no_run : (c : ℕ) (cs name : List ℕ) (b : Bool) → name ≡ take (cond b (1 + prefix_len in_identifier cs) 0) (c ∷ cs) → (length name == 0) ≡ true → b ≡ false
no_run c cs name false e h = refl
no_run c cs name true e h =
    let some : length (take (1 + prefix_len in_identifier cs) (c ∷ cs)) ≡ 0 = sym (ap length e) ∙ eqb-true (length name) 0 h in
    let more : 1 + prefix_len in_identifier cs ≡ suc (prefix_len in_identifier cs) = omega arith in
    let long : suc (length (take (prefix_len in_identifier cs) cs)) ≡ 0 = sym (ap (λ n. length (take n (c ∷ cs))) more) ∙ some in
    absurd (omega (arith, long))

one_at : (c : ℕ) (cs name here : List ℕ) → here ≡ c ∷ cs → name ≡ take (prefix_len in_identifier here) here → (length name == 0) ≡ true → begins_white here ≡ false → pieces here ≡ (c ∷ []) ∷ pieces cs
one_at c cs name here e n h w =
    ap pieces e ∙ one_other c cs (sym (ap begins_white e) ∙ w) (no_run c cs name (in_identifier c) (n ∙ ap (λ (z : List ℕ). take (prefix_len in_identifier z) z) e) h)

-- a character that begins no run, and is no white space, is the first piece
pub one_is : (cs name : List ℕ) (start c : ℕ) → name ≡ take (prefix_len in_identifier (drop start cs)) (drop start cs) → (length name == 0) ≡ true → drop start cs ≡ c ∷ drop (start + 1) cs → begins_white (drop start cs) ≡ false →
    pieces (drop start cs) ≡ take (start + 1 - start) (drop start cs) ∷ pieces (drop (start + 1) cs)
one_is cs name start c n h e w =
    let one : 1 ≡ start + 1 - start = omega arith in
    one_at c (drop (start + 1) cs) name (drop start cs) e n h w
    ∙ ap (λ (z : List ℕ). take 1 z ∷ pieces (drop (start + 1) cs)) (sym e)
    ∙ ap (λ n. take n (drop start cs) ∷ pieces (drop (start + 1) cs)) one

-- white space is passed over
pub passed : (i c : ℕ) (cs here : List ℕ) → pieces here ≡ pieces (drop i cs) → drop i cs ≡ c ∷ drop (i + 1) cs → is_whitespace c ≡ true → pieces here ≡ pieces (drop (i + 1) cs)
passed i c cs here h e w = h ∙ ap pieces e ∙ white_skipped c (drop (i + 1) cs) w

pub is_black : (cs more : List ℕ) (c : ℕ) → cs ≡ c ∷ more → is_whitespace c ≡ false → begins_white cs ≡ false
is_black cs more c e w = ap begins_white e ∙ w

pub none_white : (cs : List ℕ) → cs ≡ [] → begins_white cs ≡ false
none_white cs e = ap begins_white e

-- ## Identifiers are ASCII

halves : (a b : Bool) → (a && b) ≡ true → (a ≡ true) × (b ≡ true)
halves true b e = (refl, e)
halves false b e = absurd (cc)

all_plain : (cs : List ℕ) → list_all in_identifier cs ≡ true → encode_utf8_all cs ≡ cs
all_plain [] e = refl
all_plain (c ∷ cs) e = let h = halves (in_identifier c) (list_all in_identifier cs) e in ap₂ (λ a b. a ++ b) (encode_ascii c (small c h.0)) (all_plain cs h.1)

-- an identifier's characters are its bytes
pub plain_name : (name : List ℕ) → is_identifier name ≡ true → encode_utf8_all name ≡ name
plain_name [] e = absurd (cc)
plain_name (c ∷ more) e =
    let h = halves (begins_identifier c && nat_lt (length more) IDENTIFIER_BYTES) (list_all in_identifier more) e in
    let k = halves (begins_identifier c) (nat_lt (length more) IDENTIFIER_BYTES) h.0 in
    ap₂ (λ a b. a ++ b) (encode_ascii c (begins_low c k.0)) (all_plain more h.1)

-- ## Heads

abbrev some_head : List ℕ → Option (List ℕ) → Many → Option Head
some_head name label many = Some (record { name = name; label = label; many = many })

pub head_is : (name text : List ℕ) (label : Option (List ℕ)) (o : Option Many) (many : Many) → is_identifier name ≡ true → text ≡ encode_utf8_all name → o ≡ Some many → some_head text label many ≡ head_with name label o
head_is name text label o many i e h = ap (λ (z : List ℕ). some_head z label many) (e ∙ plain_name name i) ∙ ap (head_with name label) (sym h)

pub label_is : {E : Type 0} (r : Result (Option program.Head) E) (name label text : List ℕ) (o q : Option Many) (ps : List (List ℕ)) → is_identifier label ≡ true → text ≡ encode_utf8_all label → o ≡ q →
    head_behind name ps ≡ (if is_identifier label then head_with name (Some label) q else None) →
    IfOk r (λ h. option_map shown h ≡ head_with name (Some text) o) → IfOk r (λ h. option_map shown h ≡ head_behind name ps)
label_is r name label text o q ps i e h is t =
    let same : head_with name (Some text) o ≡ head_behind name ps =
    ap₂ (λ (z : List ℕ) (w : Option Many). head_with name (Some z) w) (e ∙ plain_name label i) h ∙ sym (is ∙ ap (λ b. if b then head_with name (Some label) q else None) i) in
    subst (λ (z : Option Head). IfOk r (λ h. option_map shown h ≡ z)) same t
