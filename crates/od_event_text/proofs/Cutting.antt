-- Lines, and the two parts of a line.
use Rattle.std.proofs.Common.{◌≡◌, ℕ, ◌+◌, ◌<◌, ◌≤◌, ◌==◌, ◌&&◌, Bool, true, false, not, if◌then◌else◌, cond, List, [], ◌∷◌, ◌++◌, length, take, drop, get_or, Option, Some, None, refl, sym, ◌∙◌, ap, subst, arith, length-append}
use Rattle.std.specs.Borrow.{Bor}
use Rattle.std.specs.Char.{encode_utf8, len_utf8, is_whitespace}
use Rattle.std.specs.List.{list_all, filter}
use Rattle.std.specs.Str.{chars, IsUtf8, NonePass, NoCharPasses, IsCharBoundary, encode_utf8_all, skip_leading_whitespace}
use Rattle.std.specs.Str.Pattern.{HasCharAt}
use Rattle.std.proofs.lemmas.Bool.{ne_eqb, eqb-true}
use Rattle.std.proofs.lemmas.Str.{chars_from_encodes, chars-append, chars_past_char, chars-nil, encode_ascii, length-encode, len_utf8_bounds, IsUtf8-take, IsUtf8-drop, IsCharBoundary-before_ascii}
use Rattle.std.proofs.lemmas.Str.Pattern.{IsSplitOnceResult, split_parts, drop_at_char}
use Rattle.od_language.specs.Lexing.{size_of}
use Rattle.od_lex.proofs.Sizes.{bytes_of}
use Rattle.od_syntax.specs.Events.{Line, begun_with, lines, headed_by, cut_from}
use Rattle.od_event_text.specs.declared.lines.Part.{Part}
use Rattle.od_event_text.specs.Parts.{IsCut, IsCutAt, ends, line_of, own_of, owned, IsFirstLine, IsNext, cut_of}

-- ## White space alone

blank_by : (c : ℕ) (cs : List ℕ) (b : Bool) → (length (encode_utf8_all (skip_leading_whitespace cs)) == 0) ≡ list_all is_whitespace cs →
    (length (encode_utf8_all (cond b (skip_leading_whitespace cs) (c ∷ cs))) == 0) ≡ (b && list_all is_whitespace cs)
blank_by c cs true h = h
blank_by c cs false h =
    let b = len_utf8_bounds c in
    let some : 0 < length (encode_utf8 c ++ encode_utf8_all cs) = omega (arith, length-append (encode_utf8 c) (encode_utf8_all cs), length-encode c, b.0) in
    ne_eqb (length (encode_utf8 c ++ encode_utf8_all cs)) 0 (λ e. omega (arith, e, some))

-- nothing is left without white space exactly where all is white space
pub blank : (cs : List ℕ) → (length (encode_utf8_all (skip_leading_whitespace cs)) == 0) ≡ list_all is_whitespace cs
blank [] = refl
blank (c ∷ cs) = blank_by c cs (is_whitespace c) (blank cs)

-- ## The first separator

none_in : (p : ℕ → Bool) (bs : List ℕ) → IsUtf8 bs → NoCharPasses p bs → NonePass p (chars bs)
none_in p bs u n = subst (NonePass p) (chars_from_encodes n.0 bs u n.1) n.2

module _ (c : ℕ) (bs : List ℕ) (u : IsUtf8 bs) (low : c < 128) where
  is_cut : (head rest : List ℕ) (i j : ℕ) → NoCharPasses (λ d. d == c) (take i bs) → HasCharAt c bs i j → head ≡ take i bs → rest ≡ drop j bs → length head ≡ i → bs ≡ head ++ (c ∷ rest) → IsCut c bs head rest
  is_cut head rest i j n h eh er li parts =
      let all : length bs ≡ length head + length (c ∷ rest) = ap length parts ∙ length-append head (c ∷ rest) in
      let within : i < length bs = omega (arith, all, li) in
      let is_c : get_or bs i 0 ≡ c = h.byte low in
      let below : get_or bs i 0 < 128 = omega (arith, is_c, low) in
      let before : IsCharBoundary bs i = IsCharBoundary-before_ascii bs i within below in
      let uh : IsUtf8 head = subst IsUtf8 (sym eh) (IsUtf8-take bs i u before) in
      let uc : IsUtf8 (c ∷ rest) = subst IsUtf8 (drop_at_char c bs i j h low ∙ ap (λ z. c ∷ z) (sym er)) (IsUtf8-drop bs i u before) in
      record {
        parts = ap chars parts ∙ chars-append head (c ∷ rest) uh ∙ ap (λ z. chars head ++ z) (chars_past_char (c ∷ rest) rest c uc (sym (ap (λ z. z ++ rest) (encode_ascii c low))));
        first = none_in (λ d. d == c) head uh (subst (NoCharPasses (λ d. d == c)) (sym eh) n);
        size = bytes_of head uh;
        all = omega (arith, all);
      }

  pub cut_tells : (r : Option (Bor (List ℕ) × Bor (List ℕ))) → IsSplitOnceResult c bs r → IsCutAt c bs r
  cut_tells None h = none_in (λ d. d == c) bs u h
  cut_tells (Some x) h = is_cut x.0.now x.1.now h.0 h.1 h.2.0 h.2.1 h.3 h.4 h.6 (split_parts c bs (Some x) h low).0

-- ## Lines

line_ended : (at : ℕ) (front rest : List ℕ) → NonePass (λ d. d == 10) front → lines at (front ++ 10 ∷ rest) ≡ (record { at = at; text = front }) ∷ lines (at + size_of front + 1) rest
line_ended at [] rest n = ap (λ z. (record { at = at; text = [] }) ∷ lines z rest) (omega arith)
line_ended at (c ∷ front) rest n =
    rw n.0 (ap (begun_with at c) (line_ended (at + len_utf8 c) front rest n.1) ∙ ap (λ z. (record { at = at; text = c ∷ front }) ∷ lines z rest) (omega arith))

line_alone : (at : ℕ) (cs : List ℕ) → NonePass (λ d. d == 10) cs → lines at cs ≡ (record { at = at; text = cs }) ∷ []
line_alone at [] n = refl
line_alone at (c ∷ cs) n = rw n.0 (ap (begun_with at c) (line_alone (at + len_utf8 c) cs n.1))

-- the lines that are not of white space alone
abbrev own : List Line → List Line
own ls = filter (λ l. not (list_all is_whitespace l.text)) ls

-- the first line, which a line feed ends
pub first_ended : (rest line more : Part) → IsCut 10 rest.text.now line.text.now more.text.now → line.at ≡ rest.at → more.at ≡ rest.at + length line.text.now + 1 → IsFirstLine rest line more
first_ended rest line more k el em =
    let place : rest.at + size_of (chars line.text.now) + 1 ≡ more.at = omega (arith, k.size, em) in
    record {
      own = ap (λ (z : List ℕ). own (lines rest.at z)) k.parts
          ∙ ap own (line_ended rest.at (chars line.text.now) (chars more.text.now) k.first)
          ∙ ap (λ (z : ℕ). owned (record { at = rest.at; text = chars line.text.now }) (own (lines z (chars more.text.now)))) place
          ∙ ap (λ (z : ℕ). owned (record { at = z; text = chars line.text.now }) (own_of more)) (sym el);
      line_within = omega (arith, k.all, el);
      more_within = omega (arith, k.all, em);
      shorter = omega (arith, k.all);
    }

none_left : (more : Part) → more.text.now ≡ [] → own_of more ≡ []
none_left more e = ap (λ (z : List ℕ). own (lines more.at (chars z))) e ∙ ap (λ (z : List ℕ). own (lines more.at z)) chars-nil

-- the first line, which nothing ends
pub first_alone : (rest more : Part) → NonePass (λ d. d == 10) (chars rest.text.now) → more.text.now ≡ [] → more.at ≡ rest.at + length rest.text.now → 0 < length rest.text.now → IsFirstLine rest rest more
first_alone rest more n e em some =
    let short : length more.text.now ≡ 0 = ap length e in
    record {
      own = ap own (line_alone rest.at (chars rest.text.now) n) ∙ ap (owned (line_of rest)) (sym (none_left more e));
      line_within = omega arith;
      more_within = omega (arith, em, short);
      shorter = omega (arith, short, some);
    }

owned_blank : (line : Line) (ls : List Line) (b : Bool) → list_all is_whitespace line.text ≡ b → b ≡ true → owned line ls ≡ ls
owned_blank line ls b e h = ap (λ z. if not z then line ∷ ls else ls) (e ∙ h)

owned_own : (line : Line) (ls : List Line) (b : Bool) → list_all is_whitespace line.text ≡ b → b ≡ false → owned line ls ≡ line ∷ ls
owned_own line ls b e h = ap (λ z. if not z then line ∷ ls else ls) (e ∙ h)

-- what is left of a part, whose lines before are of white space alone
pub record Left (all rest : Part) : Type 0 where
  pub own : own_of all ≡ own_of rest
  pub within : ends rest ≤ ends all
  pub short : length rest.text.now ≤ length all.text.now

pub left_all : (all : Part) → Left all all
left_all all = record { own = refl; within = omega arith; short = omega arith }

pub left_more : (all rest line more : Part) (b : Bool) → Left all rest → IsFirstLine rest line more → b ≡ list_all is_whitespace (chars line.text.now) → b ≡ true → Left all more
left_more all rest line more b l f e h = record {
  own = l.own ∙ f.own ∙ owned_blank (line_of line) (own_of more) b (sym e) h;
  within = omega (arith, l.within, f.more_within);
  short = omega (arith, l.short, f.shorter);
}

pub left_found : (all rest line more : Part) (b : Bool) → Left all rest → IsFirstLine rest line more → b ≡ list_all is_whitespace (chars line.text.now) → b ≡ false → IsNext all line more
left_found all rest line more b l f e h = record {
  own = l.own ∙ f.own ∙ owned_own (line_of line) (own_of more) b (sym e) h;
  line_within = omega (arith, l.within, f.line_within);
  more_within = omega (arith, l.within, f.more_within);
  shorter = omega (arith, l.short, f.shorter);
}

no_bytes : (bs : List ℕ) → (length bs == 0) ≡ true → bs ≡ []
no_bytes [] e = refl
no_bytes (b ∷ bs) e = let n = eqb-true (length (b ∷ bs)) 0 e in absurd (omega (arith, n))

pub left_none : (all rest : Part) (b : Bool) → Left all rest → b ≡ (length rest.text.now == 0) → b ≡ true → own_of all ≡ []
left_none all rest b l e h = l.own ∙ none_left rest (no_bytes rest.text.now (sym e ∙ h))

-- ## The first `=`

cut_there : (at : ℕ) (front rest : List ℕ) → NonePass (λ d. d == 61) front → cut_from at (front ++ 61 ∷ rest) ≡ Some (record { head = front; at = at + size_of front + 1; text = rest })
cut_there at [] rest n = ap (λ z. Some (record { head = []; at = z; text = rest })) (omega arith)
cut_there at (c ∷ front) rest n =
    rw n.0 (ap (headed_by c) (cut_there (at + len_utf8 c) front rest n.1) ∙ ap (λ z. Some (record { head = c ∷ front; at = z; text = rest })) (omega arith))

no_cut : (at : ℕ) (cs : List ℕ) → NonePass (λ d. d == 61) cs → cut_from at cs ≡ None
no_cut at [] n = refl
no_cut at (c ∷ cs) n = rw n.0 (ap (headed_by c) (no_cut (at + len_utf8 c) cs n.1))

-- a line that an `=` parts
pub parted : (line behind : Part) (head : List ℕ) → IsCut 61 line.text.now head behind.text.now → behind.at ≡ line.at + length head + 1 →
    (cut_from line.at (chars line.text.now) ≡ Some (cut_of head behind)) × (ends behind ≤ ends line)
parted line behind head k e =
    let place : line.at + size_of (chars head) + 1 ≡ behind.at = omega (arith, k.size, e) in (
      ap (cut_from line.at) k.parts ∙ cut_there line.at (chars head) (chars behind.text.now) k.first
          ∙ ap (λ (z : ℕ). Some (record { head = chars head; at = z; text = chars behind.text.now })) place,
      omega (arith, k.all, e),
    )

pub unparted : (line : Part) → NonePass (λ d. d == 61) (chars line.text.now) → cut_from line.at (chars line.text.now) ≡ None
unparted line n = no_cut line.at (chars line.text.now) n
