-- The pieces of a text.
use Rattle.std.proofs.Common.{◌≡◌, ◌≢◌, ℕ, zero, suc, ◌+◌, ◌<◌, ◌≤◌, List, [], ◌∷◌, ◌++◌, length, take, drop, map, Bool, true, false, refl, sym, ap, ap₂, ◌∙◌, subst, arith, append_assoc, append-nil, length-append, Some, None}
use Rattle.std.specs.Prelude.{◌==◌, not, if◌then◌else◌, nat_lt}
use Rattle.std.specs.List.{list_all, position_or_len, before_first, after_first, prefix_len, take_while}
use Rattle.std.proofs.lemmas.Bool.{eqb-true, ltb-false}
use Rattle.std.proofs.lemmas.List.{length-take, map-append}
use Rattle.std.proofs.lemmas.List.Sums.{prefix_len-le-length}
use Rattle.od_text.specs.Cuts.{split_once}
use Rattle.od_language.specs.Identifier.{in_identifier, is_identifier}
use Rattle.od_rule_text.specs.Texts.{begins_with}
use Rattle.od_rule_text.specs.Expansion.{Piece, stays, occurs, closed_name, occurrence, piece_at, bytes_behind, pieces}
use Rattle.od_rule_text.proofs.Outcomes.{both, taken, same_some}
use Rattle.od_rule_text.proofs.Cutting.{Avoids, cut_parts, drop_front}
use Rattle.std.proofs.lemmas.List.{take-append-drop}
use Rattle.od_expansion.specs.Bounds.{Holds}
use Rattle.od_expansion.specs.declared.bounded.Bounded.{Bounded}
use Rattle.od_expansion.specs.Occurrences.{Appends, Copied, HasOccurrence}

-- ## What no `$` is among

before_by : (c x : ℕ) (xs : List ℕ) (t : Bool) → (x == c) ≡ t → Avoids c (before_first (λ b. b == c) xs) →
    Avoids c (take (if not t then 1 + position_or_len (λ b. b == c) xs else 0) (x ∷ xs))
before_by c x xs true e h = refl
before_by c x xs false e h =
    let n : 1 + position_or_len (λ b. b == c) xs ≡ suc (position_or_len (λ b. b == c) xs) = omega arith in
    rw (n, e) h

before_avoids : (c : ℕ) (xs : List ℕ) → Avoids c (before_first (λ b. b == c) xs)
before_avoids c [] = refl
before_avoids c (x ∷ xs) = before_by c x xs (x == c) refl (before_avoids c xs)

all_by : (c x : ℕ) (xs : List ℕ) (t : Bool) → (x == c) ≡ t → (length xs ≤ position_or_len (λ b. b == c) xs → Avoids c xs) →
    length (x ∷ xs) ≤ (if not t then 1 + position_or_len (λ b. b == c) xs else 0) → Avoids c (x ∷ xs)
all_by c x xs true e h past = absurd (omega (arith, past))
all_by c x xs false e h past = rw e (h (omega (arith, past)))

all_avoids : (c : ℕ) (xs : List ℕ) → length xs ≤ position_or_len (λ b. b == c) xs → Avoids c xs
all_avoids c [] past = refl
all_avoids c (x ∷ xs) past = all_by c x xs (x == c) refl (all_avoids c xs) past

none_false : {A : Type 0} (t : Bool) (p : A) → (if t then Some p else None) ≡ None → t ≡ false
none_false true p e = absurd (cc)
none_false false p e = refl

-- a text that is not cut
uncut_avoids : (c : ℕ) (xs : List ℕ) → split_once c xs ≡ None → Avoids c xs
uncut_avoids c xs e = all_avoids c xs (ltb-false _ _ (none_false _ _ e))

-- the front of one that is
front_avoids : (c : ℕ) (xs : List ℕ) (p : List ℕ × List ℕ) → split_once c xs ≡ Some p → Avoids c p.0
front_avoids c xs p e =
    let t = taken (nat_lt (position_or_len (λ b. b == c) xs) (length xs)) (Some (before_first (λ b. b == c) xs, after_first (λ b. b == c) xs)) p e in
    subst (λ (q : List ℕ × List ℕ). Avoids c q.0) (same_some _ _ p refl t.1) (before_avoids c xs)

-- ## Pieces

stays_by : (c : ℕ) (text : List ℕ) (rest : List Piece) (t : Bool) → (c == 36) ≡ t → not t ≡ true → pieces 0 text ≡ rest →
    piece_at c (occurrence (c ∷ text)) ∷ pieces (bytes_behind (occurrence (c ∷ text))) text ≡ stays c ∷ rest
stays_by c text rest true e other same = absurd (cc)
stays_by c text rest false e other same =
    let none : occurrence (c ∷ text) ≡ None = rw e refl in
    rw none (ap (λ ps. stays c ∷ ps) same)

-- bytes among which no `$` is stay
pub stays_before : (front behind : List ℕ) → Avoids 36 front → pieces 0 (front ++ behind) ≡ map stays front ++ pieces 0 behind
stays_before [] behind h = refl
stays_before (c ∷ front) behind h =
    let t = both (not (c == 36)) (list_all (λ y. not (y == 36)) front) h in
    stays_by c (front ++ behind) (map stays front ++ pieces 0 behind) (c == 36) refl t.0 (stays_before front behind t.1)

pieces_past : (k : ℕ) (text : List ℕ) → pieces k text ≡ pieces 0 (drop k text)
pieces_past zero text = refl
pieces_past (suc k) [] = refl
pieces_past (suc k) (c ∷ text) = pieces_past k text

-- a `$` that stays
dollar_stays : (behind : List ℕ) → occurrence (36 ∷ behind) ≡ None → pieces 0 (36 ∷ behind) ≡ stays 36 ∷ pieces 0 behind
dollar_stays behind e = ap (λ o. piece_at 36 o ∷ pieces (bytes_behind o) behind) e

-- a variable that occurs
dollar_occurs : (behind name rest : List ℕ) → occurrence (36 ∷ behind) ≡ Some name → rest ≡ drop (length name + 2) behind → pieces 0 (36 ∷ behind) ≡ occurs name ∷ pieces 0 rest
dollar_occurs behind name rest e is =
    ap (λ o. piece_at 36 o ∷ pieces (bytes_behind o) behind) e ∙ ap (λ ps. occurs name ∷ ps) (pieces_past (length name + 2) behind ∙ ap (pieces 0) (sym is))

-- ## The name behind a `$`

unopened_by : (c : ℕ) (text : List ℕ) (t : Bool) → (c == 123) ≡ t → ((rest : List ℕ) → c ∷ text ≢ 123 ∷ rest) → occurrence (36 ∷ c ∷ text) ≡ None
unopened_by c text true e none = absurd (none text (ap (λ d. d ∷ text) (eqb-true c 123 e)))
unopened_by c text false e none = rw e refl

pub unopened : (text : List ℕ) → ((rest : List ℕ) → text ≢ 123 ∷ rest) → occurrence (36 ∷ text) ≡ None
unopened [] none = refl
unopened (c ∷ text) none = unopened_by c text (c == 123) refl none

-- the name between braces
name_between : (inner name rest : List ℕ) (n : ℕ) → n ≡ prefix_len in_identifier inner → name ≡ take n inner → rest ≡ drop n inner → occurrence (36 ∷ 123 ∷ inner) ≡ closed_name name rest
name_between inner name rest n is name_is rest_is =
    let long : length (take_while in_identifier inner) ≡ prefix_len in_identifier inner = omega (arith, length-take (prefix_len in_identifier inner) inner, prefix_len-le-length in_identifier inner) in
    ap₂ closed_name (ap (λ k. take k inner) (sym is) ∙ sym name_is) (ap (λ k. drop k inner) (long ∙ sym is) ∙ sym rest_is)

closed_none : (t : Bool) (name rest : List ℕ) → begins_with 125 rest ≡ t → t ≡ false → closed_name name rest ≡ None
closed_none true name rest e unmet = absurd (cc)
closed_none false name rest e unmet = by_name (is_identifier name) refl
  where
    by_name : (u : Bool) → is_identifier name ≡ u → closed_name name rest ≡ None
    by_name true f = rw (f, e) refl
    by_name false f = rw f refl

unclosed_by : (c : ℕ) (text : List ℕ) (t : Bool) → (c == 125) ≡ t → ((rest : List ℕ) → c ∷ text ≢ 125 ∷ rest) → t ≡ false
unclosed_by c text true e none = absurd (none text (ap (λ d. d ∷ text) (eqb-true c 125 e)))
unclosed_by c text false e none = refl

not_closed : (rest : List ℕ) → ((after : List ℕ) → rest ≢ 125 ∷ after) → begins_with 125 rest ≡ false
not_closed [] none = refl
not_closed (c ∷ rest) none = unclosed_by c rest (c == 125) refl none

pub unclosed : (text inner name rest : List ℕ) (n : ℕ) → text ≡ 123 ∷ inner → n ≡ prefix_len in_identifier inner → name ≡ take n inner → rest ≡ drop n inner → ((after : List ℕ) → rest ≢ 125 ∷ after) → occurrence (36 ∷ text) ≡ None
unclosed text inner name rest n opened is name_is rest_is none =
    ap (λ t. occurrence (36 ∷ t)) opened ∙ name_between inner name rest n is name_is rest_is ∙ closed_none (begins_with 125 rest) name rest refl (not_closed rest none)

pub unnamed : (text inner name rest : List ℕ) (n : ℕ) → text ≡ 123 ∷ inner → n ≡ prefix_len in_identifier inner → name ≡ take n inner → rest ≡ drop n inner → is_identifier name ≡ false → occurrence (36 ∷ text) ≡ None
unnamed text inner name rest n opened is name_is rest_is none =
    ap (λ t. occurrence (36 ∷ t)) opened ∙ name_between inner name rest n is name_is rest_is ∙ rw none refl

-- ## Copying up to an occurrence

appends_twice : (a b : List ℕ) (old mid new : Bounded) → Appends a old mid → Appends b mid new → Appends (a ++ b) old new
appends_twice a b old mid new first second front h = subst (Holds new) (append_assoc front a b) (second (front ++ a) (first front h))

map_stays : (a b : List ℕ) (ps : List Piece) → map stays (a ++ b) ++ ps ≡ map stays a ++ (map stays b ++ ps)
map_stays a b ps = ap (λ qs. qs ++ ps) (map-append stays a b) ∙ append_assoc (map stays a) (map stays b) ps

-- behind a `$` that stays
pub copied_dollar : (text rest front behind : List ℕ) (old out mid new : Bounded) → Copied text rest old out → split_once 36 rest ≡ Some (front, behind) → occurrence (36 ∷ behind) ≡ None →
    Appends front out mid → Appends (36 ∷ []) mid new → Copied text behind old new
copied_dollar text rest front behind old out mid new h cut none first second =
    let parts : rest ≡ front ++ 36 ∷ behind = cut_parts 36 rest (front, behind) cut in
    let own : List ℕ = front ++ 36 ∷ [] in
    let whole : rest ≡ own ++ behind = parts ∙ sym (append_assoc front (36 ∷ []) behind) in
    record {
      front = h.front ++ own;
      parts = h.parts ∙ ap (λ xs. h.front ++ xs) whole ∙ sym (append_assoc h.front own behind);
      pieces_are = h.pieces_are ∙ ap (λ ps. map stays h.front ++ ps) (ap (pieces 0) parts ∙ stays_before front (36 ∷ behind) (front_avoids 36 rest (front, behind) cut) ∙ ap (λ ps. map stays front ++ ps) (dollar_stays behind none) ∙ sym (map_stays front (36 ∷ []) (pieces 0 behind)))
          ∙ sym (map_stays h.front own (pieces 0 behind));
      appends = appends_twice h.front own old out new h.appends (appends_twice front (36 ∷ []) out mid new first second);
    }

-- at a variable
pub copied_found : (text rest front behind name after : List ℕ) (old out new : Bounded) → Copied text rest old out → split_once 36 rest ≡ Some (front, behind) → occurrence (36 ∷ behind) ≡ Some name →
    after ≡ drop (length name + 2) behind → length after < length behind → Appends front out new → HasOccurrence text name after old new
copied_found text rest front behind name after old out new h cut some is shorter first =
    let parts : rest ≡ front ++ 36 ∷ behind = cut_parts 36 rest (front, behind) cut in
    record {
      front = h.front ++ front;
      pieces_are = h.pieces_are ∙ ap (λ ps. map stays h.front ++ ps) (ap (pieces 0) parts ∙ stays_before front (36 ∷ behind) (front_avoids 36 rest (front, behind) cut) ∙ ap (λ ps. map stays front ++ ps) (dollar_occurs behind name after some is))
          ∙ sym (map_stays h.front front (occurs name ∷ pieces 0 after));
      appends = appends_twice h.front front old out new h.appends first;
      shorter = omega (arith, shorter, ap length h.parts, ap length parts, length-append h.front rest, length-append front (36 ∷ behind));
    }

-- at the end
pub copied_end : (text rest : List ℕ) (old out new : Bounded) → Copied text rest old out → split_once 36 rest ≡ None → Appends rest out new → (pieces 0 text ≡ map stays text) × Appends text old new
copied_end text rest old out new h uncut last =
    let all : pieces 0 rest ≡ map stays rest = ap (pieces 0) (sym (append-nil rest)) ∙ stays_before rest [] (uncut_avoids 36 rest uncut) ∙ append-nil (map stays rest) in (
      h.pieces_are ∙ ap (λ ps. map stays h.front ++ ps) all ∙ sym (map-append stays h.front rest) ∙ ap (map stays) (sym h.parts),
      subst (λ t. Appends t old new) (sym h.parts) (appends_twice h.front rest old out new h.appends last),
    )
