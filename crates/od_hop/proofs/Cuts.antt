-- The lexemes before the place where a surface has to end.
use Rattle.std.proofs.Common.{◌≡◌, ℕ, suc, ◌+◌, ◌-◌, ◌≤◌, ◌==◌, ◌&&◌, ◌||◌, Bool, true, false, if◌then◌else◌, List, [], ◌∷◌, ◌++◌, take, drop, drop-drop, refl, sym, ◌∙◌, ap, arith}
use Rattle.std.proofs.lemmas.List.{take-append-drop, drop-take}
use Rattle.od_language.specs.declared.lexeme.Lexeme.{Lexeme}
use Rattle.od_language.specs.declared.lexeme.LexKind.{LexKind}
use Rattle.od_language.specs.declared.lexeme.LexKind.TheVariants.{RoundOpen, Along, Against, AnyAlong, AnyAgainst}
use Rattle.od_language.specs.Alphabet.{plain, kinds}
use Rattle.od_language.specs.Depth.{depth_behind}
use Rattle.od_path.specs.Steps.{begins_steps, steps_come}
use Rattle.od_syntax.specs.Told.{lexeme, steps_open, told_of, in_constraint, leads_to_steps}
use Rattle.od_hop.specs.Ends.{is_bar, ends_here, before_end}
use Rattle.od_hop.proofs.Hosts.{Cut}

module _ (narrow : Bool) where
  cut_by : (b : Bool) (d : ℕ) (x : Lexeme) (l : List Lexeme) (e : Bool) (n : ℕ) → ends_here narrow b d (x ∷ l) ≡ e → Cut narrow (in_constraint b x.kind) (depth_behind d x.kind) (take n l) (drop n l) →
      Cut narrow b d (take (if e then 0 else suc n) (x ∷ l)) (drop (if e then 0 else suc n) (x ∷ l))
  cut_by b d x l true n h c = h
  cut_by b d x l false n h c = (ap (λ (z : List Lexeme). ends_here narrow b d (x ∷ z)) (take-append-drop n l) ∙ h, c)

  pub cut_is : (b : Bool) (d : ℕ) (l : List Lexeme) → Cut narrow b d (take (before_end narrow b d l) l) (drop (before_end narrow b d l) l)
  cut_is b d [] = tt
  cut_is b d (x ∷ l) =
      cut_by b d x l (ends_here narrow b d (x ∷ l)) (before_end narrow (in_constraint b x.kind) (depth_behind d x.kind) l) refl (cut_is (in_constraint b x.kind) (depth_behind d x.kind) l)

  -- one lexeme more
  pub on_by : (b : Bool) (d : ℕ) (here : List Lexeme) (x : Lexeme) (l : List Lexeme) → here ≡ x ∷ l → ends_here narrow b d here ≡ false →
      before_end narrow b d here ≡ suc (before_end narrow (in_constraint b x.kind) (depth_behind d x.kind) l)
  on_by b d here x l e h =
      ap (before_end narrow b d) e
      ∙ ap (λ (z : Bool). if z then 0 else suc (before_end narrow (in_constraint b x.kind) (depth_behind d x.kind) l)) (sym (ap (ends_here narrow b d) e) ∙ h)

  pub ends_by : (b : Bool) (d : ℕ) (here : List Lexeme) (x : Lexeme) (l : List Lexeme) → here ≡ x ∷ l → ends_here narrow b d here ≡ true → before_end narrow b d here ≡ 0
  ends_by b d here x l e h =
      ap (before_end narrow b d) e
      ∙ ap (λ (z : Bool). if z then 0 else suc (before_end narrow (in_constraint b x.kind) (depth_behind d x.kind) l)) (sym (ap (ends_here narrow b d) e) ∙ h)

  pub ends_none : (b : Bool) (d : ℕ) (here : List Lexeme) → here ≡ [] → before_end narrow b d here ≡ 0
  ends_none b d here e = ap (before_end narrow b d) e

-- a part of a list up to a place, and the rest
pub joined_again : (i n : ℕ) (l : List Lexeme) → i ≤ n → drop i (take n l) ++ drop n l ≡ drop i l
joined_again i n l h =
    let same : n ≡ i + (n - i) = omega (arith, h) in
    ap (λ z. drop i (take z l) ++ drop z l) same
    ∙ ap (λ z. z ++ drop (i + (n - i)) l) (drop-take i (n - i) l) ∙ ap (λ z. take (n - i) (drop i l) ++ z) (sym (drop-drop (n - i) i l)) ∙ take-append-drop (n - i) (drop i l)

-- ## Brackets

or_right : (a b : Bool) → (a || b) ≡ false → b ≡ false
or_right true b e = absurd (cc)
or_right false b e = e

begins_if : (b : Bool) → begins_steps (if b then steps_open else lexeme RoundOpen) ≡ b
begins_if true = refl
begins_if false = refl

clear_kind : (x : LexKind) (l : List LexKind) → leads_to_steps (x ∷ l) ≡ false → begins_steps (told_of false x l) ≡ false
clear_kind RoundOpen l e = begins_if (leads_to_steps l) ∙ e
clear_kind Along l e = absurd (cc)
clear_kind Against l e = absurd (cc)
clear_kind AnyAlong l e = absurd (cc)
clear_kind AnyAgainst l e = absurd (cc)
clear_kind x l e = refl

-- where brackets lead to no steps, none come
pub clear_comes : (l : List Lexeme) → leads_to_steps (kinds plain l) ≡ false → steps_come l ≡ false
clear_comes [] e = refl
clear_comes (x ∷ l) e = clear_kind x.kind (kinds plain l) e

-- behind a bracket that opens no steps, no bracket does
pub clear_on : (narrow b : Bool) (d : ℕ) (here : List Lexeme) (x : Lexeme) (l : List Lexeme) → here ≡ x ∷ l → ends_here narrow b d here ≡ false → b ≡ false → x.kind ≡ RoundOpen → leads_to_steps (kinds plain l) ≡ false
clear_on narrow b d here x l e h outside bracket =
    let there : ends_here narrow false d (x ∷ l) ≡ false = sym (ap (ends_here narrow false d) e) ∙ sym (ap (λ (z : Bool). ends_here narrow z d here) outside) ∙ h in
    sym (begins_if (leads_to_steps (kinds plain l))) ∙ sym (ap (λ (z : LexKind). begins_steps (told_of false z (kinds plain l))) bracket)
    ∙ or_right (narrow && (d == 0 && is_bar x.kind)) (steps_come (x ∷ l)) there
