-- Lexemes whose kinds are a word of a grammar, and what follows, are read as the word's value.
use Rattle.std.proofs.Common.{◌≡◌, List, [], ◌∷◌, ◌++◌, length, Option, Result, Ok, Err, refl, sym, ◌∙◌, ap, subst, arith}
use Rattle.od_language.specs.declared.pattern_fault.PatternKind.{PatternKind}
use Rattle.od_language.specs.Alphabet.{Alphabet, kinds}
use Rattle.od_language.specs.FirstFault.{Grammar, Rules, Begins, Keeps, IsRead}
use Rattle.od_language.specs.Machine.{◌>>=◌, Step, Rule, IsReader}
use Rattle.od_language.specs.Whole.{IsToTheEnd}
use Rattle.od_language.proofs.Machine.{takes, front_taken}

module _ {X K : Type 0} (al : Alphabet X K) where
  -- lexemes whose kinds are split
  pub record Parted (l : List X) (a b : List K) : Type 0 where
    pub front : List X
    pub rest : List X
    pub parts : l ≡ front ++ rest
    pub begins : kinds al front ≡ a
    pub follows : kinds al rest ≡ b
    pub size : length a ≡ length front

  parted_more : (x : X) (y : K) (l : List X) (a b : List K) → al.sort x ≡ y → Parted l a b → Parted (x ∷ l) (y ∷ a) b
  parted_more x y l a b e p = record {
    front = x ∷ p.front;
    rest = p.rest;
    parts = ap (λ z. x ∷ z) p.parts;
    begins = ap (λ z. z ∷ kinds al p.front) e ∙ ap (λ z. y ∷ z) p.begins;
    follows = p.follows;
    size = omega (arith, p.size);
  }

  pub parted : (l : List X) (a b : List K) → kinds al l ≡ a ++ b → Parted l a b
  parted l [] b e = record { front = []; rest = l; parts = refl; begins = refl; follows = e; size = refl }
  parted [] (y ∷ a) b e = absurd (cc)
  parted (x ∷ l) (y ∷ a) b e =
      let first : al.sort x ≡ y = cc in
      let more : kinds al l ≡ a ++ b = cc in
      parted_more x y l a b first (parted l a b more)

  first_kind : (rest : List X) (x : X) (more : List X) (y : K) (b : List K) → kinds al rest ≡ y ∷ b → rest ≡ x ∷ more → al.sort x ≡ y
  first_kind rest x more y b e h = let same : al.sort x ∷ kinds al more ≡ y ∷ b = sym (ap (kinds al) h) ∙ e in cc

  one_left : (rest : List X) (y : K) → kinds al rest ≡ y ∷ [] → (x : X) × (rest ≡ x ∷ []) × (al.sort x ≡ y)
  one_left [] y e = absurd (cc)
  one_left (x ∷ []) y e = let same : al.sort x ≡ y = cc in (x, refl, same)
  one_left (x ∷ z ∷ more) y e = absurd (cc)

  module _ {C : Type 0} (Reads : Grammar K C) (Breaks : Rules K) (l : List X) (a : List K) (y : K) (b : List K) (c : C) (word : Reads a c []) (keeps : Keeps Breaks a)
      (stops : Begins Reads (a ++ y ∷ []) → ⊥) where
    -- a word, and a lexeme with which none goes on
    abbrev read_by : Parted l a (y ∷ b) → IsRead al Reads Breaks l c (length a)
    read_by p = record {
      front = p.front;
      rest = p.rest;
      parts = p.parts;
      size = p.size;
      reads = subst (λ (z : List K). Reads z c []) (sym p.begins) word;
      stops = λ x more e u. stops
          (subst (λ (z : List K). Begins Reads (z ++ y ∷ [])) p.begins (subst (λ (z : K). Begins Reads (kinds al p.front ++ z ∷ [])) (first_kind p.rest x more y b p.follows e) u));
      keeps = subst (Keeps Breaks) (sym p.begins) keeps;
    }

    pub read : kinds al l ≡ a ++ y ∷ b → IsRead al Reads Breaks l c (length a)
    read e = read_by (parted l a (y ∷ b) e)

  -- a word, and the end
  pub read_to_end : {C : Type 0} (Reads : Grammar K C) (Breaks : Rules K) (l : List X) (a : List K) (c : C) → Reads a c [] → Keeps Breaks a → (Begins Reads (a ++ al.end ∷ []) → ⊥) →
      kinds al l ≡ a ++ al.end ∷ [] → IsToTheEnd al Reads Breaks l c
  read_to_end Reads Breaks l a c word keeps stops e =
      let p = parted l a (al.end ∷ []) e in
      let q = one_left p.rest al.end p.follows in
      record { count = length a; read = read_by Reads Breaks l a al.end [] c word keeps stops p; last = q.0; behind = q.1; ends = q.2 }

module _ {X K S C : Type 0} (al : Alphabet X K) (Reads : Grammar K C) (Breaks : Rules K) (start : S) (step : Step S K) (rule : Rule K)
    (ended : S → Option C) (reader : IsReader al Reads Breaks start step rule ended) where
  not_taken : (s t : S) (q : Result S PatternKind) → step s al.end ≡ q → (q >>= λ u. Ok u) ≡ Ok t → ⊥
  not_taken s t (Ok u) e h = reader.no_end s u e
  not_taken s t (Err k) e h = absurd (cc)

  -- no word goes on with the end
  pub ends_there : (a : List K) → Begins Reads (a ++ al.end ∷ []) → ⊥
  ends_there a b =
      let t = takes al Reads Breaks start step rule ended reader (a ++ al.end ∷ []) b in
      let f = front_taken step start a (al.end ∷ []) t.0 t.1 in
      not_taken f.0 t.0 (step f.0 al.end) refl f.2
