-- The same choices lead to the same place with the same captures, and no list of choices begins another.
use Rattle.std.proofs.Common.{◌≡◌, ℕ, zero, suc, ◌+◌, ◌-◌, ◌≤◌, Bool, true, false, List, [], ◌∷◌, ◌++◌, sym, ◌∙◌, ap, subst, inl, inr, arith, append_assoc}
use Rattle.od_matching.specs.Matching.Choice.{capture, Relation, Stays, OneToken, Test, Jump, Never, Then, Choose, Either, Took, Named, Times, another, stop, Further, Exactly, Endless}
use Rattle.od_extraction.specs.declared.mention.Part.{Part}

-- the same ends, captures and choices, and the same behind the choices
pub record Same (j j' : ℕ) (c c' : List Part) (t t' u u' : List ℕ) : Type 0 where
  pub ends : j ≡ j'
  pub captures : c ≡ c'
  pub choices : t ≡ t'
  pub rest : u ≡ u'

-- derivations of A and of B from one place, whose choices agree as far as both go, are the same; what follows the choices agrees too
abbrev pub Agree : Relation → Relation → Type 0
Agree A B = (i i' j j' : ℕ) (c c' : List Part) (t t' u u' : List ℕ) → i ≡ i' → A i j c t → B i' j' c' t' → t ++ u ≡ t' ++ u' → Same j j' c c' t t' u u'

-- derivations from one place whose choices agree as far as both go are the same
abbrev pub IsUnambiguous : Relation → Type 0
IsUnambiguous A = Agree A A

-- the laws of the single relations, from those of their parts
pub agree-Stays : IsUnambiguous Stays
agree-Stays i i' j j' c c' t t' u u' e d d' q =
    let r : [] ++ u ≡ [] ++ u' = subst (λ (x : List ℕ). x ++ u ≡ [] ++ u') d.choices (subst (λ (x : List ℕ). t ++ u ≡ x ++ u') d'.choices q) in
    record { ends = d.ends ∙ e ∙ sym d'.ends; captures = d.captures ∙ sym d'.captures; choices = d.choices ∙ sym d'.choices; rest = r }

pub agree-One : (f : ℕ → Bool) → IsUnambiguous (OneToken f)
agree-One f i i' j j' c c' t t' u u' e d d' q =
    let r : [] ++ u ≡ [] ++ u' = subst (λ (x : List ℕ). x ++ u ≡ [] ++ u') d.choices (subst (λ (x : List ℕ). t ++ u ≡ x ++ u') d'.choices q) in
    record { ends = d.ends ∙ ap (λ n. n + 1) e ∙ sym d'.ends; captures = d.captures ∙ sym d'.captures; choices = d.choices ∙ sym d'.choices; rest = r }

pub agree-Test : (f : ℕ → Bool) → IsUnambiguous (Test f)
agree-Test f i i' j j' c c' t t' u u' e d d' q = agree-Stays i i' j j' c c' t t' u u' e d.stays d'.stays q

pub agree-Jump : (l : ℕ) (f : ℕ → ℕ → Bool) → IsUnambiguous (Jump l f)
agree-Jump l f i i' j j' c c' t t' u u' e d d' q =
    let r : (l - j) ∷ u ≡ (l - j') ∷ u' = subst (λ (x : List ℕ). x ++ u ≡ ((l - j') ∷ []) ++ u') d.choices (subst (λ (x : List ℕ). t ++ u ≡ x ++ u') d'.choices q) in
    let h : l - j ≡ l - j' = cc in
    let ends : j ≡ j' = let a : j ≤ l = d.within in let b : j' ≤ l = d'.within in omega arith in
    record { ends = ends; captures = d.captures ∙ sym d'.captures; choices = d.choices ∙ ap (λ n. (l - n) ∷ []) ends ∙ sym d'.choices; rest = cc }

pub agree-Never : IsUnambiguous Never
agree-Never i i' j j' c c' t t' u u' e d d' q = absurd d

module _ (A A' B B' : Relation) where
  pub agree-Then : Agree A A' → Agree B B' → Agree (Then A B) (Then A' B')
  agree-Then la lb i i' j j' c c' t t' u u' e d d' q =
      let r : (d.t1 ++ d.t2) ++ u ≡ (d'.t1 ++ d'.t2) ++ u' = subst (λ (x : List ℕ). x ++ u ≡ (d'.t1 ++ d'.t2) ++ u') d.choices (subst (λ (x : List ℕ). t ++ u ≡ x ++ u') d'.choices q) in
      let s : d.t1 ++ (d.t2 ++ u) ≡ d'.t1 ++ (d'.t2 ++ u') = sym (append_assoc d.t1 d.t2 u) ∙ r ∙ append_assoc d'.t1 d'.t2 u' in
      let x : Same d.mid d'.mid d.c1 d'.c1 d.t1 d'.t1 (d.t2 ++ u) (d'.t2 ++ u') = la i i' d.mid d'.mid d.c1 d'.c1 d.t1 d'.t1 _ _ e d.left d'.left s in
      let y : Same j j' d.c2 d'.c2 d.t2 d'.t2 u u' = lb d.mid d'.mid j j' d.c2 d'.c2 d.t2 d'.t2 u u' x.ends d.right d'.right x.rest in
      let p : d.c1 ++ d.c2 ≡ d'.c1 ++ d'.c2 = ap (λ z. z ++ d.c2) x.captures ∙ ap (λ z. d'.c1 ++ z) y.captures in
      let h : d.t1 ++ d.t2 ≡ d'.t1 ++ d'.t2 = ap (λ z. z ++ d.t2) x.choices ∙ ap (λ z. d'.t1 ++ z) y.choices in
      record { ends = y.ends; captures = d.captures ∙ p ∙ sym d'.captures; choices = d.choices ∙ h ∙ sym d'.choices; rest = y.rest }

-- what two lists of choices that begin with these numbers have in common
heads : (n n' : ℕ) (t t' v v' u u' : List ℕ) → t ≡ n ∷ v → t' ≡ n' ∷ v' → t ++ u ≡ t' ++ u' → (n ≡ n') × (v ++ u ≡ v' ++ u')
heads n n' t t' v v' u u' e e' q =
    let r : n ∷ (v ++ u) ≡ n' ∷ (v' ++ u') = subst (λ (x : List ℕ). x ++ u ≡ (n' ∷ v') ++ u') e (subst (λ (x : List ℕ). t ++ u ≡ x ++ u') e' q) in
    (cc, cc)

pub agree-Choose : (n : ℕ) (A B : Relation) → Agree A B → Agree (Choose n A) (Choose n B)
agree-Choose n A B la i i' j j' c c' t t' u u' e d d' q =
    let h = heads n n t t' d.later d'.later u u' d.choices d'.choices q in
    let x : Same j j' c c' d.later d'.later u u' = la i i' j j' c c' d.later d'.later u u' e d.goes d'.goes h.1 in
    record { ends = x.ends; captures = x.captures; choices = d.choices ∙ ap (λ z. n ∷ z) x.choices ∙ sym d'.choices; rest = x.rest }

-- different first choices
pub agree-apart : (n m : ℕ) (A B : Relation) → (n ≡ m → ⊥) → Agree (Choose n A) (Choose m B)
agree-apart n m A B ne i i' j j' c c' t t' u u' e d d' q = absurd (ne (heads n m t t' d.later d'.later u u' d.choices d'.choices q).0)

-- either side of the one against either side of the other
pub agree-Or : (A B A' B' : Relation) → Agree A A' → Agree A B' → Agree B A' → Agree B B' → Agree (Either A B) (Either A' B')
agree-Or A B A' B' aa ab ba bb i i' j j' c c' t t' u u' e (inl d) (inl d') q = aa i i' j j' c c' t t' u u' e d d' q
agree-Or A B A' B' aa ab ba bb i i' j j' c c' t t' u u' e (inl d) (inr d') q = ab i i' j j' c c' t t' u u' e d d' q
agree-Or A B A' B' aa ab ba bb i i' j j' c c' t t' u u' e (inr d) (inl d') q = ba i i' j j' c c' t t' u u' e d d' q
agree-Or A B A' B' aa ab ba bb i i' j j' c c' t t' u u' e (inr d) (inr d') q = bb i i' j j' c c' t t' u u' e d d' q

pub agree-Took : (A : Relation) → IsUnambiguous A → IsUnambiguous (Took A)
agree-Took A la i i' j j' c c' t t' u u' e d d' q = la i i' j j' c c' t t' u u' e d.1 d'.1 q

-- the captures inside agree, and so the one around them
pub agree-Named : (name : List ℕ) (A : Relation) → IsUnambiguous A → IsUnambiguous (Named name A)
agree-Named name A la i i' j j' c c' t t' u u' e d d' q =
    let x : Same j j' d.inner d'.inner t t' u u' = la i i' j j' d.inner d'.inner t t' u u' e d.goes d'.goes q in
    let same : ◌≡◌ {A = List Part} (capture name i j ∷ d.inner) (capture name i' j' ∷ d'.inner) =
    ap (λ a. capture name a j ∷ d.inner) e ∙ ap (λ b. capture name i' b ∷ d.inner) x.ends ∙ ap (λ z. capture name i' j' ∷ z) x.captures in
    record { ends = x.ends; captures = d.captures ∙ same ∙ sym d'.captures; choices = x.choices; rest = x.rest }

pub agree-Times : (A : Relation) (n : ℕ) (B : Relation) → IsUnambiguous A → IsUnambiguous B → IsUnambiguous (Times A n B)
agree-Times A zero B la lb = lb
agree-Times A (suc n) B la lb = agree-Then A A (Times A n B) (Times A n B) la (agree-Times A n B la lb)

-- the two choices at a further turn differ
another-stop : (lazy : Bool) → another lazy ≡ stop lazy → ⊥
another-stop true e = omega arith
another-stop false e = omega arith

stop-another : (lazy : Bool) → stop lazy ≡ another lazy → ⊥
stop-another lazy e = another-stop lazy (sym e)

module _ (lazy : Bool) (A : Relation) (la : IsUnambiguous A) where
  pub agree-Further : (n : ℕ) → IsUnambiguous (Further lazy A n)
  agree-Further zero = agree-Stays
  agree-Further (suc n) =
      agree-Or _ _ _ _
      (agree-Choose (another lazy) _ _ (agree-Then (Took A) (Took A) (Further lazy A n) (Further lazy A n) (agree-Took A la) (agree-Further n)))
      (agree-apart _ _ _ _ (another-stop lazy))
      (agree-apart _ _ _ _ (stop-another lazy))
      (agree-Choose (stop lazy) Stays Stays agree-Stays)

  -- numbers of turns that differ differ in a choice
  agree-Exactly : (n m : ℕ) → Agree (Exactly lazy A n) (Exactly lazy A m)
  agree-Exactly zero zero = agree-Choose (stop lazy) Stays Stays agree-Stays
  agree-Exactly zero (suc m) = agree-apart _ _ _ _ (stop-another lazy)
  agree-Exactly (suc n) zero = agree-apart _ _ _ _ (another-stop lazy)
  agree-Exactly (suc n) (suc m) =
      agree-Choose (another lazy) _ _ (agree-Then (Took A) (Took A) (Exactly lazy A n) (Exactly lazy A m) (agree-Took A la) (agree-Exactly n m))

  pub agree-Endless : IsUnambiguous (Endless lazy A)
  agree-Endless i i' j j' c c' t t' u u' e d d' q = agree-Exactly d.0 d'.0 i i' j j' c c' t t' u u' e d.1 d'.1 q
