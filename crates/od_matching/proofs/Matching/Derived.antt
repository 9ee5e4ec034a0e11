-- The law of choices, and the preferred way, for each pattern.
use Rattle.std.proofs.Common.{◌≡◌, ℕ, suc, ◌-◌, ◌<◌, ◌≤◌, Bool, true, false, List, ◌∷◌, ◌++◌, refl, sym, ◌∙◌, subst, inl, inr, arith}
use Rattle.std.proofs.lemmas.Bool.{ltb-true, leb-true, le-leb}
use Rattle.std.specs.Prelude.{Option, Some, None, if◌then◌else◌, nat_lt, nat_le, ◌&&◌, ◌==◌}
use Rattle.od_matching.specs.Matching.Choice.{Relation, Before, Choose, Times, Further, Endless}
use Rattle.od_matching.specs.Matching.First.{Ending, Continuation, Trial, first_further, first_endless}
use Rattle.od_matching.specs.Matching.Derives.{World, looks, fits_token, turns_from, first_turns, derives, in_order, one_of, first, first_order, first_of}
use Rattle.od_matching.proofs.Matching.Unambiguous.{IsUnambiguous, Agree, agree-Stays, agree-One, agree-Test, agree-Jump, agree-Never, agree-Then, agree-Choose, agree-Or, agree-Named, agree-Times, agree-Further, agree-Endless}
use Rattle.od_matching.proofs.Matching.Preferred.{IsFirst, Firsts, Within, Order, within-Stays, within-One, within-Test, within-Jump, within-Never, within-Then, within-Choose, within-Or, within-Named, within-Times, within-Further, within-Endless, first-Stays, first-One, first-Test, first-Jump, first-Never, first-Then, first-Named, first-Times, first-Further, first-Endless, choose_first, or_first, first_along}
use Rattle.od_pattern.specs.declared.pattern.Constraint.{Constraint}
use Rattle.od_pattern.specs.declared.pattern.Surface.{Surface, Row_of-Surface, end_of-Surface, more_of-Surface}
use Rattle.od_pattern.specs.declared.pattern.Surface.TheVariants.{Token, Label, Look, First, Last, Seq', Alt', Repeat', Capture'}
use Rattle.od_extraction.specs.declared.mention.Part.{Part}

-- each list of choices begins with a number from k on
abbrev Above : ℕ → Relation → Type 0
Above k A = (i j : ℕ) (c : List Part) (t : List ℕ) → A i j c t → (x : ℕ) × (v : List ℕ) × (t ≡ x ∷ v) × (k ≤ x)

left_of : (a b : Bool) → (a && b) ≡ true → a ≡ true
left_of true b e = refl
left_of false b e = e

-- the relation A, where the bounds of its turns are in order
abbrev Capped : ℕ → ℕ → Relation → Relation
Capped least most A i j c t = (least ≤ most) × A i j c t

agree-turns : (lazy : Bool) (A : Relation) (least : ℕ) (most : Option ℕ) → IsUnambiguous A → IsUnambiguous (turns_from lazy A least most)
agree-turns lazy A least None la i i' j j' c c' t t' u u' e d d' q = agree-Times A least (Endless lazy A) la (agree-Endless lazy A la) i i' j j' c c' t t' u u' e d d' q
agree-turns lazy A least (Some most) la i i' j j' c c' t t' u u' e d d' q = agree-Times A least (Further lazy A (most - least)) la (agree-Further lazy A la (most - least)) i i' j j' c c' t t' u u' e d.1 d'.1 q

-- the part with the number k against the later ones, whose numbers are greater
agree-first_rest : (k : ℕ) (A B : Relation) → Above (suc k) B → Agree (Choose k A) B
agree-first_rest k A B above i i' j j' c c' t t' u u' e d d' q =
    let h = above i' j' c' t' d' in
    let r : k ∷ (d.later ++ u) ≡ h.0 ∷ (h.1 ++ u') = subst (λ (x : List ℕ). x ++ u ≡ (h.0 ∷ h.1) ++ u') d.choices (subst (λ (x : List ℕ). t ++ u ≡ x ++ u') h.2 q) in
    let same : k ≡ h.0 = cc in
    let lt : suc k ≤ h.0 = h.3 in
    absurd (omega arith)

agree-rest_first : (k : ℕ) (A B : Relation) → Above (suc k) B → Agree B (Choose k A)
agree-rest_first k A B above i i' j j' c c' t t' u u' e d d' q =
    let h = above i j c t d in
    let r : h.0 ∷ (h.1 ++ u) ≡ k ∷ (d'.later ++ u') = subst (λ (x : List ℕ). x ++ u ≡ (k ∷ d'.later) ++ u') h.2 (subst (λ (x : List ℕ). t ++ u ≡ x ++ u') d'.choices q) in
    let same : h.0 ≡ k = cc in
    let lt : suc k ≤ h.0 = h.3 in
    absurd (omega arith)

-- the part with the number k is preferred to the later ones
order-first_rest : (k : ℕ) (A B : Relation) (i : ℕ) → Above (suc k) B → Order (Choose k A) B i
order-first_rest k A B i above j j' c c' t t' d d' q =
    let h = above i j' c' t' d' in
    let q' : Before (h.0 ∷ h.1) (k ∷ d.later) = subst (λ (z : List ℕ). Before z (k ∷ d.later)) h.2 (subst (λ (z : List ℕ). Before t' z) d.choices q) in
    let lt : suc k ≤ h.0 = h.3 in
    elim q' [ inl r ↦ absurd (omega arith) | inr (r, s) ↦ absurd (omega arith) ]

module _ (w : World) where
  -- the choices of an alternation begin with the numbers of its parts
  above-one_of : (k : ℕ) {m : _} (row : Row_of-Surface m) → Above k (one_of w k row)
  unfolding one_of
  above-one_of k end_of-Surface i j c t d = absurd d
  above-one_of k (more_of-Surface p rest) i j c t (inl d) = (k, d.later, d.choices, omega arith)
  above-one_of k (more_of-Surface p rest) i j c t (inr d) =
      let h = above-one_of (suc k) rest i j c t d in
      let le : suc k ≤ h.0 = h.3 in
      (h.0, h.1, h.2, omega arith)

  mutual
    unfolding derives in_order one_of

    -- the choices of a derivation decide it
    pub unambiguous : (p : Surface) → IsUnambiguous (derives w p)
    unambiguous (Token c) = agree-One (fits_token w c)
    unambiguous (Label name) = agree-Jump w.length (w.is_span name)
    unambiguous (Look ahead positive c) = agree-Test (looks w c ahead positive)
    unambiguous First = agree-Test (λ i. i == 0)
    unambiguous Last = agree-Test (λ i. i == w.length)
    unambiguous (Seq' v row) = agree-in_order row
    unambiguous (Alt' v row) = agree-one_of 0 row
    unambiguous (Repeat' v (more_of-Surface p end_of-Surface) turns) = agree-turns turns.lazy (derives w p) turns.least turns.most (unambiguous p)
    unambiguous (Capture' name v (more_of-Surface p end_of-Surface)) = agree-Named name (derives w p) (unambiguous p)

    agree-in_order : {m : _} (row : Row_of-Surface m) → IsUnambiguous (in_order w row)
    agree-in_order end_of-Surface = agree-Stays
    agree-in_order (more_of-Surface p rest) = agree-Then _ _ _ _ (unambiguous p) (agree-in_order rest)

    agree-one_of : (k : ℕ) {m : _} (row : Row_of-Surface m) → IsUnambiguous (one_of w k row)
    agree-one_of k end_of-Surface = agree-Never
    agree-one_of k (more_of-Surface p rest) =
        agree-Or _ _ _ _ (agree-Choose k _ _ (unambiguous p)) (agree-first_rest k _ _ (above-one_of (suc k) rest)) (agree-rest_first k _ _ (above-one_of (suc k) rest)) (agree-one_of (suc k) rest)

  inside_token : (n : Constraint) (i : ℕ) → fits_token w n i ≡ true → i < w.length
  inside_token n i e = ltb-true i w.length (left_of (nat_lt i w.length) (w.holds n i) e)

  within-turns : (l : ℕ) (lazy : Bool) (A : Relation) (least : ℕ) (most : Option ℕ) → Within l A → Within l (turns_from lazy A least most)
  within-turns l lazy A least None wa i j c t h d = within-Times l A least (Endless lazy A) wa (within-Endless l lazy A wa) i j c t h d
  within-turns l lazy A least (Some most) wa i j c t h d = within-Times l A least (Further lazy A (most - least)) wa (within-Further l lazy A (most - least) wa) i j c t h d.1

  mutual
    unfolding derives in_order one_of

    -- a derivation takes no token outside the sentence
    pub within : (p : Surface) → Within w.length (derives w p)
    within (Token c) = within-One w.length (fits_token w c) (inside_token c)
    within (Label name) = within-Jump w.length (w.is_span name)
    within (Look ahead positive c) = within-Test w.length (looks w c ahead positive)
    within First = within-Test w.length (λ i. i == 0)
    within Last = within-Test w.length (λ i. i == w.length)
    within (Seq' v row) = within-in_order row
    within (Alt' v row) = within-one_of 0 row
    within (Repeat' v (more_of-Surface p end_of-Surface) turns) = within-turns w.length turns.lazy (derives w p) turns.least turns.most (within p)
    within (Capture' name v (more_of-Surface p end_of-Surface)) = within-Named w.length name (derives w p) (within p)

    pub within-in_order : {m : _} (row : Row_of-Surface m) → Within w.length (in_order w row)
    within-in_order end_of-Surface = within-Stays w.length
    within-in_order (more_of-Surface p rest) = within-Then w.length _ _ (within p) (within-in_order rest)

    within-one_of : (k : ℕ) {m : _} (row : Row_of-Surface m) → Within w.length (one_of w k row)
    within-one_of k end_of-Surface = within-Never w.length
    within-one_of k (more_of-Surface p rest) = within-Or w.length _ _ (within-Choose w.length k _ (within p)) (within-one_of (suc k) rest)

  capped : (A : Relation) (least most : ℕ) (k : Continuation) (i : ℕ) (b : Bool) (x : Option Ending) → nat_le least most ≡ b → IsFirst A k i x
      → IsFirst (Capped least most A) k i (if b then x else None)
  capped A least most k i true x e f = first_along A (Capped least most A) k i x (λ j c t d. (leb-true least most e, d)) (λ j c t d. d.1) f
  capped A least most k i false x e f = λ j c t d. absurd (let p : false ≡ true = sym e ∙ le-leb least most d.0 in cc)

  -- turns with their bounds
  turns-first : (lazy : Bool) (A : Relation) (f : Trial) (least : ℕ) (most : Option ℕ) → IsUnambiguous A → Within w.length A → Firsts w.length A f
      → Firsts w.length (turns_from lazy A least most) (first_turns w.length lazy f least most)
  turns-first lazy A f least None la wa fa k i h =
      first-Times w.length A f least (Endless lazy A) (first_endless w.length lazy f) la wa fa (first-Endless w.length lazy A f la wa fa) k i h
  turns-first lazy A f least (Some most) la wa fa k i h =
      capped (Times A least (Further lazy A (most - least))) least most k i (nat_le least most) _ refl
      (first-Times w.length A f least (Further lazy A (most - least)) (first_further lazy f (most - least)) la wa fa (first-Further w.length lazy A f la wa fa (most - least)) k i h)

  mutual
    unfolding derives in_order one_of first first_order first_of

    -- the way that is computed is the preferred derivation
    pub firsts : (p : Surface) → Firsts w.length (derives w p) (first w p)
    firsts (Token c) = first-One w.length (fits_token w c)
    firsts (Label name) = first-Jump w.length (w.is_span name)
    firsts (Look ahead positive c) = first-Test w.length (looks w c ahead positive)
    firsts First = first-Test w.length (λ i. i == 0)
    firsts Last = first-Test w.length (λ i. i == w.length)
    firsts (Seq' v row) = firsts-in_order row
    firsts (Alt' v row) = firsts-one_of 0 row
    firsts (Repeat' v (more_of-Surface p end_of-Surface) turns) =
        turns-first turns.lazy (derives w p) (first w p) turns.least turns.most (unambiguous p) (within p) (firsts p)
    firsts (Capture' name v (more_of-Surface p end_of-Surface)) = first-Named w.length name (derives w p) (first w p) (firsts p)

    firsts-in_order : {m : _} (row : Row_of-Surface m) → Firsts w.length (in_order w row) (first_order w row)
    firsts-in_order end_of-Surface = first-Stays w.length
    firsts-in_order (more_of-Surface p rest) =
        first-Then w.length (derives w p) (in_order w rest) (first_order w rest) (unambiguous p) (within p) (firsts-in_order rest) (first w p) (firsts p)

    firsts-one_of : (k : ℕ) {m : _} (row : Row_of-Surface m) → Firsts w.length (one_of w k row) (first_of w row)
    firsts-one_of k end_of-Surface = first-Never w.length
    firsts-one_of k (more_of-Surface p rest) = λ g i h.
        or_first (Choose k (derives w p)) (one_of w (suc k) rest) g i _ _
        (order-first_rest k _ _ i (above-one_of (suc k) rest))
        (choose_first k (derives w p) g i _ (firsts p g i h))
        (firsts-one_of (suc k) rest g i h)
