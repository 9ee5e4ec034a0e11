-- Captures lie within what their derivation takes.
use Rattle.std.proofs.Common.{◌≡◌, ℕ, zero, suc, ◌-◌, ◌≤◌, Bool, List, [], Option, Some, None, sym, subst, inl, inr, arith}
use Rattle.std.specs.Prelude.{◌==◌}
use Rattle.od_text.specs.Lists.{Each}
use Rattle.od_matching.specs.Matching.Choice.{Relation, Stays, OneToken, Test, Jump, Never, Then, Choose, Either, Took, Named, Times, another, stop, Further, Exactly, Endless}
use Rattle.od_matching.specs.Matching.Derives.{World, looks, fits_token, turns_from, derives, in_order, one_of}
use Rattle.od_matching.specs.Matching.Laws.{IsInside}
use Rattle.od_text.proofs.Lists.{Each-append, Each-weaker}
use Rattle.od_matching.proofs.Matching.Preferred.{Within, within-Took, within-Times, within-Further, within-Exactly, within-Endless}
use Rattle.od_matching.proofs.Matching.Derived.{within, within-in_order}
use Rattle.od_pattern.specs.declared.pattern.Surface.{Surface, Row_of-Surface, end_of-Surface, more_of-Surface}
use Rattle.od_pattern.specs.declared.pattern.Surface.TheVariants.{Token, Label, Look, First, Last, Seq', Alt', Repeat', Capture'}
use Rattle.od_extraction.specs.declared.mention.Part.{Part}

-- each capture of a derivation from within so many tokens lies within what the derivation takes
abbrev pub Encloses : ℕ → Relation → Type 0
Encloses l A = (i j : ℕ) (c : List Part) (t : List ℕ) → i ≤ l → A i j c t → Each (IsInside i j) c

-- where there is no capture
no_capture : (i j : ℕ) (c : List Part) → c ≡ [] → Each (IsInside i j) c
no_capture i j c e = subst (Each (IsInside i j)) (sym e) tt

encloses-Stays : (l : ℕ) → Encloses l Stays
encloses-Stays l i j c t h d = no_capture i j c d.captures

encloses-One : (l : ℕ) (f : ℕ → Bool) → Encloses l (OneToken f)
encloses-One l f i j c t h d = no_capture i j c d.captures

encloses-Test : (l : ℕ) (f : ℕ → Bool) → Encloses l (Test f)
encloses-Test l f i j c t h d = encloses-Stays l i j c t h d.stays

encloses-Jump : (l : ℕ) (f : ℕ → ℕ → Bool) → Encloses l (Jump l f)
encloses-Jump l f i j c t h d = no_capture i j c d.captures

encloses-Never : (l : ℕ) → Encloses l Never
encloses-Never l i j c t h d = absurd d

-- what lies inside a span lies inside a wider one
wider : (i i' j j' : ℕ) → i ≤ i' → j' ≤ j → (c : List Part) → Each (IsInside i' j') c → Each (IsInside i j) c
wider i i' j j' h k c inside =
    Each-weaker (IsInside i' j') (IsInside i j) (λ x w. let a : i' ≤ x.start = w.0 in let b : x.end ≤ j' = w.2 in (omega arith, w.1, omega arith)) c inside

encloses-Then : (l : ℕ) (A B : Relation) → Within l A → Within l B → Encloses l A → Encloses l B → Encloses l (Then A B)
encloses-Then l A B wa wb ea eb i j c t h d =
    let p = wa i d.mid d.c1 d.t1 h d.left in
    let q = wb d.mid j d.c2 d.t2 p.1 d.right in
    let left = wider i i j d.mid (omega arith) q.0 d.c1 (ea i d.mid d.c1 d.t1 h d.left) in
    let right = wider i d.mid j j p.0 (omega arith) d.c2 (eb d.mid j d.c2 d.t2 p.1 d.right) in
    subst (Each (IsInside i j)) (sym d.captures) (Each-append (IsInside i j) d.c1 d.c2 left right)

encloses-Choose : (l n : ℕ) (A : Relation) → Encloses l A → Encloses l (Choose n A)
encloses-Choose l n A ea i j c t h d = ea i j c d.later h d.goes

encloses-Or : (l : ℕ) (A B : Relation) → Encloses l A → Encloses l B → Encloses l (Either A B)
encloses-Or l A B ea eb i j c t h (inl d) = ea i j c t h d
encloses-Or l A B ea eb i j c t h (inr d) = eb i j c t h d

encloses-Took : (l : ℕ) (A : Relation) → Encloses l A → Encloses l (Took A)
encloses-Took l A ea i j c t h d = ea i j c t h d.1

encloses-Named : (l : ℕ) (name : List ℕ) (A : Relation) → Within l A → Encloses l A → Encloses l (Named name A)
encloses-Named l name A wa ea i j c t h d =
    let p = wa i j d.inner t h d.goes in
    subst (Each (IsInside i j)) (sym d.captures) ((omega arith, p.0, omega arith), ea i j d.inner t h d.goes)

module _ (l : ℕ) (A : Relation) (wa : Within l A) (ea : Encloses l A) where
  encloses-Times : (n : ℕ) (B : Relation) → Within l B → Encloses l B → Encloses l (Times A n B)
  encloses-Times zero B wb eb = eb
  encloses-Times (suc n) B wb eb = encloses-Then l A (Times A n B) wa (within-Times l A n B wa wb) ea (encloses-Times n B wb eb)

  encloses-Further : (lazy : Bool) (n : ℕ) → Encloses l (Further lazy A n)
  encloses-Further lazy zero = encloses-Stays l
  encloses-Further lazy (suc n) =
      encloses-Or l _ _
      (encloses-Choose l (another lazy) _ (encloses-Then l (Took A) (Further lazy A n) (within-Took l A wa) (within-Further l lazy A n wa) (encloses-Took l A ea) (encloses-Further lazy n)))
      (encloses-Choose l (stop lazy) Stays (encloses-Stays l))

  encloses-Exactly : (lazy : Bool) (n : ℕ) → Encloses l (Exactly lazy A n)
  encloses-Exactly lazy zero = encloses-Choose l (stop lazy) Stays (encloses-Stays l)
  encloses-Exactly lazy (suc n) =
      encloses-Choose l (another lazy) _ (encloses-Then l (Took A) (Exactly lazy A n) (within-Took l A wa) (within-Exactly l lazy A n wa) (encloses-Took l A ea) (encloses-Exactly lazy n))

  encloses-Endless : (lazy : Bool) → Encloses l (Endless lazy A)
  encloses-Endless lazy i j c t h d = encloses-Exactly lazy d.0 i j c t h d.1

  encloses-turns : (lazy : Bool) (least : ℕ) (most : Option ℕ) → Encloses l (turns_from lazy A least most)
  encloses-turns lazy least None i j c t h d = encloses-Times least (Endless lazy A) (within-Endless l lazy A wa) (encloses-Endless lazy) i j c t h d
  encloses-turns lazy least (Some most) i j c t h d =
      encloses-Times least (Further lazy A (most - least)) (within-Further l lazy A (most - least) wa) (encloses-Further lazy (most - least)) i j c t h d.1

module _ (w : World) where
  mutual
    unfolding derives in_order one_of

    -- the captures of a derivation lie within what it takes
    pub encloses : (p : Surface) → Encloses w.length (derives w p)
    encloses (Token c) = encloses-One w.length (fits_token w c)
    encloses (Label name) = encloses-Jump w.length (w.is_span name)
    encloses (Look ahead positive c) = encloses-Test w.length (looks w c ahead positive)
    encloses First = encloses-Test w.length (λ i. i == 0)
    encloses Last = encloses-Test w.length (λ i. i == w.length)
    encloses (Seq' v row) = encloses-in_order row
    encloses (Alt' v row) = encloses-one_of 0 row
    encloses (Repeat' v (more_of-Surface p end_of-Surface) turns) = encloses-turns w.length (derives w p) (within w p) (encloses p) turns.lazy turns.least turns.most
    encloses (Capture' name v (more_of-Surface p end_of-Surface)) = encloses-Named w.length name (derives w p) (within w p) (encloses p)

    encloses-in_order : {m : _} (row : Row_of-Surface m) → Encloses w.length (in_order w row)
    encloses-in_order end_of-Surface = encloses-Stays w.length
    encloses-in_order (more_of-Surface p rest) = encloses-Then w.length (derives w p) (in_order w rest) (within w p) (within-in_order w rest) (encloses p) (encloses-in_order rest)

    encloses-one_of : (k : ℕ) {m : _} (row : Row_of-Surface m) → Encloses w.length (one_of w k row)
    encloses-one_of k end_of-Surface = encloses-Never w.length
    encloses-one_of k (more_of-Surface p rest) = encloses-Or w.length _ _ (encloses-Choose w.length k _ (encloses p)) (encloses-one_of (suc k) rest)
