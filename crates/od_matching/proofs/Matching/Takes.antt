-- A pattern that is not nullable takes a token.
use Rattle.std.proofs.Common.{◌≡◌, ℕ, zero, suc, ◌+◌, ◌-◌, ◌<◌, ◌≤◌, Bool, true, false, List, refl, inl, inr, arith}
use Rattle.std.proofs.lemmas.Bool.{cases_Bool}
use Rattle.std.specs.Prelude.{◌&&◌, ◌||◌, ◌==◌, Option, Some, None}
use Rattle.od_matching.specs.Matching.Choice.{Relation, OneToken, Jump, Choose, Either, Named, Times, Further, Endless}
use Rattle.od_matching.specs.Matching.Derives.{World, fits_token, turns_from, derives, in_order, one_of}
use Rattle.od_matching.proofs.Matching.Derived.{within, within-in_order}
use Rattle.od_matching.proofs.Matching.Preferred.{Within, within-Times, within-Further, within-Endless}
use Rattle.od_extraction.specs.declared.mention.Part.{Part}
use Rattle.od_pattern.specs.Nullable.{is_nullable, are_nullable, is_some_nullable}
use Rattle.od_pattern.specs.declared.pattern.Surface.{Surface, Row_of-Surface, end_of-Surface, more_of-Surface}
use Rattle.od_pattern.specs.declared.pattern.Surface.TheVariants.{Token, Label, Look, First, Last, Seq', Alt', Repeat', Capture'}

-- each way of A takes a token
abbrev Takes : ℕ → Relation → Type 0
Takes l A = (i j : ℕ) (c : List Part) (t : List ℕ) → i ≤ l → A i j c t → i < j

-- neither of two tests
neither : (a b : Bool) → (a || b) ≡ false → (a ≡ false) × (b ≡ false)
neither true b e = absurd (let q : true ≡ false = e in cc)
neither false b e = (refl, e)

true-false : {A : Type 0} → true ≡ false → A
true-false e = absurd (cc)

-- the second of two tests, where the first passes
second : (a b : Bool) → a ≡ true → (a && b) ≡ false → b ≡ false
second true b e h = h
second false b e h = true-false (let q : true ≡ false = cc in q)

takes-OneToken : (l : ℕ) (test : ℕ → Bool) → Takes l (OneToken test)
takes-OneToken l test i j c t h d = let q : j ≡ i + 1 = d.ends in omega arith

takes-Jump : (l : ℕ) (is_span : ℕ → ℕ → Bool) → Takes l (Jump l is_span)
takes-Jump l is_span i j c t h d = d.forward

takes-Choose : (l n : ℕ) (A : Relation) → Takes l A → Takes l (Choose n A)
takes-Choose l n A ta i j c t h d = ta i j c d.later h d.goes

takes-Either : (l : ℕ) (A B : Relation) → Takes l A → Takes l B → Takes l (Either A B)
takes-Either l A B ta tb i j c t h (inl d) = ta i j c t h d
takes-Either l A B ta tb i j c t h (inr d) = tb i j c t h d

takes-Named : (l : ℕ) (name : List ℕ) (A : Relation) → Takes l A → Takes l (Named name A)
takes-Named l name A ta i j c t h d = ta i j d.inner t h d.goes

-- at least one turn, which takes a token
takes-Times : (l : ℕ) (A : Relation) (n : ℕ) (B : Relation) → (n == 0) ≡ false → Within l A → Within l B → Takes l A → Takes l (Times A n B)
takes-Times l A zero B e wa wb ta i j c t h d = true-false e
takes-Times l A (suc n) B e wa wb ta i j c t h d =
    let on : i < d.mid = ta i d.mid d.c1 d.t1 h d.left in
    let inside = wa i d.mid d.c1 d.t1 h d.left in
    let later = within-Times l A n B wa wb d.mid j d.c2 d.t2 inside.1 d.right in
    let le : d.mid ≤ j = later.0 in
    omega arith

takes-turns : (l : ℕ) (lazy : Bool) (A : Relation) (least : ℕ) (most : Option ℕ) → (least == 0) ≡ false → Within l A → Takes l A → Takes l (turns_from lazy A least most)
takes-turns l lazy A least None e wa ta i j c t h d = takes-Times l A least (Endless lazy A) e wa (within-Endless l lazy A wa) ta i j c t h d
takes-turns l lazy A least (Some most) e wa ta i j c t h d = takes-Times l A least (Further lazy A (most - least)) e wa (within-Further l lazy A (most - least) wa) ta i j c t h d.1

module _ (w : World) where
  mutual
    unfolding derives in_order one_of

    pub takes : (p : Surface) → is_nullable p ≡ false → Takes w.length (derives w p)
    takes (Token c) e = takes-OneToken w.length (fits_token w c)
    takes (Label name) e = takes-Jump w.length (w.is_span name)
    takes (Look ahead positive c) e = true-false e
    takes First e = true-false e
    takes Last e = true-false e
    takes (Seq' v row) e = takes-in_order row e
    takes (Alt' v row) e = takes-one_of 0 row e
    takes (Repeat' v (more_of-Surface p end_of-Surface) turns) e =
        let both = neither (turns.least == 0) (is_nullable p) e in
        takes-turns w.length turns.lazy (derives w p) turns.least turns.most both.0 (within w p) (takes p both.1)
    takes (Capture' name v (more_of-Surface p end_of-Surface)) e = takes-Named w.length name (derives w p) (takes p e)

    takes-in_order : {m : _} (row : Row_of-Surface m) → are_nullable row ≡ false → Takes w.length (in_order w row)
    takes-in_order end_of-Surface e = true-false e
    takes-in_order (more_of-Surface p rest) e = λ i j cs t h d.
        let left = within w p i d.mid d.c1 d.t1 h d.left in
        let from : i ≤ d.mid = left.0 in
        let on : d.mid ≤ j = (within-in_order w rest d.mid j d.c2 d.t2 left.1 d.right).0 in
        elim (cases_Bool (is_nullable p)) [
          | inl yes' ↦ let lt : d.mid < j = takes-in_order rest (second (is_nullable p) (are_nullable rest) yes' e) d.mid j d.c2 d.t2 left.1 d.right in omega arith
          | inr no' ↦ let lt : i < d.mid = takes p no' i d.mid d.c1 d.t1 h d.left in omega arith
        ]

    takes-one_of : (k : ℕ) {m : _} (row : Row_of-Surface m) → is_some_nullable row ≡ false → Takes w.length (one_of w k row)
    takes-one_of k end_of-Surface e = λ i j cs t h d. absurd d
    takes-one_of k (more_of-Surface p rest) e =
        let both = neither (is_nullable p) (is_some_nullable rest) e in
        takes-Either w.length (Choose k (derives w p)) (one_of w (suc k) rest) (takes-Choose w.length k (derives w p) (takes p both.0)) (takes-one_of (suc k) rest both.1)

pub takes_token : (w : World) (p : Surface) (i j : ℕ) (c : List Part) (t : List ℕ) → is_nullable p ≡ false → i ≤ w.length → derives w p i j c t → i < j
takes_token w p i j c t e h d = takes w p e i j c t h d
