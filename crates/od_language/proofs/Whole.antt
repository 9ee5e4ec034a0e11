-- A whole text has exactly one answer, where its lexemes have one, end once, and no word goes to their very end.
use Rattle.std.proofs.Common.{◌≡◌, ℕ, ◌<◌, ◌≤◌, nat_lt, Bool, true, false, List, [], ◌∷◌, ◌++◌, length, Option, Some, None, refl, sym, ◌∙◌, ap, subst, ◌⊎◌, inl, inr, arith}
use Rattle.std.proofs.lemmas.Bool.{ltb-true, ltb-false}
use Rattle.od_language.specs.declared.limits.TheConstants.{PATTERN_SIZE}
use Rattle.od_language.specs.declared.pattern_fault.PatternKind.{PatternKind}
use Rattle.od_language.specs.declared.pattern_fault.PatternKind.TheVariants as kind
use Rattle.od_language.specs.Alphabet.{Alphabet, HasOneEnd}
use Rattle.od_language.specs.FirstFault.{Grammar, Rules, IsRead, IsFault, OneAnswer}
use Rattle.od_language.specs.Whole.{IsBefore, IsToTheEnd, IsOwnFault, within, behind, IsWhole, IsWholeFault, parser, lexer, IsSmall, IsFaultOrBig, first, big, OneOf}

-- what is left behind fronts of one length is one list
rest_by : {X : Type 0} → (f g r s : List X) → f ++ r ≡ g ++ s → length f ≡ length g → r ≡ s
rest_by [] [] r s e n = e
rest_by [] (y ∷ g) r s e n = absurd (omega (arith, n))
rest_by (x ∷ f) [] r s e n = absurd (omega (arith, n))
rest_by (x ∷ f) (y ∷ g) r s e n = let more : f ++ r ≡ g ++ s = cc in rest_by f g r s more (omega (arith, n))

first_of : {X : Type 0} → (x y : X) (l m : List X) → x ∷ l ≡ y ∷ m → x ≡ y
first_of x y l m e = cc

no_list : {X : Type 0} → (x : X) (l : List X) → [] ≡ x ∷ l → ⊥
no_list x l e = absurd (cc)

some_place : (p q : ℕ) (o : Option ℕ) → o ≡ Some p → o ≡ Some q → p ≡ q
some_place p q o e h = let same : Some p ≡ Some q = sym e ∙ h in cc

module _ {X K C : Type 0} (al : Alphabet X K) (Reads : Grammar K C) (Breaks : Rules K) (lexemes : List X) where
  abbrev Read : C → ℕ → Type 0
  Read = IsRead al Reads Breaks lexemes

  abbrev Own : ℕ → PatternKind → Type 0
  Own = IsOwnFault al Reads Breaks lexemes

  abbrev Ends : Type 0
  Ends = (c : C) × IsToTheEnd al Reads Breaks lexemes c

  abbrev Fails : Type 0
  Fails = (at : ℕ) × (k : PatternKind) × Own at k

  -- two readings leave the same
  rest_of : (b c : C) (m n : ℕ) (r : Read b m) (s : Read c n) → b ≡ c → m ≡ n → r.rest ≡ s.rest
  rest_of b c m n r s e h = rest_by r.front s.front r.rest s.rest (sym r.parts ∙ s.parts) (sym r.size ∙ h ∙ s.size)

  -- what is left of lexemes that end once ends once
  pub ends_once : (front rest : List X) → (rest ≡ [] → ⊥) → HasOneEnd al (front ++ rest) → HasOneEnd al rest
  ends_once [] rest n h = h
  ends_once (x ∷ []) [] n h = absurd (n refl)
  ends_once (x ∷ []) (y ∷ rest) n h = h.1
  ends_once (x ∷ y ∷ front) rest n h = ends_once (y ∷ front) rest n h.1

  module _ (one : OneAnswer al Reads Breaks lexemes) (once : HasOneEnd al lexemes)
      (left : (c : C) (n : ℕ) (r : Read c n) → r.rest ≡ [] → ⊥) where
    -- the end, or something before it
    split : (c : C) (n : ℕ) (r : Read c n) (rest : List X) → r.rest ≡ rest → HasOneEnd al rest → Ends ⊎ Fails
    split c n r [] e h = absurd h
    split c n r (x ∷ []) e h = inl (c, record { count = n; read = r; last = x; behind = e; ends = h })
    split c n r (x ∷ y ∷ more) e h = inr (al.place x, kind.Expected, behind c n r x (y ∷ more) e h.0)

    own_by : ((c : C) × (n : ℕ) × Read c n) ⊎ ((at : ℕ) × (k : PatternKind) × IsFault al Reads Breaks lexemes at k) → Ends ⊎ Fails
    own_by (inl (c, n, r)) = split c n r r.rest refl (ends_once r.front r.rest (left c n r) (subst (HasOneEnd al) r.parts once))
    own_by (inr (at, k, f)) = inr (at, k, within at k f)

    own : Ends ⊎ Fails
    own = own_by one.some

    pub own_apart : (c : C) (at : ℕ) (k : PatternKind) → IsToTheEnd al Reads Breaks lexemes c → Own at k → ⊥
    own_apart c at k v (within _ _ f) = one.apart c v.count at k v.read f
    own_apart c _ _ v (behind b n r x more e other) =
        let same = one.value c b v.count n v.read r in
        let rests : v.last ∷ [] ≡ x ∷ more = sym v.behind ∙ rest_of c b v.count n v.read r same.0 same.1 ∙ e in
        other (ap al.sort (sym (first_of v.last x [] more rests)) ∙ v.ends)

    own_value : (b c : C) → IsToTheEnd al Reads Breaks lexemes b → IsToTheEnd al Reads Breaks lexemes c → b ≡ c
    own_value b c v w = (one.value b c v.count w.count v.read w.read).0

    pub own_fault : (p q : ℕ) (j k : PatternKind) → Own p j → Own q k → (p ≡ q) × (j ≡ k)
    own_fault p q j k (within _ _ f) (within _ _ g) = one.fault p q j k f g
    own_fault p _ j _ (within _ _ f) (behind c n r x more e other) = absurd (one.apart c n p j r f)
    own_fault _ q _ k (behind c n r x more e other) (within _ _ g) = absurd (one.apart c n q k r g)
    own_fault _ _ _ _ (behind b m r x more e other) (behind c n s y rest h on) =
        let same = one.value b c m n r s in
        let rests : x ∷ more ≡ y ∷ rest = sym e ∙ rest_of b c m n r s same.0 same.1 ∙ h in
        (ap al.place (first_of x y more rest rests), refl)

    module _ (stuck : Option ℕ) where
      abbrev Value : C → Type 0
      Value = IsWhole al Reads Breaks lexemes stuck

      abbrev Fault : ℕ → PatternKind → Type 0
      Fault = IsWholeFault al Reads Breaks lexemes stuck

      pub before_none : (at : ℕ) → stuck ≡ None → IsBefore at stuck
      before_none at e = subst (IsBefore at) (sym e) tt

      pub before_some : (at s : ℕ) → stuck ≡ Some s → at < s → IsBefore at stuck
      before_some at s e h = subst (IsBefore at) (sym e) h

      not_before : (at s : ℕ) → stuck ≡ Some s → IsBefore at stuck → at < s
      not_before at s e h = subst (IsBefore at) e h

      by_place : (at s : ℕ) (k : PatternKind) → Own at k → stuck ≡ Some s → (q : Bool) → nat_lt at s ≡ q → (p : ℕ) × (j : PatternKind) × Fault p j
      by_place at s k f e true h = (at, k, parser at k f (before_some at s e (ltb-true at s h)))
      by_place at s k f e false h =
          let late : s ≤ at = ltb-false at s h in
          (s, kind.Lex, lexer s e (λ b j g. subst (λ (z : ℕ). s ≤ z) (own_fault at b k j f g).0 late))

      some_by : (o : Option ℕ) → stuck ≡ o → Ends ⊎ Fails →
          ((c : C) × Value c) ⊎ ((at : ℕ) × (k : PatternKind) × Fault at k)
      some_by None e (inl v) = inl (v.0, record { read = v.1; lexed = e })
      some_by None e (inr f) = inr (f.0, f.1, parser f.0 f.1 f.2 (before_none f.0 e))
      some_by (Some s) e (inl v) = inr (s, kind.Lex, lexer s e (λ b j g. absurd (own_apart v.0 b j v.1 g)))
      some_by (Some s) e (inr f) = inr (by_place f.0 s f.1 f.2 e (nat_lt f.0 s) refl)

      no_place : (at : ℕ) → stuck ≡ None → stuck ≡ Some at → ⊥
      no_place at n e = absurd (cc)

      whole_apart : (c : C) (at : ℕ) (k : PatternKind) → Value c → Fault at k → ⊥
      whole_apart c at k v (parser _ _ f b) = own_apart c at k v.read f
      whole_apart c _ _ v (lexer at e n) = no_place at v.lexed e

      whole_fault : (p q : ℕ) (j k : PatternKind) → Fault p j → Fault q k → (p ≡ q) × (j ≡ k)
      whole_fault p q j k (parser _ _ f b) (parser _ _ g d) = own_fault p q j k f g
      whole_fault p _ j _ (parser _ _ f b) (lexer at e n) = let late = n p j f in let early = not_before p at e b in absurd (omega (arith, late, early))
      whole_fault _ q _ k (lexer at e n) (parser _ _ g b) = let late = n q k g in let early = not_before q at e b in absurd (omega (arith, late, early))
      whole_fault _ _ _ _ (lexer p e n) (lexer q h m) = (some_place p q stuck e h, refl)

      pub one_whole : OneOf Value Fault
      one_whole = record {
        some = some_by stuck refl own;
        apart = whole_apart;
        value = λ b c v w. own_value b c v.read w.read;
        fault = whole_fault;
      }

module _ {C : Type 0} (Value : C → Type 0) (Fault : ℕ → PatternKind → Type 0) (size : C → ℕ) (one : OneOf Value Fault) where
  small_by : (c : C) → Value c → (q : Bool) → nat_lt PATTERN_SIZE (size c) ≡ q →
      ((c : C) × IsSmall Value size c) ⊎ ((at : ℕ) × (k : PatternKind) × IsFaultOrBig Value Fault size at k)
  small_by c v true h = inr (0, kind.TooBig, big c v (ltb-true PATTERN_SIZE (size c) h))
  small_by c v false h = inl (c, record { is = v; small = ltb-false PATTERN_SIZE (size c) h })

  some_sized : ((c : C) × Value c) ⊎ ((at : ℕ) × (k : PatternKind) × Fault at k) →
      ((c : C) × IsSmall Value size c) ⊎ ((at : ℕ) × (k : PatternKind) × IsFaultOrBig Value Fault size at k)
  some_sized (inl v) = small_by v.0 v.1 (nat_lt PATTERN_SIZE (size v.0)) refl
  some_sized (inr f) = inr (f.0, f.1, first f.0 f.1 f.2)

  too_big : (b c : C) → Value b → Value c → size b ≤ PATTERN_SIZE → PATTERN_SIZE < size c → ⊥
  too_big b c v w s t = let e : size b ≡ size c = ap size (one.value b c v w) in absurd (omega (arith, e, s, t))

  sized_apart : (c : C) (at : ℕ) (k : PatternKind) → IsSmall Value size c → IsFaultOrBig Value Fault size at k → ⊥
  sized_apart c at k v (first _ _ f) = one.apart c at k v.is f
  sized_apart c _ _ v (big b w t) = too_big c b v.is w v.small t

  sized_fault : (p q : ℕ) (j k : PatternKind) → IsFaultOrBig Value Fault size p j → IsFaultOrBig Value Fault size q k → (p ≡ q) × (j ≡ k)
  sized_fault p q j k (first _ _ f) (first _ _ g) = one.fault p q j k f g
  sized_fault p _ j _ (first _ _ f) (big c v t) = absurd (one.apart c p j v f)
  sized_fault _ q _ k (big c v t) (first _ _ g) = absurd (one.apart c q k v g)
  sized_fault _ _ _ _ (big b v s) (big c w t) = (refl, refl)

  pub one_sized : OneOf (IsSmall Value size) (IsFaultOrBig Value Fault size)
  one_sized = record {
    some = some_sized one.some;
    apart = sized_apart;
    value = λ b c v w. one.value b c v.is w.is;
    fault = sized_fault;
  }
