-- What a machine makes of a whole text is its value or its first fault.
use Rattle.std.proofs.Common.{◌≡◌, ℕ, ◌≤◌, nat_lt, if◌then◌else◌, Bool, true, false, List, [], ◌∷◌, ◌++◌, length, length-append, Option, Some, None, Result, Ok, Err, refl, sym, ◌∙◌, ap, subst, append-nil}
use Rattle.std.proofs.lemmas.Bool.{ltb-true, ltb-false}
use Rattle.od_language.specs.declared.limits.TheConstants.{PATTERN_SIZE}
use Rattle.od_language.specs.declared.pattern_fault.PatternKind.{PatternKind}
use Rattle.od_language.specs.declared.pattern_fault.PatternKind.TheVariants as kind
use Rattle.od_language.specs.Alphabet.{Alphabet, kinds, IsEnded, HasOneEnd}
use Rattle.od_language.specs.FirstFault.{Grammar, Rules, IsRead, OneAnswer}
use Rattle.od_language.specs.Machine.{◌>>=◌, Step, Rule, steps, Outcome, run, IsReader}
use Rattle.od_language.specs.Whole.{IsToTheEnd, IsOwnFault, within, behind, IsWhole, IsWholeFault, parser, lexer, IsSmall, IsFaultOrBig, first, big, OneOf}
use Rattle.od_language.specs.WholeRuns.{Verdict, to_the_end, before_stuck, sized, IsVerdict}
use Rattle.od_language.proofs.Machine.{front_taken, found, is_read, is_fault, one_answer}
use Rattle.od_language.proofs.Whole.{ends_once, own_apart, own_fault, before_none, before_some, one_whole, one_sized}

-- what is said of a verdict
abbrev pub Tells : {C : Type 0} → (C → Type 0) → (ℕ → PatternKind → Type 0) → Verdict C → Type 0
Tells Value Fault (Ok c) = Value c
Tells Value Fault (Err e) = Fault e.0 e.1

module _ {C : Type 0} (Value : C → Type 0) (Fault : ℕ → PatternKind → Type 0) (one : OneOf Value Fault) where
  abbrev good : C → Verdict C
  good c = Ok c

  abbrev bad : ℕ → PatternKind → Verdict C
  bad at k = Err (at, k)

  value_of : (v : Verdict C) → Tells Value Fault v → (c : C) → Value c → v ≡ Ok c
  value_of (Ok b) t c w = ap (λ z. Ok z) (one.value b c t w)
  value_of (Err e) t c w = absurd (one.apart c e.0 e.1 w t)

  fault_of : (v : Verdict C) → Tells Value Fault v → (at : ℕ) (k : PatternKind) → Fault at k → v ≡ Err (at, k)
  fault_of (Ok b) t at k w = absurd (one.apart b at k t w)
  fault_of (Err (p, j)) t at k w = let s = one.fault p at j k t w in ap (λ z. Err (z, j)) s.0 ∙ ap (λ z. Err (at, z)) s.1

  -- what tells a value or a fault is the verdict
  pub is_verdict : (v : Verdict C) → Tells Value Fault v → IsVerdict Value Fault v
  is_verdict v t = record {
    value = λ c. (value_of v t c, λ e. subst (Tells Value Fault) e t);
    fault = λ at k. (fault_of v t at k, λ e. subst (Tells Value Fault) e t);
  }

module _ {C : Type 0} (Value : C → Type 0) (Fault : ℕ → PatternKind → Type 0) (size : C → ℕ) where
  sized_if : (c : C) → Value c → (q : Bool) → nat_lt PATTERN_SIZE (size c) ≡ q →
      Tells (IsSmall Value size) (IsFaultOrBig Value Fault size) (if q then Err (0, kind.TooBig) else Ok c)
  sized_if c v true h = big c v (ltb-true PATTERN_SIZE (size c) h)
  sized_if c v false h = record { is = v; small = ltb-false PATTERN_SIZE (size c) h }

  pub sized_tells : (v : Verdict C) → Tells Value Fault v → Tells (IsSmall Value size) (IsFaultOrBig Value Fault size) (sized size v)
  sized_tells (Ok c) t = sized_if c t (nat_lt PATTERN_SIZE (size c)) refl
  sized_tells (Err (at, k)) t = first at k t

module _ {X K S C : Type 0} (al : Alphabet X K) (Reads : Grammar K C) (Breaks : Rules K) (start : S) (step : Step S K) (rule : Rule K)
    (ended : S → Option C) (reader : IsReader al Reads Breaks start step rule ended) where
  last_by : (s t : S) (x : X) (q : Result S PatternKind) → al.sort x ≡ al.end → step s (al.sort x) ≡ q → (q >>= λ u. Ok u) ≡ Ok t → ⊥
  last_by s t x (Ok u) h i e = reader.no_end s u (ap (step s) (sym h) ∙ i)
  last_by s t x (Err k) h i e = absurd (cc)

  -- no machine takes lexemes to their end
  no_end_taken : (l : List X) (s t : S) → HasOneEnd al l → steps step s (kinds al l) ≡ Ok t → ⊥
  no_end_taken [] s t h e = h
  no_end_taken (x ∷ []) s t h e = last_by s t x (step s (al.sort x)) h refl e
  no_end_taken (x ∷ y ∷ l) s t h e = let f = front_taken step s (al.sort x ∷ []) (kinds al (y ∷ l)) t e in no_end_taken (y ∷ l) f.0 t h.1 f.2

  module _ (lexemes : List X) (once : HasOneEnd al lexemes) where
    pub left : (c : C) (n : ℕ) (r : IsRead al Reads Breaks lexemes c n) → r.rest ≡ [] → ⊥
    left c n r e =
        let w = reader.word (kinds al r.front) c r.reads in
        let whole : lexemes ≡ r.front = r.parts ∙ ap (λ z. r.front ++ z) e ∙ append-nil r.front in
        no_end_taken r.front start w.0 (subst (HasOneEnd al) whole once) w.1

    abbrev go : Outcome X C
    go = run al step rule ended [] start lexemes

    abbrev Read : C → ℕ → Type 0
    Read = IsRead al Reads Breaks lexemes

    abbrev All : C → Type 0
    All = IsToTheEnd al Reads Breaks lexemes

    abbrev Own : ℕ → PatternKind → Type 0
    Own = IsOwnFault al Reads Breaks lexemes

    -- a reading that leaves the rest of the run
    some_read : (c : C) (rest : List X) → go ≡ Ok (c, rest) → (n : ℕ) × (r : Read c n) × (r.rest ≡ rest)
    unfolding is_read
    some_read c rest e =
        let f = found al Reads Breaks start step rule ended reader [] start lexemes c rest refl e in
        let n = length f.taken.front in
        (n, is_read al Reads Breaks start step rule ended reader lexemes c rest n e (ap length f.taken.parts ∙ length-append f.taken.front rest), refl)

    read_tells : (c : C) (n : ℕ) (r : Read c n) (rest : List X) → r.rest ≡ rest → HasOneEnd al rest → Tells All Own (to_the_end al (Ok (c, rest)))
    read_tells c n r [] e h = absurd h
    read_tells c n r (x ∷ []) e h = record { count = n; read = r; last = x; behind = e; ends = h }
    read_tells c n r (x ∷ y ∷ l) e h = behind c n r x (y ∷ l) e h.0

    is_ended : (l : List X) → HasOneEnd al l → IsEnded al l
    is_ended [] h = h
    is_ended (x ∷ []) h = h
    is_ended (x ∷ y ∷ l) h = is_ended (y ∷ l) h.1

    own_by : (o : Outcome X C) → go ≡ o → Tells All Own (to_the_end al o)
    own_by (Ok (c, rest)) e =
        let r = some_read c rest e in
        read_tells c r.0 r.1 rest r.2 (subst (HasOneEnd al) r.2 (ends_once al Reads Breaks lexemes r.1.front r.1.rest (left c r.0 r.1) (subst (HasOneEnd al) r.1.parts once)))
    own_by (Err (at, k)) e = within at k (is_fault al Reads Breaks start step rule ended reader lexemes at k (is_ended lexemes once) e)

    abbrev own : Verdict C
    own = to_the_end al go

    own_tells : Tells All Own own
    own_tells = own_by go refl

    answer : OneAnswer al Reads Breaks lexemes
    answer = one_answer al Reads Breaks start step rule ended reader lexemes (is_ended lexemes once)

    apart : (c : C) (at : ℕ) (k : PatternKind) → All c → Own at k → ⊥
    apart = own_apart al Reads Breaks lexemes answer once left

    one_own : (p q : ℕ) (j k : PatternKind) → Own p j → Own q k → (p ≡ q) × (j ≡ k)
    one_own = own_fault al Reads Breaks lexemes answer once left

    module _ (stuck : Option ℕ) where
      abbrev Value : C → Type 0
      Value = IsWhole al Reads Breaks lexemes stuck

      abbrev Fault : ℕ → PatternKind → Type 0
      Fault = IsWholeFault al Reads Breaks lexemes stuck

      place_tells : (at s : ℕ) (k : PatternKind) → Own at k → stuck ≡ Some s → (q : Bool) → nat_lt at s ≡ q →
          Tells Value Fault (if q then Err (at, k) else Err (s, kind.Lex))
      place_tells at s k f e true h =
          parser at k f (before_some al Reads Breaks lexemes answer once left stuck at s e (ltb-true at s h))
      place_tells at s k f e false h =
          let late : s ≤ at = ltb-false at s h in
          lexer s e (λ b j g. subst (λ (z : ℕ). s ≤ z) (one_own at b k j f g).0 late)

      stuck_tells : (o : Option ℕ) → stuck ≡ o → (v : Verdict C) → Tells All Own v → Tells Value Fault (before_stuck o v)
      stuck_tells None e (Ok c) t = record { read = t; lexed = e }
      stuck_tells None e (Err (at, k)) t = parser at k t (before_none al Reads Breaks lexemes answer once left stuck at e)
      stuck_tells (Some s) e (Ok c) t = lexer s e (λ b j g. absurd (apart c b j t g))
      stuck_tells (Some s) e (Err (at, k)) t = place_tells at s k t e (nat_lt at s) refl

      -- the text's value or first fault
      abbrev pub verdict : Verdict C
      verdict = before_stuck stuck own

      tells : Tells Value Fault verdict
      tells = stuck_tells stuck refl own own_tells

      one : OneOf Value Fault
      one = one_whole al Reads Breaks lexemes answer once left stuck

      pub whole_verdict : IsVerdict Value Fault verdict
      whole_verdict = is_verdict Value Fault one verdict tells

      module _ (size : C → ℕ) where
        pub sized_verdict : IsVerdict (IsSmall Value size) (IsFaultOrBig Value Fault size) (sized size verdict)
        sized_verdict = is_verdict (IsSmall Value size) (IsFaultOrBig Value Fault size) (one_sized Value Fault size one) (sized size verdict)
            (sized_tells Value Fault size verdict tells)
