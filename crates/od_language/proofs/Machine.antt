-- What a machine that reads a grammar answers is the value, or the first fault; and there is exactly one answer.
use Rattle.std.proofs.Common.{◌≡◌, ℕ, ◌+◌, ◌-◌, ◌≤◌, List, [], ◌∷◌, ◌++◌, length, Option, Some, None, Result, Ok, Err, refl, sym, ◌∙◌, ap, subst, ◌⊎◌, inl, inr, arith, length-append, append_assoc, append-nil, IfOk}
use Rattle.od_language.specs.declared.pattern_fault.PatternKind.{PatternKind}
use Rattle.od_language.specs.declared.pattern_fault.PatternKind.TheVariants as kind
use Rattle.od_language.specs.declared.pattern_fault.PatternFault.{PatternFault}
use Rattle.od_language.specs.declared.pattern_fault.PatternFault.TheVariants as fault
use Rattle.od_language.specs.Alphabet.{Alphabet, kinds, IsEnded}
use Rattle.od_language.specs.Answers.{IfBad, Gives, Refuses}
use Rattle.od_language.specs.FirstFault.{Grammar, Rules, Begins, IsNoWord, IsFieldPlace, IsRead, Wrong, unknown, unexpected, rule as breaks_rule, IsFault, OneAnswer}
use Rattle.od_language.specs.Machine.{◌>>=◌, Step, Rule, steps, Outcome, stopped, checked, either_way, run, Refusal, IsReader}

pub bind_assoc : {A B C E : Type 0} → (q : Result A E) (f : A → Result B E) (g : B → Result C E) → (q >>= f) >>= g ≡ q >>= λ x. f x >>= g
bind_assoc (Ok x) f g = refl
bind_assoc (Err e) f g = refl

pub bind_same : {A B E : Type 0} → (q : Result A E) (f g : A → Result B E) → ((x : A) → f x ≡ g x) → (q >>= f) ≡ (q >>= g)
bind_same (Ok x) f g h = h x
bind_same (Err e) f g h = refl

-- the tail of a list behind its first
snoc_cons : {K : Type 0} → (before : List K) (x : K) (more : List K) → (before ++ x ∷ []) ++ more ≡ before ++ x ∷ more
snoc_cons before x more = append_assoc before (x ∷ []) more

head_kind : {K : Type 0} → (x y : K) (a b : List K) → x ∷ a ≡ y ∷ b → x ≡ y
head_kind x y a b e = cc

tail_kind : {K : Type 0} → (x y : K) (a b : List K) → x ∷ a ≡ y ∷ b → a ≡ b
tail_kind x y a b e = cc

module _ {S K : Type 0} (step : Step S K) where
  pub steps_append : (s : S) (a b : List K) → steps step s (a ++ b) ≡ steps step s a >>= λ t. steps step t b
  steps_append s [] b = refl
  steps_append s (x ∷ a) b = bind_same (step s x) _ _ (λ t. steps_append t a b) ∙ sym (bind_assoc (step s x) (λ t. steps step t a) (λ t. steps step t b))

  -- one more lexeme
  pub steps_one : (f : List K) (start s : S) (x : K) (q : Result S PatternKind) → steps step start f ≡ Ok s → step s x ≡ q → steps step start (f ++ x ∷ []) ≡ q >>= λ t. Ok t
  steps_one f start s x q h e = steps_append start f (x ∷ []) ∙ ap (λ z. z >>= λ u. steps step u (x ∷ [])) h ∙ ap (λ z. z >>= λ u. steps step u []) e

  front_by : (start : S) (f r : List K) (t : S) (q : Result S PatternKind) → steps step start f ≡ q → (q >>= λ u. steps step u r) ≡ Ok t → (s : S) × (steps step start f ≡ Ok s) × (steps step s r ≡ Ok t)
  front_by start f r t (Ok s) e h = (s, e, h)
  front_by start f r t (Err k) e h = absurd (cc)

  -- where the whole is taken, so is each front
  pub front_taken : (start : S) (f r : List K) (t : S) → steps step start (f ++ r) ≡ Ok t → (s : S) × (steps step start f ≡ Ok s) × (steps step s r ≡ Ok t)
  front_taken start f r t h = front_by start f r t (steps step start f) refl (sym (steps_append start f r) ∙ h)

-- the parts of an outcome, with something in place of those that it does not have
abbrev pub value_or : {X C : Type 0} → C × List X → Outcome X C → C × List X
value_or d (Ok x) = x
value_or d (Err e) = d

abbrev pub fault_or : {X C : Type 0} → ℕ × PatternKind → Outcome X C → ℕ × PatternKind
fault_or d (Ok x) = d
fault_or d (Err e) = e

module _ {X C : Type 0} where
  abbrev good : C → List X → Outcome X C
  good c rest = Ok (c, rest)

  abbrev bad : ℕ → PatternKind → Outcome X C
  bad at k = Err (at, k)

  pub same_value : (b c : C) (l m : List X) → good b l ≡ good c m → b ≡ c
  same_value b c l m h = ap (λ (z : Outcome X C). (value_or (b, l) z).0) h

  pub same_rest : (b c : C) (l m : List X) → good b l ≡ good c m → l ≡ m
  same_rest b c l m h = ap (λ (z : Outcome X C). (value_or (b, l) z).1) h

  pub same_place : (a b : ℕ) (j k : PatternKind) → bad a j ≡ bad b k → a ≡ b
  same_place a b j k h = ap (λ (z : Outcome X C). (fault_or (a, j) z).0) h

  pub same_kind : (a b : ℕ) (j k : PatternKind) → bad a j ≡ bad b k → j ≡ k
  same_kind a b j k h = ap (λ (z : Outcome X C). (fault_or (a, j) z).1) h

module _ {X K S C : Type 0} (al : Alphabet X K) (Reads : Grammar K C) (Breaks : Rules K) (start : S) (step : Step S K) (rule : Rule K)
    (ended : S → Option C) (reader : IsReader al Reads Breaks start step rule ended) where
  -- a front that begins a word is taken
  pub takes : (f : List K) → Begins Reads f → (s : S) × (steps step start f ≡ Ok s)
  takes f (rest, c, u) = let w = reader.word (f ++ rest) c u in let t = front_taken step start f rest w.0 w.1 in (t.0, t.1)

  -- a front with a lexeme that the machine refuses begins none
  pub begins_none : (f : List K) (s : S) (x : K) (k : PatternKind) → steps step start f ≡ Ok s → step s x ≡ Err k → Begins Reads (f ++ x ∷ []) → ⊥
  begins_none f s x k h e b =
      let t = takes (f ++ x ∷ []) b in
      let one : steps step start (f ++ x ∷ []) ≡ Err k = steps_one step f start s x (Err k) h e in
      let is : steps step start (f ++ x ∷ []) ≡ Ok t.0 = t.1 in
      absurd (cc)

  -- the same of more lexemes than one
  pub begins_no_more : (f : List K) (s : S) (g : List K) (k : PatternKind) → steps step start f ≡ Ok s → steps step s g ≡ Err k → Begins Reads (f ++ g) → ⊥
  begins_no_more f s g k h e b =
      let t = takes (f ++ g) b in
      let all : steps step start (f ++ g) ≡ Err k = steps_append step start f g ∙ ap (λ z. z >>= λ u. steps step u g) h ∙ e in
      let is : steps step start (f ++ g) ≡ Ok t.0 = t.1 in
      absurd (cc)

  begins_more : (f : List K) (s t : S) (g : List K) → steps step start f ≡ Ok s → steps step s g ≡ Ok t → Begins Reads (f ++ g)
  begins_more f s t g h e = reader.begins (f ++ g) t (steps_append step start f g ∙ ap (λ z. z >>= λ u. steps step u g) h ∙ e)

  -- some field's name and its `=`
  abbrev field_of : List ℕ → List K
  field_of other = al.word other ∷ al.equal ∷ []

  -- the rules are kept by a front, behind other lexemes
  abbrev KeepsBehind : List K → List K → Type 0
  KeepsBehind before front = (b : List K) (x : K) (a : List K) (k : PatternKind) → front ≡ b ++ x ∷ a → Breaks (before ++ b) x k → ⊥

  keeps_nothing : (before : List K) → KeepsBehind before []
  keeps_nothing before [] x a k e h = absurd (cc)
  keeps_nothing before (y ∷ b) x a k e h = absurd (cc)

  keeps_one : (before : List K) (s : S) (x : K) (front : List K) → steps step start before ≡ Ok s → rule before x ≡ None → KeepsBehind (before ++ x ∷ []) front → KeepsBehind before (x ∷ front)
  keeps_one before s x front h r keep [] y a k e u =
      let is : rule before y ≡ Some k = reader.breaks before s y k h (subst (λ (z : List K). Breaks z y k) (append-nil before) u) in
      let same : rule before x ≡ rule before y = ap (rule before) (head_kind x y front a e) in
      absurd (cc)
  keeps_one before s x front h r keep (z ∷ b) y a k e u =
      keep b y a k (tail_kind x z front (b ++ y ∷ a) e)
      (subst (λ (w : List K). Breaks w y k) (ap (λ w. before ++ w ∷ b) (sym (head_kind x z front (b ++ y ∷ a) e)) ∙ sym (snoc_cons before x b)) u)

  -- what the machine takes, and where it stands then
  pub record Taken (before : List K) (l : List X) (rest : List X) : Type 0 where
    pub front : List X
    pub last : S
    pub parts : l ≡ front ++ rest
    pub goes : steps step start (before ++ kinds al front) ≡ Ok last
    pub keeps : KeepsBehind before (kinds al front)

  taken_more : (before : List K) (s : S) (x : X) (l rest : List X) → steps step start before ≡ Ok s → rule before (al.sort x) ≡ None →
      Taken (before ++ (al.sort x) ∷ []) l rest → Taken before (x ∷ l) rest
  taken_more before s x l rest h r t = record {
    front = x ∷ t.front;
    last = t.last;
    parts = ap (λ z. x ∷ z) t.parts;
    goes = ap (steps step start) (sym (snoc_cons before (al.sort x) (kinds al t.front))) ∙ t.goes;
    keeps = keeps_one before s (al.sort x) (kinds al t.front) h r t.keeps;
  }

  taken_none : (before : List K) (s : S) (l : List X) → steps step start before ≡ Ok s → Taken before l l
  taken_none before s l h = record { front = []; last = s; parts = refl; goes = ap (steps step start) (append-nil before) ∙ h; keeps = keeps_nothing before }

  -- the machine takes a front, and the value stands there
  pub record Found (before : List K) (l : List X) (c : C) (rest : List X) : Type 0 where
    pub taken : Taken before l rest
    pub value : ended taken.last ≡ Some c
    pub stops : (x : X) (more : List X) → rest ≡ x ∷ more → (k : PatternKind) × (step taken.last (al.sort x) ≡ Err k)

  abbrev go : List K → S → List X → Outcome X C
  go = run al step rule ended

  found_stop : (before : List K) (s : S) (l : List X) (c : C) (rest : List X) (at : ℕ) (k : PatternKind) → steps step start before ≡ Ok s →
      ((x : X) (more : List X) → l ≡ x ∷ more → (j : PatternKind) × (step s (al.sort x) ≡ Err j)) →
      (q : Option C) → ended s ≡ q → stopped q l at k ≡ Ok (c, rest) → Found before l c rest
  unfolding taken_none
  found_stop before s l c rest at k h f None e o = absurd (cc)
  found_stop before s l c rest at k h f (Some b) e o =
      let same : b ≡ c = same_value b c l rest o in
      let P : List X → Type 0 = λ z. Found before l c z in
      subst P (same_rest b c l rest o) (record { taken = taken_none before s l h; value = e ∙ ap (λ z. Some z) same; stops = f })

  found_more : (before : List K) (s : S) (x : X) (l : List X) (c : C) (rest : List X) → steps step start before ≡ Ok s → rule before (al.sort x) ≡ None →
      Found (before ++ (al.sort x) ∷ []) l c rest → Found before (x ∷ l) c rest
  unfolding taken_more
  found_more before s x l c rest h r f = record { taken = taken_more before s x l rest h r f.taken; value = f.value; stops = f.stops }

  found_checked : (before : List K) (s : S) (x : X) (l : List X) (c : C) (rest : List X) (o : Outcome X C) → steps step start before ≡ Ok s →
      (o ≡ Ok (c, rest) → Found (before ++ (al.sort x) ∷ []) l c rest) → (q : Option PatternKind) → rule before (al.sort x) ≡ q → checked q (al.place x) o ≡ Ok (c, rest) → Found before (x ∷ l) c rest
  found_checked before s x l c rest o h f None r e = found_more before s x l c rest h r (f e)
  found_checked before s x l c rest o h f (Some k) r e = absurd (cc)

  no_more : (s : S) (x y : X) (l m : List X) (k : PatternKind) → step s (al.sort x) ≡ Err k → x ∷ l ≡ y ∷ m → (j : PatternKind) × (step s (al.sort y) ≡ Err j)
  no_more s x y l m k e h = (k, ap (λ (z : X). step s (al.sort z)) (sym (head_kind x y l m h)) ∙ e)

  found_step : (before : List K) (s : S) (x : X) (l : List X) (c : C) (rest : List X) → steps step start before ≡ Ok s →
      ((t : S) → steps step start (before ++ (al.sort x) ∷ []) ≡ Ok t → go (before ++ (al.sort x) ∷ []) t l ≡ Ok (c, rest) → Found (before ++ (al.sort x) ∷ []) l c rest) →
      (q : Result S PatternKind) → step s (al.sort x) ≡ q →
      either_way q (λ t. checked (rule before (al.sort x)) (al.place x) (go (before ++ (al.sort x) ∷ []) t l)) (λ k. stopped (ended s) (x ∷ l) (al.place x) k) ≡ Ok (c, rest) → Found before (x ∷ l) c rest
  found_step before s x l c rest h f (Ok t) e o =
      found_checked before s x l c rest (go (before ++ (al.sort x) ∷ []) t l) h (f t (steps_one step before start s (al.sort x) (Ok t) h e)) (rule before (al.sort x)) refl o
  found_step before s x l c rest h f (Err k) e o = found_stop before s (x ∷ l) c rest (al.place x) k h (λ y more g. no_more s x y l more k e g) (ended s) refl o

  no_next : (s : S) (y : X) (m : List X) → [] ≡ y ∷ m → (j : PatternKind) × (step s (al.sort y) ≡ Err j)
  no_next s y m h = absurd (cc)

  pub found : (before : List K) (s : S) (l : List X) (c : C) (rest : List X) → steps step start before ≡ Ok s → go before s l ≡ Ok (c, rest) → Found before l c rest
  found before s [] c rest h o = found_stop before s [] c rest 0 kind.Expected h (no_next s) (ended s) refl o
  found before s (x ∷ l) c rest h o = found_step before s x l c rest h (λ t. found (before ++ (al.sort x) ∷ []) t l c rest) (step s (al.sort x)) refl o

  -- the machine takes a front, and not the lexeme behind it
  pub record Failed (before : List K) (l : List X) (at : ℕ) (k : PatternKind) : Type 0 where
    pub x : X
    pub more : List X
    pub taken : Taken before l (x ∷ more)
    pub place : at ≡ (al.place x)
    pub stop : ((step taken.last (al.sort x) ≡ Err k) × (ended taken.last ≡ None))
        ⊎ ((t : S) × (step taken.last (al.sort x) ≡ Ok t) × (rule (before ++ kinds al taken.front) (al.sort x) ≡ Some k))

  failed_stop : (before : List K) (s : S) (x : X) (l : List X) (at : ℕ) (j k : PatternKind) → steps step start before ≡ Ok s → step s (al.sort x) ≡ Err j →
      (q : Option C) → ended s ≡ q → stopped q (x ∷ l) (al.place x) j ≡ Err (at, k) → Failed before (x ∷ l) at k
  unfolding taken_none
  failed_stop before s x l at j k h e None n o =
      let same : j ≡ k = same_kind {X = X} {C = C} (al.place x) at j k o in
      record { x = x; more = l; taken = taken_none before s (x ∷ l) h; place = sym (same_place {X = X} {C = C} (al.place x) at j k o); stop = inl (e ∙ ap (λ z. Err z) same, n) }
  failed_stop before s x l at j k h e (Some c) n o = absurd (cc)

  failed_more : (before : List K) (s : S) (x : X) (l : List X) (at : ℕ) (k : PatternKind) → steps step start before ≡ Ok s → rule before (al.sort x) ≡ None →
      Failed (before ++ (al.sort x) ∷ []) l at k → Failed before (x ∷ l) at k
  unfolding taken_more
  failed_more before s x l at k h r f = record {
    x = f.x;
    more = f.more;
    taken = taken_more before s x l (f.x ∷ f.more) h r f.taken;
    place = f.place;
    stop = subst (λ (z : List K). ((step f.taken.last (al.sort f.x) ≡ Err k) × (ended f.taken.last ≡ None)) ⊎ ((t : S) × (step f.taken.last (al.sort f.x) ≡ Ok t) × (rule z (al.sort f.x) ≡ Some k)))
        (snoc_cons before (al.sort x) (kinds al f.taken.front)) f.stop;
  }

  failed_checked : (before : List K) (s t : S) (x : X) (l : List X) (at : ℕ) (k : PatternKind) (o : Outcome X C) → steps step start before ≡ Ok s → step s (al.sort x) ≡ Ok t →
      (o ≡ Err (at, k) → Failed (before ++ (al.sort x) ∷ []) l at k) → (q : Option PatternKind) → rule before (al.sort x) ≡ q → checked q (al.place x) o ≡ Err (at, k) → Failed before (x ∷ l) at k
  unfolding taken_none
  failed_checked before s t x l at k o h e f None r g = failed_more before s x l at k h r (f g)
  failed_checked before s t x l at k o h e f (Some j) r g =
      let same : j ≡ k = same_kind {X = X} {C = C} (al.place x) at j k g in
      record {
        x = x;
        more = l;
        taken = taken_none before s (x ∷ l) h;
        place = sym (same_place {X = X} {C = C} (al.place x) at j k g);
        stop = inr (t, e, ap (λ z. rule z (al.sort x)) (append-nil before) ∙ r ∙ ap (λ z. Some z) same);
      }

  failed_step : (before : List K) (s : S) (x : X) (l : List X) (at : ℕ) (k : PatternKind) → steps step start before ≡ Ok s →
      ((t : S) → step s (al.sort x) ≡ Ok t → steps step start (before ++ (al.sort x) ∷ []) ≡ Ok t → go (before ++ (al.sort x) ∷ []) t l ≡ Err (at, k) → Failed (before ++ (al.sort x) ∷ []) l at k) →
      (q : Result S PatternKind) → step s (al.sort x) ≡ q →
      either_way q (λ t. checked (rule before (al.sort x)) (al.place x) (go (before ++ (al.sort x) ∷ []) t l)) (λ k. stopped (ended s) (x ∷ l) (al.place x) k) ≡ Err (at, k) → Failed before (x ∷ l) at k
  failed_step before s x l at k h f (Ok t) e o =
      failed_checked before s t x l at k (go (before ++ (al.sort x) ∷ []) t l) h e (f t e (steps_one step before start s (al.sort x) (Ok t) h e)) (rule before (al.sort x)) refl o
  failed_step before s x l at k h f (Err j) e o = failed_stop before s x l at j k h e (ended s) refl o

  no_last : (s t : S) (x : X) → (al.sort x) ≡ al.end → step s (al.sort x) ≡ Ok t → ⊥
  no_last s t x w e = reader.no_end s t (ap (step s) (sym w) ∙ e)

  pub failed : (before : List K) (s : S) (l : List X) (at : ℕ) (k : PatternKind) → IsEnded al l → steps step start before ≡ Ok s → go before s l ≡ Err (at, k) → Failed before l at k
  failed before s [] at k w h o = absurd w
  failed before s (x ∷ []) at k w h o = failed_step before s x [] at k h (λ t e _ _. absurd (no_last s t x w e)) (step s (al.sort x)) refl o
  failed before s (x ∷ y ∷ l) at k w h o = failed_step before s x (y ∷ l) at k h (λ t _. failed (before ++ (al.sort x) ∷ []) t (y ∷ l) at k w) (step s (al.sort x)) refl o

  -- where the machine may not end, no word ends
  no_word : (f : List K) (s : S) → steps step start f ≡ Ok s → ended s ≡ None → IsNoWord Reads f
  no_word f s h n c u =
      let w = reader.word f c u in
      let t : S = w.0 in
      let at : steps step start f ≡ Ok t = w.1 in
      let is : ended t ≡ Some c = w.2 in
      let same : s ≡ t = cc in
      let two : ended s ≡ ended t = ap ended same in
      absurd (cc)

  wrong_for : (f : List K) (s : S) (x : K) (k : PatternKind) → steps step start f ≡ Ok s → step s x ≡ Err k → ended s ≡ None → Refusal al step s x k → Wrong al Reads Breaks f x k
  wrong_for f s x k h e n (inl r) = subst (λ (z : PatternKind). Wrong al Reads Breaks f x z) (sym r.0)
      (unexpected (no_word f s h n) (begins_none f s x k h e) (λ name w o. let j = r.1 name o.0 w in begins_no_more f s (field_of o.0) j.0 h j.1 o.1))
  wrong_for f s x k h e n (inr (name, other, t, w, is, o)) = subst (λ (z : PatternKind). Wrong al Reads Breaks f x z) (sym is)
      (unknown name w (no_word f s h n) (begins_none f s x k h e) (other, begins_more f s t (field_of other) h o))

  wrong_of : (f : List K) (s : S) (x : K) (k : PatternKind) → steps step start f ≡ Ok s →
      ((step s x ≡ Err k) × (ended s ≡ None)) ⊎ ((t : S) × (step s x ≡ Ok t) × (rule f x ≡ Some k)) → Wrong al Reads Breaks f x k
  wrong_of f s x k h (inl (e, n)) = wrong_for f s x k h e n (reader.refusal s x k e)
  wrong_of f s x k h (inr (t, e, r)) = breaks_rule k (reader.begins (f ++ x ∷ []) t (steps_one step f start s x (Ok t) h e)) (reader.broken f s x k h r)

  unfoldable pub is_read : (l : List X) (c : C) (rest : List X) (count : ℕ) → go [] start l ≡ Ok (c, rest) → length l ≡ count + length rest → IsRead al Reads Breaks l c count
  is_read l c rest count o n =
      let f = found [] start l c rest refl o in
      let t = f.taken in
      let sum : length l ≡ length t.front + length rest = ap length t.parts ∙ length-append t.front rest in
      record {
        front = t.front;
        rest = rest;
        parts = t.parts;
        size = omega (arith, n, sum);
        reads = reader.means (kinds al t.front) t.last c t.goes f.value;
        stops = λ x more e. let j = f.stops x more e in begins_none (kinds al t.front) t.last (al.sort x) j.0 t.goes j.1;
        keeps = t.keeps;
      }

  pub is_fault : (l : List X) (at : ℕ) (k : PatternKind) → IsEnded al l → go [] start l ≡ Err (at, k) → IsFault al Reads Breaks l at k
  is_fault l at k w o =
      let f = failed [] start l at k w refl o in
      let t = f.taken in
      record {
        front = t.front;
        x = f.x;
        rest = f.more;
        parts = t.parts;
        place = f.place;
        begins = reader.begins (kinds al t.front) t.last t.goes;
        keeps = t.keeps;
        wrong = wrong_of (kinds al t.front) t.last (al.sort f.x) k t.goes f.stop;
      }

  -- a rule that is kept lets the machine go on
  rule_kept : (before : List K) (s : S) (x : K) (more : List K) (q : Option PatternKind) → steps step start before ≡ Ok s → rule before x ≡ q → KeepsBehind before (x ∷ more) → rule before x ≡ None
  rule_kept before s x more None h r keep = r
  rule_kept before s x more (Some k) h r keep =
      absurd (keep [] x more k refl (subst (λ (z : List K). Breaks z x k) (sym (append-nil before)) (reader.broken before s x k h r)))

  keeps_rest : (before : List K) (x : K) (more : List K) → KeepsBehind before (x ∷ more) → KeepsBehind (before ++ x ∷ []) more
  keeps_rest before x more keep b y a k e u = keep (x ∷ b) y a k (ap (λ z. x ∷ z) e) (subst (λ (z : List K). Breaks z y k) (snoc_cons before x b) u)

  along_step : (before : List K) (s t : S) (x : X) (front rest : List X) → steps step start before ≡ Ok s → rule before (al.sort x) ≡ None →
      ((u : S) → steps step start (before ++ (al.sort x) ∷ []) ≡ Ok u → steps step u (kinds al front) ≡ Ok t → go (before ++ (al.sort x) ∷ []) u (front ++ rest) ≡ go ((before ++ (al.sort x) ∷ []) ++ kinds al front) t rest) →
      (q : Result S PatternKind) → step s (al.sort x) ≡ q → (q >>= λ u. steps step u (kinds al front)) ≡ Ok t → go before s (x ∷ (front ++ rest)) ≡ go ((before ++ (al.sort x) ∷ []) ++ kinds al front) t rest
  along_step before s t x front rest h r f (Ok u) e g =
      ap (λ q. either_way q (λ v. checked (rule before (al.sort x)) (al.place x) (go (before ++ (al.sort x) ∷ []) v (front ++ rest))) (λ k. stopped (ended s) (x ∷ (front ++ rest)) (al.place x) k)) e
      ∙ ap (λ q. checked q (al.place x) (go (before ++ (al.sort x) ∷ []) u (front ++ rest))) r
      ∙ f u (steps_one step before start s (al.sort x) (Ok u) h e) g
  along_step before s t x front rest h r f (Err k) e g = absurd (cc)

  abbrev taken_at : S → Result S PatternKind
  taken_at s = Ok s

  same_state : (s t : S) → taken_at s ≡ taken_at t → s ≡ t
  same_state s t h = cc

  -- the machine goes along a front that it takes
  along : (before : List K) (s t : S) (front rest : List X) → steps step start before ≡ Ok s → steps step s (kinds al front) ≡ Ok t → KeepsBehind before (kinds al front) →
      go before s (front ++ rest) ≡ go (before ++ kinds al front) t rest
  along before s t [] rest h g keep = ap (λ z. go before z rest) (same_state s t g) ∙ ap (λ z. go z t rest) (sym (append-nil before))
  along before s t (x ∷ front) rest h g keep =
      along_step before s t x front rest h (rule_kept before s (al.sort x) (kinds al front) (rule before (al.sort x)) h refl keep)
      (λ u p q. along (before ++ (al.sort x) ∷ []) u t front rest p q (keeps_rest before (al.sort x) (kinds al front) keep)) (step s (al.sort x)) refl g
      ∙ ap (λ z. go z t rest) (snoc_cons before (al.sort x) (kinds al front))

  ends_by : (f : List K) (t : S) (c : C) (x : X) (more : List X) → steps step start f ≡ Ok t → ended t ≡ Some c → (Begins Reads (f ++ (al.sort x) ∷ []) → ⊥) →
      (q : Result S PatternKind) → step t (al.sort x) ≡ q → go f t (x ∷ more) ≡ Ok (c, x ∷ more)
  ends_by f t c x more h e n (Ok u) g = absurd (n (reader.begins (f ++ (al.sort x) ∷ []) u (steps_one step f start t (al.sort x) (Ok u) h g)))
  ends_by f t c x more h e n (Err k) g =
      ap (λ q. either_way q (λ v. checked (rule f (al.sort x)) (al.place x) (go (f ++ (al.sort x) ∷ []) v more)) (λ j. stopped (ended t) (x ∷ more) (al.place x) j)) g
      ∙ ap (λ q. stopped q (x ∷ more) (al.place x) k) e

  -- behind a word with which no longer word begins
  ends_there : (f : List K) (t : S) (c : C) (rest : List X) → steps step start f ≡ Ok t → ended t ≡ Some c →
      ((x : X) (more : List X) → rest ≡ x ∷ more → Begins Reads (f ++ (al.sort x) ∷ []) → ⊥) → go f t rest ≡ Ok (c, rest)
  ends_there f t c [] h e n = ap (λ q. stopped q [] 0 kind.Expected) e
  ends_there f t c (x ∷ more) h e n = ends_by f t c x more h e (n x more refl) (step t (al.sort x)) refl

  pub read_run : (l : List X) (c : C) (n : ℕ) → IsRead al Reads Breaks l c n → (rest : List X) × (go [] start l ≡ Ok (c, rest)) × (length l ≡ n + length rest)
  read_run l c n r =
      let w = reader.word (kinds al r.front) c r.reads in
      let parts : go [] start l ≡ go [] start (r.front ++ r.rest) = ap (go [] start) r.parts in
      let size : length l ≡ length r.front + length r.rest = ap length r.parts ∙ length-append r.front r.rest in
      (r.rest, parts ∙ along [] start w.0 r.front r.rest refl w.1 r.keeps ∙ ends_there (kinds al r.front) w.0 c r.rest w.1 w.2 r.stops, omega (arith, size, r.size))

  refused_by : (f : List K) (s : S) (x : K) (q : Result S PatternKind) → steps step start f ≡ Ok s → step s x ≡ q → (Begins Reads (f ++ x ∷ []) → ⊥) → (k : PatternKind) × (step s x ≡ Err k)
  refused_by f s x (Ok t) h e n = absurd (n (reader.begins (f ++ x ∷ []) t (steps_one step f start s x (Ok t) h e)))
  refused_by f s x (Err k) h e n = (k, e)

  taken_by : (f : List K) (s : S) (x : K) (q : Result S PatternKind) → steps step start f ≡ Ok s → step s x ≡ q → Begins Reads (f ++ x ∷ []) → (t : S) × (step s x ≡ Ok t)
  taken_by f s x (Ok t) h e b = (t, e)
  taken_by f s x (Err k) h e b = absurd (begins_none f s x k h e b)

  not_ended : (f : List K) (s : S) (q : Option C) → steps step start f ≡ Ok s → ended s ≡ q → IsNoWord Reads f → ended s ≡ None
  not_ended f s None h e n = e
  not_ended f s (Some c) h e n = absurd (n c (reader.means f s c h e))

  refused : (f : List K) (s : S) (x : X) (l : List X) (k : PatternKind) → step s (al.sort x) ≡ Err k → ended s ≡ None → go f s (x ∷ l) ≡ Err ((al.place x), k)
  refused f s x l k e n =
      ap (λ q. either_way q (λ v. checked (rule f (al.sort x)) (al.place x) (go (f ++ (al.sort x) ∷ []) v l)) (λ j. stopped (ended s) (x ∷ l) (al.place x) j)) e
      ∙ ap (λ q. stopped q (x ∷ l) (al.place x) k) n

  broken_there : (f : List K) (s t : S) (x : X) (l : List X) (k : PatternKind) → step s (al.sort x) ≡ Ok t → rule f (al.sort x) ≡ Some k → go f s (x ∷ l) ≡ Err ((al.place x), k)
  broken_there f s t x l k e r =
      ap (λ q. either_way q (λ v. checked (rule f (al.sort x)) (al.place x) (go (f ++ (al.sort x) ∷ []) v l)) (λ j. stopped (ended s) (x ∷ l) (al.place x) j)) e
      ∙ ap (λ q. checked q (al.place x) (go (f ++ (al.sort x) ∷ []) t l)) r

  is_unknown : (f : List K) (s : S) (x : K) (name : List ℕ) (k : PatternKind) → steps step start f ≡ Ok s → x ≡ al.word name → IsFieldPlace al Reads f →
      Refusal al step s x k → k ≡ kind.UnknownField
  is_unknown f s x name k h w b (inl r) = let j = r.1 name b.0 w in absurd (begins_no_more f s (field_of b.0) j.0 h j.1 b.1)
  is_unknown f s x name k h w b (inr r) = r.4

  is_unexpected : (f : List K) (s : S) (x : K) (k : PatternKind) → steps step start f ≡ Ok s → ((name : List ℕ) → x ≡ al.word name → IsFieldPlace al Reads f → ⊥) →
      Refusal al step s x k → k ≡ kind.Expected
  is_unexpected f s x k h n (inl r) = r.0
  is_unexpected f s x k h n (inr (name, other, t, w, is, o)) = absurd (n name w (other, begins_more f s t (field_of other) h o))

  stops_at : (f : List K) (s : S) (x : X) (l : List X) (k : PatternKind) → steps step start f ≡ Ok s → Wrong al Reads Breaks f (al.sort x) k → go f s (x ∷ l) ≡ Err ((al.place x), k)
  stops_at f s x l _ h (unknown name w o n b) =
      let r = refused_by f s (al.sort x) (step s (al.sort x)) h refl n in
      let is = is_unknown f s (al.sort x) name r.0 h w b (reader.refusal s (al.sort x) r.0 r.1) in
      refused f s x l kind.UnknownField (r.1 ∙ ap (λ z. Err z) is) (not_ended f s (ended s) h refl o)
  stops_at f s x l _ h (unexpected o n b) =
      let r = refused_by f s (al.sort x) (step s (al.sort x)) h refl n in
      let is = is_unexpected f s (al.sort x) r.0 h b (reader.refusal s (al.sort x) r.0 r.1) in
      refused f s x l kind.Expected (r.1 ∙ ap (λ z. Err z) is) (not_ended f s (ended s) h refl o)
  stops_at f s x l _ h (breaks_rule k b m) =
      let t = taken_by f s (al.sort x) (step s (al.sort x)) h refl b in
      broken_there f s t.0 x l k t.1 (reader.breaks f s (al.sort x) k h m)

  pub fault_run : (l : List X) (at : ℕ) (k : PatternKind) → IsFault al Reads Breaks l at k → go [] start l ≡ Err (at, k)
  fault_run l at k q =
      let s = takes (kinds al q.front) q.begins in
      ap (go [] start) q.parts ∙ along [] start s.0 q.front (q.x ∷ q.rest) refl s.1 q.keeps ∙ stops_at (kinds al q.front) s.0 q.x q.rest k s.1 q.wrong ∙ ap (λ z. Err (z, k)) (sym q.place)

  some_answer : (l : List X) → IsEnded al l → (q : Outcome X C) → go [] start l ≡ q →
      ((c : C) × (count : ℕ) × IsRead al Reads Breaks l c count) ⊎ ((at : ℕ) × (k : PatternKind) × IsFault al Reads Breaks l at k)
  some_answer l w (Ok (c, rest)) o =
      let t = (found [] start l c rest refl o).taken in
      inl (c, length t.front, is_read l c rest (length t.front) o (ap length t.parts ∙ length-append t.front rest))
  some_answer l w (Err (at, k)) o = inr (at, k, is_fault l at k w o)

  pub apart : (l : List X) (c : C) (n at : ℕ) (k : PatternKind) → IsRead al Reads Breaks l c n → IsFault al Reads Breaks l at k → ⊥
  apart l c n at k r f = let a = read_run l c n r in let b = fault_run l at k f in let e : go [] start l ≡ Ok (c, a.0) = a.1 in absurd (cc)

  pub one_value : (l : List X) (b c : C) (m n : ℕ) → IsRead al Reads Breaks l b m → IsRead al Reads Breaks l c n → (b ≡ c) × (m ≡ n)
  one_value l b c m n r s =
      let a = read_run l b m r in
      let z = read_run l c n s in
      let e = sym a.1 ∙ z.1 in
      let size : length a.0 ≡ length z.0 = ap length (same_rest b c a.0 z.0 e) in
      (same_value b c a.0 z.0 e, omega (arith, a.2, z.2, size))

  pub one_fault : (l : List X) (a b : ℕ) (j k : PatternKind) → IsFault al Reads Breaks l a j → IsFault al Reads Breaks l b k → (a ≡ b) × (j ≡ k)
  one_fault l a b j k r s =
      let e = sym (fault_run l a j r) ∙ fault_run l b k s in
      (same_place {X = X} {C = C} a b j k e, same_kind {X = X} {C = C} a b j k e)

  pub one_answer : (l : List X) → IsEnded al l → OneAnswer al Reads Breaks l
  one_answer l w = record { some = some_answer l w (go [] start l) refl; apart = apart l; value = one_value l; fault = one_fault l }

  pub only_value : (q : Result (C × ℕ) PatternFault) (from : ℕ) (l : List X) →
      IfOk q (λ x. (from ≤ x.1) × IsRead al Reads Breaks l x.0 (x.1 - from)) → IfBad q (IsFault al Reads Breaks l) → (c : C) (n : ℕ) → IsRead al Reads Breaks l c n → Gives q c (from + n)
  only_value (Ok (x, to)) from l v f c n r = let s = one_value l x c (to - from) n v.1 r in (s.0, omega (arith, v.0, s.1))
  only_value (Err fault.NoMemory) from l v f c n r = tt
  only_value (Err (fault.Bad at k)) from l v f c n r = apart l c n at k r f

  pub only_fault : (q : Result (C × ℕ) PatternFault) (from : ℕ) (l : List X) →
      IfOk q (λ x. (from ≤ x.1) × IsRead al Reads Breaks l x.0 (x.1 - from)) → IfBad q (IsFault al Reads Breaks l) → (at : ℕ) (k : PatternKind) → IsFault al Reads Breaks l at k → Refuses q at k
  only_fault (Ok (x, to)) from l v f at k r = apart l x (to - from) at k v.1 r
  only_fault (Err fault.NoMemory) from l v f at k r = tt
  only_fault (Err (fault.Bad a j)) from l v f at k r = one_fault l a at j k f r
