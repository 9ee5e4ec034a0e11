-- The counts of hops and events tell how long the lists are.
use Rattle.std.proofs.Common.{◌≡◌, ℕ, suc, ◌+◌, ◌*◌, ◌<◌, ◌≤◌, ◌⊎◌, Bool, true, false, List, [], ◌∷◌, ◌++◌, length, map, refl, sym, ◌∙◌, ap, subst, arith, inl, inr}
use Rattle.std.proofs.lemmas.Bool.{cases_lt, lt-ltb, le-ltb}
use Rattle.std.proofs.lemmas.List.{length-append, length-map}
use Rattle.std.proofs.Math.Nat.{mul_assoc, mul-zero, mul-one, one-mul, zero-mul, suc-mul, le-mul_of_pos_right}
use Rattle.std.specs.Prelude.{◌↔◌, Option, Some, None, if◌then◌else◌}
use Rattle.std.specs.List.{flat_map}
use Rattle.od_text.specs.Lists.{Each}
use Rattle.od_matching.specs.Matching.Candidates.{part_at, options_of, options_with, candidates_at}
use Rattle.od_matching.specs.Matching.Counts.{AreFew}
use Rattle.od_matching.specs.Matching.Events.{products, mention_of, mentions_with, mentions_at, event_mentions, factor, factors_with, Running, over, product, running, gives, counted_with, count_on, count_from, event_count}
use Rattle.od_matching.specs.Matching.Hops.{later_of, last_of, first_over, count_where_any, hop_count}
use Rattle.od_matching.specs.Matching.Scan.{scan_of}
use Rattle.od_document.specs.declared.sentence.Sentence.{Sentence}
use Rattle.od_extraction.specs.declared.mention.Labelled.{Labelled}
use Rattle.od_extraction.specs.declared.mention.Match.{Match}
use Rattle.od_extraction.specs.declared.mention.Part.{Part}
use Rattle.od_extraction.specs.declared.mention.Span.{Span}
use Rattle.od_pattern.specs.declared.rule.Argument.{Argument}
use Rattle.od_pattern.specs.declared.rule.EventRule.{EventRule}
use Rattle.od_pattern.specs.declared.rule.Many.{Many}
use Rattle.od_pattern.specs.declared.rule.Many.TheVariants.{One, Optional, All, AllOne}
use Rattle.od_pattern.specs.declared.rule.Rule.{Rule}

some_none : {A : Type 0} {X : Type 0} {x : X} → ◌≡◌ {A = Option X} (Some x) None → A
some_none e = absurd (cc)

-- ## Hops

first_over-few : (most : ℕ) (lists : List (List Match)) → (first_over most lists ≡ None) ↔ Each (λ list. length list ≤ most) lists
first_over-few most [] = ((λ e. tt), (λ h. refl))
first_over-few most (list ∷ lists) = elim (cases_lt most (length list)) [
  | inl lt ↦
      let e : first_over most (list ∷ lists) ≡ Some (length list) = ap (λ (b : Bool). if b then Some (length list) else first_over most lists) (lt-ltb most (length list) lt) in
      ((λ n. some_none (sym e ∙ n)), (λ h. absurd (let le : length list ≤ most = h.0 in omega arith)))
  | inr ge ↦
      let e : first_over most (list ∷ lists) ≡ first_over most lists = ap (λ (b : Bool). if b then Some (length list) else first_over most lists) (le-ltb most (length list) ge) in
      let rest = first_over-few most lists in
      ((λ n. (ge, rest.0 (sym e ∙ n))), (λ h. e ∙ rest.1 h.1))
]

-- by whether there is a length, and whether anything was found
where_any : (count : Option ℕ) (found : List Match) → (count_where_any count found ≡ None) ↔ ((found ≡ []) ⊎ (count ≡ None))
where_any None found = ((λ e. inr refl), (λ h. refl))
where_any (Some count) [] = ((λ e. inl refl), (λ h. refl))
where_any (Some count) (first ∷ rest) = ((λ e. some_none e), (λ h. elim h [ inl e ↦ absurd (cc) | inr e ↦ e ]))

pub hop_count-none : (most : ℕ) (lists : List (List Match)) → (hop_count most lists ≡ None) ↔ ((last_of lists ≡ []) ⊎ AreFew most lists)
hop_count-none most lists =
    let any = where_any (first_over most (later_of lists)) (last_of lists) in
    let few = first_over-few most (later_of lists) in (
      (λ e. elim (any.0 e) [ inl l ↦ inl l | inr r ↦ inr (few.0 r) ]),
      (λ h. any.1 (elim h [ inl l ↦ inl l | inr r ↦ inr (few.1 r) ])),
    )

-- ## The products of an event

-- numbers multiplied one after another
abbrev multiplied : ℕ → List ℕ → ℕ
multiplied k [] = k
multiplied k (n ∷ ns) = multiplied (k * n) ns

one_more : (a b : ℕ) → suc a * b ≡ b + a * b
one_more a b = let e : suc a * b ≡ a * b + b = suc-mul a b in omega (arith, e)

-- each option with each product of the others
length-options : (options rest : List (List Part)) → length (flat_map (λ o. map (λ r. o ++ r) rest) options) ≡ length options * length rest
length-options [] rest = sym (zero-mul (length rest))
length-options (o ∷ options) rest =
    let head : length (map (λ r. o ++ r) rest) ≡ length rest = length-map rest (λ r. o ++ r) in
    let tail : length (flat_map (λ o. map (λ r. o ++ r) rest) options) ≡ length options * length rest = length-options options rest in
    length-append (map (λ r. o ++ r) rest) (flat_map (λ o. map (λ r. o ++ r) rest) options)
    ∙ ap (λ z. z + length (flat_map (λ o. map (λ r. o ++ r) rest) options)) head
    ∙ ap (λ z. length rest + z) tail
    ∙ sym (one_more (length options) (length rest))

-- there are as many products as the numbers of options multiplied
multiplied-products : (k : ℕ) (options : List (List (List Part))) → multiplied k (map length options) ≡ k * length (products options)
multiplied-products k [] = sym (mul-one k)
multiplied-products k (o ∷ options) =
    multiplied-products (k * length o) options
    ∙ mul_assoc k (length o) (length (products options))
    ∙ ap (λ z. k * z) (sym (length-options o (products options)))

-- one match of the trigger gives as many mentions as there are products
mentions-length : (r : Rule) (d k : ℕ) (arguments : List Argument) (t : Match) (candidates : List (List Span))
    → length (mentions_with r d k arguments t candidates) ≡ length (products (options_with arguments candidates))
mentions-length r d k arguments t candidates = length-map (products (options_with arguments candidates)) (mention_of r d k t)

-- where an argument leaves no option there is no product
none-given : (options : List (List (List Part))) → gives options ≡ false → length (products options) ≡ 0
none-given [] e = absurd (let q : true ≡ false = e in cc)
none-given ([] ∷ rest) e = refl
none-given ((o ∷ options) ∷ rest) e =
    length-options (o ∷ options) (products rest) ∙ ap (λ z. suc (length options) * z) (none-given rest e) ∙ mul-zero (suc (length options))

-- the number of options that an argument leaves is its factor, where it leaves one
factor-options : (many : Many) (a : Argument) (found : List Span) (rest : List (List (List Part))) → gives (options_of many a found ∷ rest) ≡ true
    → (length (options_of many a found) ≡ factor many (length found)) × (1 ≤ factor many (length found)) × (gives rest ≡ true)
factor-options One a [] rest e = absurd (let q : false ≡ true = e in cc)
factor-options One a (c ∷ found) rest e = (length-map (c ∷ found) (λ c. part_at a c ∷ []), omega arith, e)
factor-options Optional a [] rest e = (refl, omega arith, e)
factor-options Optional a (c ∷ found) rest e = (length-map (c ∷ found) (λ c. part_at a c ∷ []), omega arith, e)
factor-options All a found rest e = (refl, omega arith, e)
factor-options AllOne a [] rest e = absurd (let q : false ≡ true = e in cc)
factor-options AllOne a (c ∷ found) rest e = (refl, omega arith, e)

-- the same of all arguments
factors-options : (arguments : List Argument) (candidates : List (List Span)) → gives (options_with arguments candidates) ≡ true
    → (map length (options_with arguments candidates) ≡ factors_with arguments candidates) × Each (λ n. 1 ≤ n) (factors_with arguments candidates)
factors-options [] candidates e = (refl, tt)
factors-options (a ∷ arguments) [] e = (refl, tt)
factors-options (a ∷ arguments) (found ∷ candidates) e =
    let one = factor-options a.many a found (options_with arguments candidates) e in
    let more = factors-options arguments candidates one.2 in
    (ap (λ z. z ∷ map length (options_with arguments candidates)) one.0 ∙ ap (λ z. factor a.many (length found) ∷ z) more.0, (one.1, more.1))

-- ## The running count

-- numbers from one on make no product smaller
at-least : (k : ℕ) (ns : List ℕ) → Each (λ n. 1 ≤ n) ns → k ≤ multiplied k ns
at-least k [] h = omega arith
at-least k (n ∷ ns) h =
    let le : k ≤ k * n = le-mul_of_pos_right k h.0 in
    let more : k * n ≤ multiplied (k * n) ns = at-least (k * n) ns h.1 in
    omega arith

-- what a count ends with: the whole product, where it is no more than the most, and else a number
abbrev EndsWith : ℕ → ℕ → ℕ → Running → Type 0
EndsWith most before whole result = ((before + whole ≤ most) × (result ≡ product whole)) ⊎ ((most < before + whole) × (count : ℕ) × (result ≡ over count))

running-ends : (most before k : ℕ) (ns : List ℕ) → Each (λ n. 1 ≤ n) ns → EndsWith most before (multiplied k ns) (running most before k ns)
running-ends most before k [] h = elim (cases_lt most (before + k)) [
  | inl lt ↦ inr (lt, before + k, ap (λ (b : Bool). if b then over (before + k) else product k) (lt-ltb most (before + k) lt))
  | inr ge ↦ inl (ge, ap (λ (b : Bool). if b then over (before + k) else product k) (le-ltb most (before + k) ge))
]
running-ends most before k (n ∷ ns) h = elim (cases_lt most (before + k)) [
  | inl lt ↦
      let le : k ≤ multiplied k (n ∷ ns) = at-least k (n ∷ ns) h in
      inr (omega arith, before + k, ap (λ (b : Bool). if b then over (before + k) else running most before (k * n) ns) (lt-ltb most (before + k) lt))
  | inr ge ↦
      subst (EndsWith most before (multiplied (k * n) ns))
      (sym (ap (λ (b : Bool). if b then over (before + k) else running most before (k * n) ns) (le-ltb most (before + k) ge)))
      (running-ends most before (k * n) ns h.1)
]

-- what one match counts is the number of its mentions
counted-by : (most before : ℕ) (arguments : List Argument) (candidates : List (List Span)) (b : Bool) → before ≤ most → gives (options_with arguments candidates) ≡ b
    → EndsWith most before (length (products (options_with arguments candidates))) (if b then running most before 1 (factors_with arguments candidates) else product 0)
counted-by most before arguments candidates true h e =
    let factors = factors-options arguments candidates e in
    let options = options_with arguments candidates in
    let whole : multiplied 1 (factors_with arguments candidates) ≡ length (products options) =
    ap (multiplied 1) (sym factors.0) ∙ multiplied-products 1 options ∙ one-mul (length (products options)) in
    subst (λ (z : ℕ). EndsWith most before z (running most before 1 (factors_with arguments candidates))) whole (running-ends most before 1 (factors_with arguments candidates) factors.1)
counted-by most before arguments candidates false h e =
    subst (λ (z : ℕ). EndsWith most before z (product 0)) (sym (none-given (options_with arguments candidates) e)) (inl (omega arith, refl))

module _ (most : ℕ) (r : Rule) (d k : ℕ) (s : Sentence) (m : List Labelled) (arguments : List Argument) where
  -- how many mentions some matches give
  abbrev many : List Match → ℕ
  many ts = length (flat_map (mentions_at r d k s m arguments) ts)

  -- over some matches, with the mentions before them
  counted : (before : ℕ) (ts : List Match) → before ≤ most → (count_from most s m arguments before ts ≡ None) ↔ (before + many ts ≤ most)
  counted before [] h = ((λ e. omega arith), (λ le. refl))
  counted before (t ∷ ts) h =
      let candidates : List (List Span) = candidates_at s m arguments t in
      let here : ℕ = length (products (options_with arguments candidates)) in
      let result : Running = counted_with most before arguments candidates in
      let next : ℕ → Option ℕ = λ n. count_from most s m arguments n ts in
      let count : many (t ∷ ts) ≡ here + many ts =
      length-append (mentions_at r d k s m arguments t) (flat_map (mentions_at r d k s m arguments) ts) ∙ ap (λ z. z + many ts) (mentions-length r d k arguments t candidates) in
      elim (counted-by most before arguments candidates (gives (options_with arguments candidates)) h refl) [
        | inl fits ↦
            let e : count_on next before result ≡ next (before + here) = ap (count_on next before) fits.1 in
            let rest = counted (before + here) ts fits.0 in (
              (λ n. let le : before + here + many ts ≤ most = rest.0 (sym e ∙ n) in omega (arith, count)),
              (λ le. e ∙ rest.1 (omega (arith, count))),
            )
        | inr big ↦
            let lt : most < before + here = big.0 in
            let e : count_on next before result ≡ Some big.1 = ap (count_on next before) big.2 in (
              (λ n. some_none (sym e ∙ n)),
              (λ le. absurd (omega (arith, count))),
            )
      ]

pub event_count-none : (most : ℕ) (r : Rule) (d k : ℕ) (e : EventRule) (s : Sentence) (m : List Labelled)
    → (event_count most e s m ≡ None) ↔ (length (event_mentions r d k e s m) ≤ most)
event_count-none most r d k e s m =
    let ts : List Match = scan_of e.trigger s m in
    let both = counted most r d k s m e.arguments 0 ts (omega arith) in (
      (λ n. let le : 0 + many most r d k s m e.arguments ts ≤ most = both.0 n in omega arith),
      (λ le. both.1 (omega arith)),
    )
