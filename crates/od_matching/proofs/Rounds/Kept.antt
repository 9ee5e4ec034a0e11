-- A round over the sentences that are kept for each rule.
use Rattle.std.proofs.Common.{◌≡◌, ℕ, ◌+◌, ◌*◌, length, arith, List, [], ◌∷◌, ◌++◌, filter, flat_map, Bool, true, false, cond, refl, sym, ap, ap₂, ◌∙◌}
use Rattle.std.specs.List.{enumerate_from, sum_by}
use Rattle.std.proofs.lemmas.List.Sums.{sum_by-cons}
use Rattle.od_index.proofs.Tiles.{first-seen}
use Rattle.od_pattern.specs.declared.rule.Rule.{Rule}
use Rattle.od_extraction.specs.Mentions.{distinct}
use Rattle.od_matching.specs.Matching.Rules.{RuleOutcome, mentions, crowded}
use Rattle.od_matching.specs.Rounds.Laws.{NothingOutside, KeptIsRound, AllAreOpened, SeenIsRound, RuleAfterRule}
use Rattle.od_matching.specs.Rounds.Round.{items_of, outcome_at, items_at, items_over, walk_over, round_over}
use Rattle.od_matching.specs.Rounds.Sites.{Site, runs_in, rules_in}

-- an outcome that is not other than no mention gives no item
nothing-met : (rule : ℕ) (site : Site) (o : RuleOutcome) → ((o ≡ mentions [] → ⊥) → ⊥) → items_of rule site o ≡ []
nothing-met rule site (mentions []) h = refl
nothing-met rule site (mentions (m ∷ ms)) h = absurd (h (λ e. cc))
nothing-met rule site (crowded count) h = absurd (h (λ e. cc))

-- elements that give nothing may be left out
left-out : {X Y : Type 0} (give : X → List Y) (keep : X → Bool) → ((x : X) → keep x ≡ false → give x ≡ []) → (xs : List X) → flat_map give (filter keep xs) ≡ flat_map give xs
left-out give keep none [] = refl
left-out {X = X} {Y = Y} give keep none (x ∷ xs) = step (keep x) (none x) (left-out give keep none xs)
  where
    step : (b : Bool) → (b ≡ false → give x ≡ []) → flat_map give (filter keep xs) ≡ flat_map give xs → flat_map give (cond b (x ∷ filter keep xs) (filter keep xs)) ≡ give x ++ flat_map give xs
    step true h e = ap (λ ys. give x ++ ys) e
    step false h e = e ∙ ap (λ ys. ys ++ flat_map give xs) (sym (h refl))

pub nothing-outside : NothingOutside
nothing-outside old rule keep keeps ss =
    left-out (items_at old rule) keep
    (λ site no. nothing-met rule.0 site (outcome_at old rule.1 site) (λ yes. let q : false ≡ true = sym no ∙ keeps site yes in cc)) ss

same-for-each : {X Y : Type 0} (give give' : X → List Y) → ((x : X) → give x ≡ give' x) → (xs : List X) → flat_map give xs ≡ flat_map give' xs
same-for-each give give' same [] = refl
same-for-each give give' same (x ∷ xs) = ap₂ (λ a b. a ++ b) (same x) (same-for-each give give' same xs)

pub kept-is-round : KeptIsRound
unfolding round_over
kept-is-round keep ss g r old keeps =
    ap (walk_over (distinct old))
    (same-for-each (λ rule. items_over (filter (keep rule) ss) (distinct old) rule) (λ rule. items_over ss (distinct old) rule)
    (λ rule. nothing-outside (distinct old) rule (keep rule) (keeps rule) ss) (rules_in r g))

-- a filter, element by element
by-test : {X Y : Type 0} (give : X → List Y) (test : X → Bool) (xs : List X) → flat_map (λ x. cond (test x) (give x) []) xs ≡ flat_map give (filter test xs)
by-test give test [] = refl
by-test {X = X} give test (x ∷ xs) = step (test x) (by-test give test xs)
  where
    step : (b : Bool) → flat_map (λ y. cond (test y) (give y) []) xs ≡ flat_map give (filter test xs)
        → cond b (give x) [] ++ flat_map (λ y. cond (test y) (give y) []) xs ≡ flat_map give (cond b (x ∷ filter test xs) (filter test xs))
    step true e = ap (λ ys. give x ++ ys) e
    step false e = e

pub rule-after-rule : RuleAfterRule
rule-after-rule ss g r old = by-test (λ (rule : ℕ × Rule). items_over ss old rule) (λ (rule : ℕ × Rule). runs_in r rule.1.priority) (enumerate_from 1 g.rules)

-- ## Openings

-- where every sentence is kept, all are there
all-kept : {X : Type 0} (xs : List X) → filter (λ x. true) xs ≡ xs
all-kept [] = refl
all-kept (x ∷ xs) = ap (λ ys. x ∷ ys) (all-kept xs)

as-many : (ss : List Site) (rules : List (ℕ × Rule)) → sum_by (λ (rule : ℕ × Rule). length (filter (λ (site : Site). true) ss)) rules ≡ length rules * length ss
as-many ss [] = omega arith
as-many ss (rule ∷ rules) =
    let here : length (filter (λ (site : Site). true) ss) ≡ length ss = ap length (all-kept ss) in
    let more : (length rules + 1) * length ss ≡ length rules * length ss + length ss = grind arith in
    sum_by-cons (λ (rule : ℕ × Rule). length (filter (λ (site : Site). true) ss)) rule rules ∙ ap₂ (λ a b. a + b) here (as-many ss rules) ∙ (omega (arith, more))

pub all-opened : AllAreOpened
all-opened ss g r = as-many ss (rules_in r g)

-- ## Views

pub seen-is-round : SeenIsRound
seen-is-round v docs g r old t = ap (λ ss. round_over ss g r old) (first-seen v docs t)
