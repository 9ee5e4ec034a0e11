-- A round goes over sentences, and over rules.
use Rattle.std.proofs.Common.{◌≡◌, ℕ, zero, suc, ◌+◌, ◌<◌, ◌≤◌, List, [], ◌∷◌, ◌++◌, length, drop, get_or, map, fold, flat_map, refl, sym, ap, ◌∙◌, subst, arith, append-nil}
use Rattle.std.specs.List.{enumerate_from, sum_by}
use Rattle.std.proofs.lemmas.List.Sums.{sum_by-cons}
use Rattle.std.specs.Option.{option_to_list}
use Rattle.std.specs.Prelude.{Option, Some, slice_get}
use Rattle.std.proofs.lemmas.List.{drop_more, drop_all}
use Rattle.std.proofs.lemmas.Option.{slice_get_within, get_or_from_slice_get}
use Rattle.od_extraction.specs.declared.mention.Match.{Match}
use Rattle.od_extraction.specs.declared.mention.Mention.{Mention}
use Rattle.od_extraction.specs.declared.mention.RoundResult.{RoundResult}
use Rattle.od_extraction.specs.declared.mention.RoundResult.TheVariants.{Found, Crowded}
use Rattle.od_index.specs.Segments.{Stored}
use Rattle.od_index.specs.Sites.{Site}
use Rattle.od_segment.specs.declared.view.SentenceRef.{SentenceRef}
use Rattle.od_matching.specs.Matching.Rules.{mentions, crowded, mention_at, rule_mentions}
use Rattle.od_matching.specs.Rounds.Round.{Item, walked, known_at, items_of, items_at, items_over}
use Rattle.od_matching.proofs.Rounds.Walks.{walk-append}
use Rattle.od_pattern.specs.declared.rule.Rule.{Rule}
use Rattle.od_rule.specs.Finding.{made}
use Rattle.od_rounds.specs.declared.fault.RoundFault.{RoundFault}
use Rattle.od_rounds.specs.Gives.{FaultIs}
use Rattle.od_rounds.specs.Looked.{walk_from, items_made, site_named, sites_named}
use Rattle.od_rounds.proofs.Lists.{in-parts}
use Rattle.od_rounds.proofs.Meets.{fault-stays}
use Rattle.od_rounds.proofs.Repeats.{walk-made}

-- ## On a sentence

-- where a rule finds matches, it gives their mentions
pub matches-given : (known found : List Mention) (n : ℕ) (rule : Rule) (site : Site) (matches : List Match)
    → rule_mentions rule site.document site.number site.words (known_at known site) ≡ mentions (made rule.body (map (mention_at rule site.document site.number) matches))
    → walk_from known found (items_at known (n, rule) site) ≡ walk_from known found (items_made rule site.document site.number matches)
matches-given known found n rule site matches says =
    ap (λ o. walk_from known found (items_of n site o)) says
    ∙ walk-made known (Found found) rule.body (map (mention_at rule site.document site.number) matches)

-- where it finds too much, it gives the count
pub crowd-given : (known found : List Mention) (n : ℕ) (rule : Rule) (site : Site) (count : ℕ)
    → rule_mentions rule site.document site.number site.words (known_at known site) ≡ crowded count
    → walk_from known found (items_at known (n, rule) site) ≡ Crowded n site.document site.number count
crowd-given known found n rule site count says = ap (λ o. walk_from known found (items_of n site o)) says

-- what it gives at a place with a sentence
pub given-there : (known : List Mention) (rule : ℕ × Rule) (o : Option Site) (site : Site) → o ≡ Some site → items_over (option_to_list o) known rule ≡ items_at known rule site
given-there known rule o site is = ap (λ z. items_over (option_to_list z) known rule) is ∙ append-nil (items_at known rule site)

-- what it gives at a place
abbrev pub gives_at : List Stored → List Mention → ℕ × Rule → SentenceRef → List Item
gives_at segments known rule at = items_over (site_named segments at) known rule

-- so it gives at some places, one after another
pub gives-all : (segments : List Stored) (known found : List Mention) (rule : ℕ × Rule) (refs : List SentenceRef)
    → walk_from known found (flat_map (gives_at segments known rule) refs) ≡ walk_from known found (items_over (sites_named segments refs) known rule)
gives-all segments known found rule refs =
    ap (walk_from known found) (sym (in-parts (λ site. items_at known rule site) (site_named segments) refs))

-- there is something at each place of a list
pub some-at : {X : Type 0} (xs : List X) (i : ℕ) → i < length xs → (x : X) × (slice_get xs i ≡ Some x)
some-at [] i h = absurd (omega arith)
some-at (x ∷ xs) zero h = (x, refl)
some-at (x ∷ xs) (suc i) h = some-at xs i (omega arith)

-- ## One thing after another

module _ {X : Type 0} (give : X → List Item) (known : List Mention) where
  -- what is left from the n-th on
  abbrev pub left : ℕ → List X → List Item
  left n xs = flat_map give (drop n xs)

  left-next : (xs : List X) (n : ℕ) (x : X) → slice_get xs n ≡ Some x → left n xs ≡ give x ++ left (n + 1) xs
  left-next xs n x at =
      ap (flat_map give) (drop_more xs n x (slice_get_within xs n x at)) ∙ ap (λ y. give y ++ left (n + 1) xs) (get_or_from_slice_get xs n x x at)

  -- the walk goes on
  pub goes-on : (r r' whole : RoundResult) (xs : List X) (n : ℕ) (x : X) → slice_get xs n ≡ Some x
      → fold (walked known) r (left n xs) ≡ whole → fold (walked known) r (give x) ≡ r' → fold (walked known) r' (left (n + 1) xs) ≡ whole
  goes-on r r' whole xs n x at e step =
      ap (λ z. fold (walked known) z (left (n + 1) xs)) (sym step)
      ∙ sym (walk-append known r (give x) (left (n + 1) xs))
      ∙ ap (fold (walked known) r) (sym (left-next xs n x at))
      ∙ e

  -- it is refused
  pub stops-at : (f : RoundFault) (r whole : RoundResult) (xs : List X) (n : ℕ) (x : X) → slice_get xs n ≡ Some x
      → fold (walked known) r (left n xs) ≡ whole → FaultIs f (fold (walked known) r (give x)) → FaultIs f whole
  stops-at f r whole xs n x at e refused =
      subst (FaultIs f) (sym (walk-append known r (give x) (left (n + 1) xs)) ∙ ap (fold (walked known) r) (sym (left-next xs n x at)) ∙ e)
      (fault-stays known f (fold (walked known) r (give x)) (left (n + 1) xs) refused)

  -- it is at its end
  pub at-end : (r whole : RoundResult) (xs : List X) (n : ℕ) → length xs ≤ n → fold (walked known) r (left n xs) ≡ whole → whole ≡ r
  at-end r whole xs n h e = sym e ∙ ap (λ ys. fold (walked known) r (flat_map give ys)) (drop_all n xs h)

-- ## The same of things that are numbered from 1

module _ {X : Type 0} (give : ℕ × X → List Item) (known : List Mention) where
  abbrev pub numbered : ℕ → List X → List Item
  numbered n xs = flat_map give (enumerate_from (n + 1) (drop n xs))

  numbered-next : (xs : List X) (n : ℕ) (x : X) → slice_get xs n ≡ Some x → numbered n xs ≡ give (n + 1, x) ++ numbered (n + 1) xs
  numbered-next xs n x at =
      ap (λ ys. flat_map give (enumerate_from (n + 1) ys)) (drop_more xs n x (slice_get_within xs n x at))
      ∙ ap (λ y. give (n + 1, y) ++ numbered (n + 1) xs) (get_or_from_slice_get xs n x x at)

  pub number-goes : (r r' whole : RoundResult) (xs : List X) (n : ℕ) (x : X) → slice_get xs n ≡ Some x
      → fold (walked known) r (numbered n xs) ≡ whole → fold (walked known) r (give (n + 1, x)) ≡ r' → fold (walked known) r' (numbered (n + 1) xs) ≡ whole
  number-goes r r' whole xs n x at e step =
      ap (λ z. fold (walked known) z (numbered (n + 1) xs)) (sym step)
      ∙ sym (walk-append known r (give (n + 1, x)) (numbered (n + 1) xs))
      ∙ ap (fold (walked known) r) (sym (numbered-next xs n x at))
      ∙ e

  pub number-stops : (f : RoundFault) (r whole : RoundResult) (xs : List X) (n : ℕ) (x : X) → slice_get xs n ≡ Some x
      → fold (walked known) r (numbered n xs) ≡ whole → FaultIs f (fold (walked known) r (give (n + 1, x))) → FaultIs f whole
  number-stops f r whole xs n x at e refused =
      subst (FaultIs f) (sym (walk-append known r (give (n + 1, x)) (numbered (n + 1) xs)) ∙ ap (fold (walked known) r) (sym (numbered-next xs n x at)) ∙ e)
      (fault-stays known f (fold (walked known) r (give (n + 1, x))) (numbered (n + 1) xs) refused)

  pub number-ends : (r whole : RoundResult) (xs : List X) (n : ℕ) → length xs ≤ n → fold (walked known) r (numbered n xs) ≡ whole → whole ≡ r
  number-ends r whole xs n h e = sym e ∙ ap (λ ys. fold (walked known) r (flat_map give (enumerate_from (n + 1) ys))) (drop_all n xs h)

-- ## Counts of things that are numbered from 1

pub sum-next : {X : Type 0} (count : ℕ × X → ℕ) (xs : List X) (n : ℕ) (x : X) → slice_get xs n ≡ Some x
    → sum_by count (enumerate_from (n + 1) (drop n xs)) ≡ count (n + 1, x) + sum_by count (enumerate_from (n + 1 + 1) (drop (n + 1) xs))
sum-next count xs n x at =
    ap (λ ys. sum_by count (enumerate_from (n + 1) ys)) (drop_more xs n x (slice_get_within xs n x at))
    ∙ sum_by-cons count (n + 1, get_or xs n x) (enumerate_from (n + 1 + 1) (drop (n + 1) xs))
    ∙ ap (λ y. count (n + 1, y) + sum_by count (enumerate_from (n + 1 + 1) (drop (n + 1) xs))) (get_or_from_slice_get xs n x x at)
