-- How a round walks over what it meets.
use Rattle.std.proofs.Common.{◌≡◌, ℕ, List, [], ◌∷◌, ◌++◌, fold, Bool, true, false, cond, refl, sym, ap, ◌∙◌, subst, append_assoc, append-nil}
use Rattle.std.specs.Prelude.{nat_lt}
use Rattle.std.proofs.lemmas.List.Sums.{fold-append}
use Rattle.std.proofs.lemmas.List.Folds.{fold_stays}
use Rattle.od_document.specs.declared.doc.Doc.{Doc}
use Rattle.od_pattern.specs.declared.grammar.Grammar.{Grammar}
use Rattle.od_extraction.specs.declared.mention.Mention.{Mention}
use Rattle.od_extraction.specs.declared.mention.RoundResult.{RoundResult}
use Rattle.od_extraction.specs.declared.mention.RoundResult.TheVariants.{Found, Crowded, TooMany}
use Rattle.od_extraction.specs.Mentions.{is_among, with_new, distinct}
use Rattle.od_extraction.specs.Weight.{weight, most_weight}
use Rattle.od_matching.specs.Rounds.Sites.{Site, sites}
use Rattle.od_matching.specs.Rounds.Round.{Item, one, crowd, items_in, weighed, walked, walk, round_over, round}

-- the walk goes on from what it has found
pub walk-append : (old : List Mention) (r : RoundResult) (xs ys : List Item) → fold (walked old) r (xs ++ ys) ≡ fold (walked old) (fold (walked old) r xs) ys
walk-append old r xs ys = fold-append (walked old) r xs ys

-- too many stay too many
pub walk-too_many : (old : List Mention) (total : ℕ) (xs : List Item) → fold (walked old) (TooMany total) xs ≡ TooMany total
walk-too_many old total xs = fold_stays (walked old) (TooMany total) (λ x. refl) xs

-- a crowd stays a crowd
pub walk-crowded : (old : List Mention) (rule document sentence count : ℕ) (xs : List Item)
    → fold (walked old) (Crowded rule document sentence count) xs ≡ Crowded rule document sentence count
walk-crowded old rule document sentence count xs = fold_stays (walked old) (Crowded rule document sentence count) (λ x. refl) xs

-- against mentions without repeats the round is the walk
pub round-walks : (docs : List Doc) (g : Grammar) (r : ℕ) (old : List Mention) → distinct old ≡ old → round docs g r old ≡ walk docs g r old
unfolding round_over
round-walks docs g r old e = ap (walk docs g r) e

-- a mention that is there already adds nothing
pub walked-known : (old new : List Mention) (m : Mention) → is_among (old ++ new) m ≡ true → walked old (Found new) (one m) ≡ Found new
walked-known old new m e = ap (λ b. cond b (Found new) (weighed old new m)) e

-- a mention that is not there is weighed
walked-fresh : (old new : List Mention) (m : Mention) → is_among (old ++ new) m ≡ false → walked old (Found new) (one m) ≡ weighed old new m
walked-fresh old new m e = ap (λ b. cond b (Found new) (weighed old new m)) e

-- a mention that is not there is added, unless the mentions weigh too much with it
pub walked-new : (old new : List Mention) (m : Mention) → is_among (old ++ new) m ≡ false → nat_lt most_weight (weight (old ++ (new ++ m ∷ []))) ≡ false
    → walked old (Found new) (one m) ≡ Found (new ++ m ∷ [])
walked-new old new m e h = walked-fresh old new m e ∙ ap (λ b. cond b (TooMany (weight (old ++ (new ++ m ∷ [])))) (Found (new ++ m ∷ []))) h

-- with such a mention the round is refused where the mentions weigh too much
pub walked-heavy : (old new : List Mention) (m : Mention) → is_among (old ++ new) m ≡ false → nat_lt most_weight (weight (old ++ (new ++ m ∷ []))) ≡ true
    → walked old (Found new) (one m) ≡ TooMany (weight (old ++ (new ++ m ∷ [])))
walked-heavy old new m e h = walked-fresh old new m e ∙ ap (λ b. cond b (TooMany (weight (old ++ (new ++ m ∷ [])))) (Found (new ++ m ∷ []))) h

-- ## What is found is new

-- what is found so far was not there, and has no repeats
abbrev pub IsNew : List Mention → RoundResult → Type 0
IsNew old (Found new) = fold with_new old new ≡ old ++ new
IsNew old (Crowded rule document sentence count) = Unit {0}
IsNew old (TooMany total) = Unit {0}

-- one that is weighed
new-weighed : (old new : List Mention) (m : Mention) (total : ℕ) (b : Bool) → is_among (old ++ new) m ≡ false → fold with_new old new ≡ old ++ new
    → IsNew old (cond b (TooMany total) (Found (new ++ m ∷ [])))
new-weighed old new m total true e h = tt
new-weighed old new m total false e h =
    fold-append with_new old new (m ∷ []) ∙ ap (λ l. with_new l m) h ∙ ap (λ b. cond b (old ++ new) ((old ++ new) ++ m ∷ [])) e ∙ append_assoc old new (m ∷ [])

-- one mention more
new-one : (old new : List Mention) (m : Mention) (b : Bool) → is_among (old ++ new) m ≡ b → fold with_new old new ≡ old ++ new → IsNew old (cond b (Found new) (weighed old new m))
new-one old new m true e h = h
new-one old new m false e h = new-weighed old new m (weight (old ++ (new ++ m ∷ []))) (nat_lt most_weight (weight (old ++ (new ++ m ∷ [])))) e h

-- one item more
new-walked : (old : List Mention) (r : RoundResult) (x : Item) → IsNew old r → IsNew old (walked old r x)
new-walked old (Found new) (one m) h = new-one old new m (is_among (old ++ new) m) refl h
new-walked old (Found new) (crowd c) h = tt
new-walked old (Crowded rule document sentence count) x h = tt
new-walked old (TooMany total) x h = tt

-- all items
new-all : (old : List Mention) (r : RoundResult) (xs : List Item) → IsNew old r → IsNew old (fold (walked old) r xs)
new-all old r [] h = h
new-all old r (x ∷ xs) h = new-all old (walked old r x) xs (new-walked old r x h)

-- a whole round
round-new : (ss : List Site) (g : Grammar) (r : ℕ) (old : List Mention) → IsNew (distinct old) (round_over ss g r old)
unfolding round_over
round-new ss g r old = new-all (distinct old) (Found []) (items_in ss g r (distinct old)) (sym (append-nil (distinct old)))

-- the mentions after a round without repeats are the old ones without repeats, and those that it found
pub distinct-after : (ss : List Site) (g : Grammar) (r : ℕ) (old new : List Mention) → round_over ss g r old ≡ Found new → distinct (old ++ new) ≡ distinct old ++ new
distinct-after ss g r old new e = fold-append with_new [] old new ∙ subst (IsNew (distinct old)) e (round-new ss g r old)

-- the same over documents
pub distinct-found : (docs : List Doc) (g : Grammar) (r : ℕ) (old new : List Mention) → round docs g r old ≡ Found new → distinct (old ++ new) ≡ distinct old ++ new
distinct-found docs g r old new e = distinct-after (sites docs) g r old new e

-- mentions without repeats stay so
pub distinct-stays : (docs : List Doc) (g : Grammar) (r : ℕ) (old new : List Mention) → distinct old ≡ old → round docs g r old ≡ Found new
    → distinct (old ++ new) ≡ old ++ new
distinct-stays docs g r old new d e = distinct-found docs g r old new e ∙ ap (λ l. l ++ new) d
