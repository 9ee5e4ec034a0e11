-- What a round found is new.
use Rattle.std.proofs.Common.{◌≡◌, ℕ, List, [], ◌∷◌, ◌++◌, fold, Bool, true, false, ◌||◌, cond, refl, sym, ap, ◌∙◌, subst, append_assoc, append-nil}
use Rattle.std.specs.Prelude.{nat_lt}
use Rattle.od_text.specs.Lists.{Each, EachPoint, points_after}
use Rattle.od_text.proofs.Lists.{EachPoint-snoc, EachPoint-weaker, EachPoint-each}
use Rattle.od_pattern.specs.declared.grammar.Grammar.{Grammar}
use Rattle.od_extraction.specs.declared.mention.Mention.{Mention}
use Rattle.od_extraction.specs.declared.mention.RoundResult.{RoundResult}
use Rattle.od_extraction.specs.declared.mention.RoundResult.TheVariants.{Found, Crowded, TooMany}
use Rattle.od_extraction.specs.Mentions.{is_among, with_new, distinct}
use Rattle.od_extraction.specs.Weight.{weight, most_weight}
use Rattle.od_extraction.proofs.Distinct.{is_among-append, is_among-distinct}
use Rattle.od_matching.specs.Rounds.Laws.{FoundAreDistinct, FoundAreNew}
use Rattle.od_matching.specs.Rounds.Round.{Item, one, crowd, items_in, weighed, walked, round_over}
use Rattle.od_matching.specs.Rounds.Sites.{Site}

-- each mention that was found was neither there before nor found before
abbrev pub EachIsNew : List Mention → RoundResult → Type 0
EachIsNew old (Found new) = EachPoint (λ seen m. is_among (old ++ seen) m ≡ false) new
EachIsNew old (Crowded rule document sentence count) = Unit {0}
EachIsNew old (TooMany total) = Unit {0}

weighed-new : (old new : List Mention) (m : Mention) (total : ℕ) (b : Bool) → is_among (old ++ new) m ≡ false → EachIsNew old (Found new)
    → EachIsNew old (cond b (TooMany total) (Found (new ++ m ∷ [])))
weighed-new old new m total true e h = tt
weighed-new old new m total false e h = EachPoint-snoc (λ seen m. is_among (old ++ seen) m ≡ false) new m h e

one-new : (old new : List Mention) (m : Mention) (b : Bool) → is_among (old ++ new) m ≡ b → EachIsNew old (Found new) → EachIsNew old (cond b (Found new) (weighed old new m))
one-new old new m true e h = h
one-new old new m false e h = weighed-new old new m (weight (old ++ (new ++ m ∷ []))) (nat_lt most_weight (weight (old ++ (new ++ m ∷ [])))) e h

walked-each : (old : List Mention) (r : RoundResult) (x : Item) → EachIsNew old r → EachIsNew old (walked old r x)
walked-each old (Found new) (one m) h = one-new old new m (is_among (old ++ new) m) refl h
walked-each old (Found new) (crowd c) h = tt
walked-each old (Crowded rule document sentence count) x h = tt
walked-each old (TooMany total) x h = tt

all-each : (old : List Mention) (r : RoundResult) (xs : List Item) → EachIsNew old r → EachIsNew old (fold (walked old) r xs)
all-each old r [] h = h
all-each old r (x ∷ xs) h = all-each old (walked old r x) xs (walked-each old r x h)

-- a whole round
pub round-each : (ss : List Site) (g : Grammar) (r : ℕ) (old new : List Mention) → round_over ss g r old ≡ Found new
    → EachPoint (λ seen m. is_among (distinct old ++ seen) m ≡ false) new
unfolding round_over
round-each ss g r old new e = subst (EachIsNew (distinct old)) e (all-each (distinct old) (Found []) (items_in ss g r (distinct old)) tt)

-- ## From this: distinct, and not among the old

not-left : (a b : Bool) → (a || b) ≡ false → a ≡ false
not-left true b e = e
not-left false b e = refl

not-right : (a b : Bool) → (a || b) ≡ false → b ≡ false
not-right true b e = absurd (cc)
not-right false b e = e

-- mentions none of which is among those before it stay as they are
folded : (seen new : List Mention) → Each (λ p. is_among p.0 p.1 ≡ false) (points_after seen new) → fold with_new seen new ≡ seen ++ new
folded seen [] h = sym (append-nil seen)
folded seen (m ∷ new) h =
    ap (λ b. fold with_new (cond b seen (seen ++ m ∷ [])) new) h.0 ∙ folded (seen ++ m ∷ []) new h.1 ∙ append_assoc seen (m ∷ []) new

pub found-distinct : FoundAreDistinct
found-distinct ss g r old new e =
    folded [] new
    (EachPoint-weaker (λ seen m. is_among (distinct old ++ seen) m ≡ false) (λ seen m. is_among seen m ≡ false)
    (λ seen m h. not-right (is_among (distinct old) m) (is_among seen m) (sym (is_among-append (distinct old) seen m) ∙ h)) new (round-each ss g r old new e))

pub found-new : FoundAreNew
found-new ss g r old new e =
    EachPoint-each (λ m. is_among old m ≡ false) new
    (EachPoint-weaker (λ seen m. is_among (distinct old ++ seen) m ≡ false) (λ seen m. is_among old m ≡ false)
    (λ seen m h. sym (is_among-distinct old m) ∙ not-left (is_among (distinct old) m) (is_among seen m) (sym (is_among-append (distinct old) seen m) ∙ h)) new (round-each ss g r old new e))

-- ## Mentions without repeats

-- mentions without repeats, with one more
abbrev IsFresh : List Mention → Type 0
IsFresh ms = EachPoint (λ seen m. is_among seen m ≡ false) ms

fresh-with : (seen : List Mention) (m : Mention) (b : Bool) → is_among seen m ≡ b → IsFresh seen → IsFresh (cond b seen (seen ++ m ∷ []))
fresh-with seen m true e h = h
fresh-with seen m false e h = EachPoint-snoc (λ before m. is_among before m ≡ false) seen m h e

fresh-folded : (seen xs : List Mention) → IsFresh seen → IsFresh (fold with_new seen xs)
fresh-folded seen [] h = h
fresh-folded seen (x ∷ xs) h = fresh-folded (with_new seen x) xs (fresh-with seen x (is_among seen x) refl h)

-- mentions without repeats have none
pub distinct-twice : (ms : List Mention) → distinct (distinct ms) ≡ distinct ms
distinct-twice ms = folded [] (distinct ms) (fresh-folded [] ms tt)
