-- A round meets mentions with repeats, which add nothing.
use Rattle.std.proofs.Common.{◌≡◌, ℕ, List, [], ◌∷◌, ◌++◌, map, fold, Bool, true, false, cond, inl, inr, refl, sym, ap, ◌∙◌, subst, append_assoc}
use Rattle.std.proofs.lemmas.Bool.{or_left, or_right, or_cases}
use Rattle.std.proofs.lemmas.List.{map-append}
use Rattle.std.specs.Prelude.{nat_lt}
use Rattle.od_extraction.specs.declared.mention.Mention.{Mention}
use Rattle.od_extraction.specs.declared.mention.RoundResult.{RoundResult}
use Rattle.od_extraction.specs.declared.mention.RoundResult.TheVariants.{Found, Crowded, TooMany}
use Rattle.od_extraction.specs.Mentions.{same_mention, is_among, with_new, distinct}
use Rattle.od_extraction.specs.Weight.{weight, most_weight}
use Rattle.od_extraction.proofs.Distinct.{is_among-append}
use Rattle.od_extraction.proofs.Sameness.{mention-Decides}
use Rattle.od_matching.specs.Rounds.Round.{one, walked, weighed}
use Rattle.od_matching.proofs.Rounds.Walks.{walked-known, walk-append}
use Rattle.od_pattern.specs.declared.rule.Body.{Body}
use Rattle.od_pattern.specs.declared.rule.Body.TheVariants.{Basic, Event}
use Rattle.od_rule.specs.Finding.{made}

-- the mention was known or has been found, or the round is refused
abbrev Has : List Mention → Mention → RoundResult → Type 0
Has known m (Found found) = is_among (known ++ found) m ≡ true
Has known m (Crowded rule document sentence count) = Unit {0}
Has known m (TooMany total) = Unit {0}

-- then it adds nothing
adds-nothing : (known : List Mention) (m : Mention) (r : RoundResult) → Has known m r → walked known r (one m) ≡ r
adds-nothing known m (Found found) h = walked-known known found m h
adds-nothing known m (Crowded rule document sentence count) h = refl
adds-nothing known m (TooMany total) h = refl

among-more : (known found : List Mention) (m n : Mention) → is_among (known ++ found) m ≡ true → is_among (known ++ (found ++ n ∷ [])) m ≡ true
among-more known found m n h =
    ap (λ ms. is_among ms m) (sym (append_assoc known found (n ∷ [])))
    ∙ is_among-append (known ++ found) (n ∷ []) m
    ∙ or_left (is_among (known ++ found) m) (is_among (n ∷ []) m) h

-- it stays there, whatever is met
weighed-has : (known found : List Mention) (m n : Mention) (total : ℕ) (b : Bool) → is_among (known ++ found) m ≡ true → Has known m (cond b (TooMany total) (Found (found ++ n ∷ [])))
weighed-has known found m n total true h = tt
weighed-has known found m n total false h = among-more known found m n h

one-has : (known found : List Mention) (m n : Mention) (b : Bool) → is_among (known ++ found) m ≡ true → Has known m (cond b (Found found) (weighed known found n))
one-has known found m n true h = h
one-has known found m n false h = weighed-has known found m n (weight (known ++ (found ++ n ∷ []))) (nat_lt most_weight (weight (known ++ (found ++ n ∷ [])))) h

stays-there : (known : List Mention) (m n : Mention) (r : RoundResult) → Has known m r → Has known m (walked known r (one n))
stays-there known m n (Found found) h = one-has known found m n (is_among (known ++ found) n) h
stays-there known m n (Crowded rule document sentence count) h = tt
stays-there known m n (TooMany total) h = tt

stay-there : (known : List Mention) (m : Mention) (ns : List Mention) (r : RoundResult) → Has known m r → Has known m (fold (walked known) r (map one ns))
stay-there known m [] r h = h
stay-there known m (n ∷ ns) r h = stay-there known m ns (walked known r (one n)) (stays-there known m n r h)

-- it is there once it is met
same-itself : (m : Mention) → same_mention m m ≡ true
same-itself m = (mention-Decides m m).1 refl

among-last : (known found : List Mention) (m : Mention) → is_among (known ++ (found ++ m ∷ [])) m ≡ true
among-last known found m =
    ap (λ ms. is_among ms m) (sym (append_assoc known found (m ∷ [])))
    ∙ is_among-append (known ++ found) (m ∷ []) m
    ∙ or_right (is_among (known ++ found) m) (is_among (m ∷ []) m) (or_left (same_mention m m) false (same-itself m))

weighed-there : (known found : List Mention) (m : Mention) (total : ℕ) (b : Bool) → Has known m (cond b (TooMany total) (Found (found ++ m ∷ [])))
weighed-there known found m total true = tt
weighed-there known found m total false = among-last known found m

one-there : (known found : List Mention) (m : Mention) (b : Bool) → is_among (known ++ found) m ≡ b → Has known m (cond b (Found found) (weighed known found m))
one-there known found m true e = e
one-there known found m false e = weighed-there known found m (weight (known ++ (found ++ m ∷ []))) (nat_lt most_weight (weight (known ++ (found ++ m ∷ []))))

is-there : (known : List Mention) (m : Mention) (r : RoundResult) → Has known m (walked known r (one m))
is-there known m (Found found) = one-there known found m (is_among (known ++ found) m) refl
is-there known m (Crowded rule document sentence count) = tt
is-there known m (TooMany total) = tt

-- so is one that was among those that were met
were-there : (known : List Mention) (m : Mention) (ns : List Mention) (r : RoundResult) → is_among ns m ≡ true → Has known m (fold (walked known) r (map one ns))
were-there known m [] r h = absurd (let q : false ≡ true = h in cc)
were-there known m (n ∷ ns) r h =
    elim (or_cases (same_mention m n) (is_among ns m) h) [
      | inl here ↦ stay-there known m ns (walked known r (one n)) (subst (λ x. Has known m (walked known r (one x))) ((mention-Decides m n).0 here) (is-there known m r))
      | inr there ↦ were-there known m ns (walked known r (one n)) there
    ]

-- ## Mentions without repeats lead to where those with repeats do

next-by : (known : List Mention) (r : RoundResult) (seen : List Mention) (m : Mention) (b : Bool) → is_among seen m ≡ b
    → fold (walked known) r (map one (cond b seen (seen ++ m ∷ []))) ≡ walked known (fold (walked known) r (map one seen)) (one m)
next-by known r seen m true e = sym (adds-nothing known m (fold (walked known) r (map one seen)) (were-there known m seen r e))
next-by known r seen m false e =
    ap (fold (walked known) r) (map-append one seen (m ∷ [])) ∙ walk-append known r (map one seen) (one m ∷ [])

folded : (known : List Mention) (r : RoundResult) (seen ms : List Mention)
    → fold (walked known) r (map one (fold with_new seen ms)) ≡ fold (walked known) (fold (walked known) r (map one seen)) (map one ms)
folded known r seen [] = refl
folded known r seen (m ∷ ms) =
    folded known r (with_new seen m) ms
    ∙ ap (λ z. fold (walked known) z (map one ms)) (next-by known r seen m (is_among seen m) refl)

pub walk-distinct : (known : List Mention) (r : RoundResult) (ms : List Mention) → fold (walked known) r (map one (distinct ms)) ≡ fold (walked known) r (map one ms)
walk-distinct known r ms = folded known r [] ms

-- so do the mentions that a body makes of its matches
pub walk-made : (known : List Mention) (r : RoundResult) (body : Body) (ms : List Mention) → fold (walked known) r (map one (made body ms)) ≡ fold (walked known) r (map one ms)
walk-made known r (Basic h) ms = walk-distinct known r ms
walk-made known r (Event e) ms = refl
