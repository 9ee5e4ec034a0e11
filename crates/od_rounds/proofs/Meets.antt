-- A round meets a mention, or the mentions of matches.
use Rattle.std.proofs.Common.{◌≡◌, ℕ, ◌+◌, ◌≤◌, ◌<◌, List, [], ◌∷◌, ◌++◌, length, fold, Bool, true, false, cond, ◌||◌, refl, sym, ap, ap₂, ◌∙◌, subst, arith}
use Rattle.std.proofs.lemmas.Bool.{lt-ltb, le-ltb, or_left, or_right}
use Rattle.std.specs.Option.{option_to_list}
use Rattle.std.specs.Prelude.{Some}
use Rattle.od_extraction.specs.declared.mention.Match.{Match}
use Rattle.od_extraction.specs.declared.mention.Mention.{Mention}
use Rattle.od_extraction.specs.declared.mention.RoundResult.{RoundResult}
use Rattle.od_extraction.specs.declared.mention.RoundResult.TheVariants.{Found, TooMany}
use Rattle.od_extraction.specs.Mentions.{is_among, with_new}
use Rattle.od_extraction.specs.Weight.{weight, most_weight}
use Rattle.od_extraction.proofs.Distinct.{is_among-append}
use Rattle.od_matching.specs.Matching.Rules.{mention_at}
use Rattle.od_matching.specs.Rounds.Round.{Item, one, walked}
use Rattle.od_matching.proofs.Rounds.Walks.{walked-known, walked-new, walked-heavy, walk-crowded, walk-too_many}
use Rattle.od_matching.proofs.Rounds.Weights.{weight-append}
use Rattle.od_pattern.specs.declared.rule.Rule.{Rule}
use Rattle.od_rounds.specs.declared.fault.RoundFault.{RoundFault}
use Rattle.od_rounds.specs.declared.fault.RoundFault.TheVariants as fault
use Rattle.od_rounds.specs.Gives.{FaultIs}
use Rattle.od_rounds.specs.Looked.{walk_from, items_made}
use Rattle.od_rounds.specs.Weighed.{heaviest}
use Rattle.std.proofs.lemmas.List.Sums.{sum_by-cons}

-- ## One mention

-- a mention that is known adds nothing
pub meets-known : (known found : List Mention) (m : Mention) → is_among known m ≡ true → walk_from known found (one m ∷ []) ≡ Found found
meets-known known found m e = walked-known known found m (is_among-append known found m ∙ or_left (is_among known m) (is_among found m) e)

meets-found : (known found : List Mention) (m : Mention) → is_among found m ≡ true → walk_from known found (one m ∷ []) ≡ Found found
meets-found known found m e = walked-known known found m (is_among-append known found m ∙ or_right (is_among known m) (is_among found m) e)

not-there : (known found : List Mention) (m : Mention) → is_among known m ≡ false → is_among found m ≡ false → is_among (known ++ found) m ≡ false
not-there known found m e h = is_among-append known found m ∙ ap₂ (λ a b. a || b) e h

light-by : (b : Bool) (known old new : List Mention) (m : Mention) → is_among old m ≡ b → is_among known m ≡ false → new ≡ cond b old (old ++ m ∷ []) → weight known + weight new ≤ most_weight
    → walk_from known old (one m ∷ []) ≡ Found new
light-by true known old new m h e is light = meets-found known old m h ∙ ap Found (sym is)
light-by false known old new m h e is light =
    let small : weight (known ++ (old ++ m ∷ [])) ≤ most_weight = omega (arith, weight-append known (old ++ m ∷ []), ap weight is, light) in
    walked-new known old m (not-there known old m e h) (le-ltb _ _ small) ∙ ap Found (sym is)

-- one that is not known adds itself, where it was not found before
pub meets-light : (known old new : List Mention) (m : Mention) → is_among known m ≡ false → new ≡ with_new old m → weight known + weight new ≤ most_weight
    → walk_from known old (one m ∷ []) ≡ Found new
meets-light known old new m e is light = light-by (is_among old m) known old new m refl e is light

-- mentions among which one is weigh something
some-weigh : (ms : List Mention) (m : Mention) → is_among ms m ≡ true → 1 ≤ weight ms
some-weigh [] m e = absurd (cc)
some-weigh (x ∷ ms) m e = omega (arith, sum_by-cons (λ (y : Mention). 1 + length y.parts) x ms)

heavy-by : (b : Bool) (known old new : List Mention) (m : Mention) → is_among old m ≡ b → is_among known m ≡ false → new ≡ cond b old (old ++ m ∷ []) → weight known + weight old ≤ heaviest known
    → most_weight < weight known + weight new → walk_from known old (one m ∷ []) ≡ TooMany (weight known + weight new)
heavy-by true known old new m h e is light heavy = absurd (omega (arith, ap weight is, light, heavy, some-weigh old m h))
heavy-by false known old new m h e is light heavy =
    let total : weight (known ++ (old ++ m ∷ [])) ≡ weight known + weight new = weight-append known (old ++ m ∷ []) ∙ ap (λ ms. weight known + weight ms) (sym is) in
    let large : most_weight < weight (known ++ (old ++ m ∷ [])) = omega (arith, total, heavy) in
    walked-heavy known old m (not-there known old m e h) (lt-ltb _ _ large) ∙ ap TooMany total

-- unless all weigh too much with it
pub meets-heavy : (known old new : List Mention) (m : Mention) → is_among known m ≡ false → new ≡ with_new old m → weight known + weight old ≤ heaviest known
    → most_weight < weight known + weight new → walk_from known old (one m ∷ []) ≡ TooMany (weight known + weight new)
meets-heavy known old new m e is light heavy = heavy-by (is_among old m) known old new m refl e is light heavy

-- ## What is left

-- a refusal stays
pub fault-stays : (known : List Mention) (f : RoundFault) (r : RoundResult) (rest : List Item) → FaultIs f r → FaultIs f (fold (walked known) r rest)
fault-stays known (fault.Crowded rule document sentence count) r rest is = ap (λ z. fold (walked known) z rest) is ∙ walk-crowded known rule document sentence count rest
fault-stays known (fault.TooMany total) r rest is = ap (λ z. fold (walked known) z rest) is ∙ walk-too_many known total rest
fault-stays known fault.NoMemory r rest is = tt

-- the mention of the next match is met
pub match-goes : (known old new : List Mention) (rule : Rule) (d k : ℕ) (matches rest : List Match) (next : Match) → matches ≡ option_to_list (Some next) ++ rest
    → walk_from known old (one (mention_at rule d k next) ∷ []) ≡ Found new
    → walk_from known old (items_made rule d k matches) ≡ walk_from known new (items_made rule d k rest)
match-goes known old new rule d k matches rest next is step =
    ap (λ ms. walk_from known old (items_made rule d k ms)) is ∙ ap (λ r. fold (walked known) r (items_made rule d k rest)) step

-- it is refused
pub match-stops : (known old : List Mention) (f : RoundFault) (rule : Rule) (d k : ℕ) (matches rest : List Match) (next : Match) → matches ≡ option_to_list (Some next) ++ rest
    → FaultIs f (walk_from known old (one (mention_at rule d k next) ∷ [])) → FaultIs f (walk_from known old (items_made rule d k matches))
match-stops known old f rule d k matches rest next is step =
    subst (λ ms. FaultIs f (walk_from known old (items_made rule d k ms))) (sym is)
    (fault-stays known f (walk_from known old (one (mention_at rule d k next) ∷ [])) (items_made rule d k rest) step)
