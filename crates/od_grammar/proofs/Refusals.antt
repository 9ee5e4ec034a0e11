-- Which expression a refusal tells.
use Rattle.std.proofs.Common.{◌≡◌, inl, inr, ℕ, ◌+◌, ◌<◌, List, [], ◌∷◌, ◌++◌, length, take, drop, get_or, Some, false, refl, sym, ap, ◌∙◌, subst, bytes_eq, arith}
use Rattle.std.specs.Prelude.{◌||◌, not, if◌then◌else◌}
use Rattle.std.proofs.Math.ListN.{drop_of_length-le}
use Rattle.std.proofs.lemmas.List.{drop_at, drop_more, length-take, length-map, map-append, take-append-drop}
use Rattle.od_rule_text.specs.declared.grammar_fault.GrammarFault.{GrammarFault}
use Rattle.od_rule_text.specs.declared.grammar_fault.GrammarFault.TheVariants.{RegexRefused}
use Rattle.od_session.specs.Grammars.{RefusedAsTold}
use Rattle.od_rule_text.specs.Expressions.{Appearance}
use Rattle.od_rule_text.specs.Grammars.{refusal}
use Rattle.od_rule_text.specs.Texts.{is_among}
use Rattle.od_grammar.specs.declared.expressions.Use.{Use}
use Rattle.od_grammar.specs.Faults.{accepts_all_but, refused_since}
use Rattle.od_grammar.specs.Uses.{AreNew, use_of, uses}
use Rattle.od_grammar.proofs.Among.{neither, own_text, other_text, among_more}

-- an expression behind others is none of those seen
not_seen : (seen : List (List ℕ)) (before : List Appearance) (a : Appearance) (behind : List Appearance) → AreNew seen (before ++ a ∷ behind) → is_among seen a.expression ≡ false
not_seen seen [] a behind new = new.0
not_seen seen (b ∷ before) a behind new =
    (neither (is_among seen a.expression) (bytes_eq b.expression a.expression)
    (sym (among_more seen b.expression a.expression) ∙ not_seen (seen ++ b.expression ∷ []) before a behind new.1)).0

-- and not the one before it
not_first : (seen : List (List ℕ)) (b : Appearance) (before : List Appearance) (a : Appearance) (behind : List Appearance) → AreNew seen (b ∷ before ++ a ∷ behind)
    → bytes_eq a.expression b.expression ≡ false
not_first seen b before a behind new =
    other_text a.expression b.expression
    (neither (is_among seen a.expression) (bytes_eq b.expression a.expression)
    (sym (among_more seen b.expression a.expression) ∙ not_seen (seen ++ b.expression ∷ []) before a behind new.1)).1

-- where one expression alone is not accepted, it is told
refused_at : (seen : List (List ℕ)) (n : ℕ) (before : List Appearance) (a : Appearance) (behind : List Appearance) → AreNew seen (before ++ a ∷ behind)
    → refusal (accepts_all_but (a.expression ∷ [])) n (before ++ a ∷ behind) ≡ Some (RegexRefused a.rule (n + length before))
refused_at seen n [] a behind new =
    let number : n ≡ n + 0 = omega arith in
    ap (λ b. if not (b || false) then refusal (accepts_all_but (a.expression ∷ [])) (n + 1) behind else Some (RegexRefused a.rule n)) (own_text a.expression)
    ∙ ap (λ k. Some (RegexRefused a.rule k)) number
refused_at seen n (b ∷ before) a behind new =
    let number : n + 1 + length before ≡ n + length (b ∷ before) = omega arith in
    ap (λ t. if not (t || false) then refusal (accepts_all_but (a.expression ∷ [])) (n + 1) (before ++ a ∷ behind) else Some (RegexRefused b.rule n))
    (not_first seen b before a behind new)
    ∙ refused_at (seen ++ b.expression ∷ []) (n + 1) before a behind new.1
    ∙ ap (λ k. Some (RegexRefused a.rule k)) number

-- what is found, around a place
parts : (found : List Use) (i : ℕ) (one : Use) → i < length found → one ≡ get_or found i one → uses found ≡ uses (take i found) ++ use_of one ∷ uses (drop (i + 1) found)
parts found i one lt e =
    ap uses (sym (take-append-drop i found) ∙ ap (λ (z : List Use). take i found ++ z) (drop_more found i one lt ∙ ap (λ (z : Use). z ∷ drop (i + 1) found) (sym e)))
    ∙ map-append use_of (take i found) (one ∷ drop (i + 1) found)

-- what a maker refused in a call that refused one expression
pub since_one : (before after : List (List ℕ)) (expression : List ℕ) → after ≡ before ++ expression ∷ [] → refused_since before after ≡ expression ∷ []
since_one before after expression more = ap (drop (length before)) more ∙ drop_at before (expression ∷ []) (length before) refl

-- and in one that refused none
pub since_none : (before after : List (List ℕ)) → after ≡ before → refused_since before after ≡ []
since_none before after same = ap (drop (length before)) same ∙ drop_of_length-le before (omega arith)

pub told_none : (f : GrammarFault) (before after : List (List ℕ)) → after ≡ before → RefusedAsTold f (refused_since before after)
told_none f before after same = inl (since_none before after same)

pub told_one : (rule number : ℕ) (before after : List (List ℕ)) (expression : List ℕ) → after ≡ before ++ expression ∷ [] → RefusedAsTold (RegexRefused rule number) (refused_since before after)
told_one rule number before after expression more = inr (expression, since_one before after expression more, tt)

-- one refusal more
pub told_refusal : (found : List Use) (i made : ℕ) (one : Use) (before after : List (List ℕ)) → AreNew [] (uses found) → i < length found → one ≡ get_or found i one → made ≡ i
    → after ≡ before ++ one.expression.now ∷ []
    → refusal (accepts_all_but (refused_since before after)) 1 (uses found) ≡ Some (RegexRefused one.rule (made + 1))
told_refusal found i made one before after new lt e at more =
    let since = since_one before after one.expression.now more in
    let is = parts found i one lt e in
    let long : length (uses (take i found)) ≡ length (take i found) = length-map (take i found) use_of in
    let number : 1 + length (uses (take i found)) ≡ made + 1 = omega (arith, long, length-take i found) in
    ap (λ (z : List (List ℕ)). refusal (accepts_all_but z) 1 (uses found)) since
    ∙ ap (refusal (accepts_all_but (one.expression.now ∷ [])) 1) is
    ∙ refused_at [] 1 (uses (take i found)) (use_of one) (uses (drop (i + 1) found)) (subst (AreNew []) is new)
    ∙ ap (λ k. Some (RegexRefused one.rule k)) number
