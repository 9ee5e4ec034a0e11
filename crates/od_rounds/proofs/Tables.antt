-- What rules ask, over the tables of segments.
use Rattle.std.proofs.Common.{◌≡◌, ℕ, ◌+◌, ◌<◌, List, [], ◌∷◌, ◌++◌, length, take, refl, sym, ap, ap₂, ◌∙◌, arith}
use Rattle.std.proofs.lemmas.List.{length-map}
use Rattle.std.proofs.lemmas.Option.{slice_get-map}
use Rattle.std.specs.Prelude.{Option, Some, None, IsSome, IsSomeAnd, slice_get, option_map}
use Rattle.od_asked.specs.Asked.{asked_rule}
use Rattle.od_columns.specs.Resolved.{AskingAll}
use Rattle.od_index.specs.Segments.{Stored}
use Rattle.od_index.specs.Terms.{Term}
use Rattle.od_index.specs.Views.{site_at}
use Rattle.od_pattern.specs.declared.rule.Rule.{Rule}
use Rattle.od_segment.proofs.Seeing.{segment-there}
use Rattle.od_rounds.specs.Resolved.{resolved_on, resolved_over}
use Rattle.od_rounds.proofs.Lists.{made-more}

-- where there is a sentence, the rule was resolved
pub resolved-there : (rule : Rule) (segments : List Stored) (vs : List AskingAll) (n i : ℕ) → vs ≡ resolved_over segments rule → IsSome (site_at segments (n, i)) → n < length vs
resolved-there rule segments vs n i is there = omega (arith, segment-there 0 segments n i there, ap length is ∙ length-map segments (resolved_on rule))

asked-by : (rule : Rule) (o : Option Stored) (v : AskingAll) (table : List Term) → Some v ≡ option_map (resolved_on rule) o → IsSomeAnd o (λ s. s.table ≡ table)
    → (v.asked ≡ asked_rule rule) × (v.table ≡ table)
asked-by rule None v table e h = absurd h
asked-by rule (Some s) v table e h =
    let same : v ≡ resolved_on rule s = cc in
    (ap (λ (a : AskingAll). a.asked) same, ap (λ (a : AskingAll). a.table) same ∙ h)

-- what was resolved over the table of a segment
pub asked-there : (rule : Rule) (segments : List Stored) (vs : List AskingAll) (n : ℕ) (v : AskingAll) (table : List Term) → vs ≡ resolved_over segments rule → slice_get vs n ≡ Some v
    → IsSomeAnd (slice_get segments n) (λ s. s.table ≡ table) → (v.asked ≡ asked_rule rule) × (v.table ≡ table)
asked-there rule segments vs n v table is at h =
    asked-by rule (slice_get segments n) v table (sym at ∙ ap (λ zs. slice_get zs n) is ∙ slice_get-map (resolved_on rule) segments n) h

more-by : (rule : Rule) (segments : List Stored) (n : ℕ) (o : Option Stored) (vs more : List AskingAll) (v : AskingAll) (table : List Term) → slice_get segments n ≡ o
    → IsSomeAnd o (λ s. s.table ≡ table) → v.asked ≡ asked_rule rule → v.table ≡ table → vs ≡ resolved_over (take n segments) rule → more ≡ vs ++ v ∷ []
    → more ≡ resolved_over (take (n + 1) segments) rule
more-by rule segments n None vs more v table at h asked over before is = absurd h
more-by rule segments n (Some s) vs more v table at h asked over before is =
    let same : v ≡ resolved_on rule s = ap₂ (λ a t. record { asked = a; table = t }) asked (over ∙ sym h) in
    made-more (resolved_on rule) segments n s v vs more at same before is

-- one segment more
pub resolved-more : (rule : Rule) (segments : List Stored) (n : ℕ) (vs more : List AskingAll) (v : AskingAll) (table : List Term)
    → IsSomeAnd (slice_get segments n) (λ s. s.table ≡ table) → v.asked ≡ asked_rule rule → v.table ≡ table → vs ≡ resolved_over (take n segments) rule → more ≡ vs ++ v ∷ []
    → more ≡ resolved_over (take (n + 1) segments) rule
resolved-more rule segments n vs more v table h asked over before is = more-by rule segments n (slice_get segments n) vs more v table refl h asked over before is
