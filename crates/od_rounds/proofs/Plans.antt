-- The plans of rules, one after another.
use Rattle.std.proofs.Common.{◌≡◌, ℕ, zero, suc, ◌<◌, ◌+◌, List, [], ◌∷◌, ◌++◌, length, Result, Ok, Err, refl, sym, ap, ◌∙◌, subst, inl, inr, arith, length-append}
use Rattle.std.specs.Prelude.{◌⊎◌, IfOk, Option, Some, None, slice_get, Contains}
use Rattle.std.proofs.lemmas.Option.{slice_get_within}
use Rattle.od_asked.specs.Asked.{asked_rule}
use Rattle.od_asked.specs.Expressions.{expressions_of}
use Rattle.od_constraint.specs.Runners.{patterns_of, HaveAll}
use Rattle.od_index.proofs.Members.{Each-in}
use Rattle.od_index.specs.Segments.{Stored}
use Rattle.od_need.specs.Expressions.{expressions_needed}
use Rattle.od_need.specs.Needs.{need_of}
use Rattle.od_need.specs.declared.need.Need.{Need}
use Rattle.od_need.proofs.Expressions.{expressions_asked}
use Rattle.od_pattern.specs.declared.rule.Rule.{Rule}
use Rattle.od_plan.specs.Chosen.{AreMeant}
use Rattle.od_plan.specs.declared.wanted.Wanted.{Wanted}
use Rattle.od_text.specs.Lists.{Each}
use Rattle.od_text.proofs.Lists.{Each-weaker}
use Rattle.od_rounds.specs.Planned.{IsPlan, ArePlans}

-- what means the need of a rule is its plan
pub plan-is : {E : Type 0} (segments : List Stored) (rule : Rule) (need : Need) (r : Result (List Wanted) E) → need ≡ need_of rule
    → IfOk r (λ plan. length plan ≡ length segments) → IfOk r (AreMeant need segments) → IfOk r (IsPlan segments rule)
plan-is segments rule need (Ok plan) same each meant = record { each = each; meant = subst (λ (n : Need). AreMeant n segments plan) same meant }
plan-is segments rule need (Err e) same each meant = tt

-- runners of what a rule asks are runners of what it needs
pub need-runs : {R : Type 0} (pairs : List (List ℕ × R)) (rule : Rule) (need : Need) → need ≡ need_of rule → HaveAll pairs (expressions_of (asked_rule rule)) → HaveAll pairs (expressions_needed need)
need-runs pairs rule need same has =
    subst (λ (n : Need). HaveAll pairs (expressions_needed n)) (sym same)
    (Each-weaker (Contains (expressions_of (asked_rule rule))) (Contains (patterns_of pairs))
    (λ x there. Each-in (Contains (patterns_of pairs)) (expressions_of (asked_rule rule)) x has there) (expressions_needed (need_of rule)) (expressions_asked rule))

-- what stands at a place of a list with one element more
more-cases : {X : Type 0} (xs : List X) (x : X) (k : ℕ) (v : X) → slice_get (xs ++ x ∷ []) k ≡ Some v → (slice_get xs k ≡ Some v) ⊎ ((k ≡ length xs) × (x ≡ v))
more-cases [] x zero v e = inr (refl, (let p : Some x ≡ Some v = e in cc))
more-cases {X} [] x (suc k) v e = absurd (let q : ◌≡◌ {A = Option X} None (Some v) = e in cc)
more-cases (y ∷ xs) x zero v e = inl e
more-cases (y ∷ xs) x (suc k) v e = elim (more-cases xs x k v e) [
  | inl h ↦ inl h
  | inr h ↦ inr (ap suc h.0, h.1)
]

-- one rule more with its plan
pub plans-more : (segments : List Stored) (rules : List Rule) (plans : List (List Wanted)) (rule : Rule) (plan : List Wanted) → ArePlans segments rules plans → IsPlan segments rule plan
    → ArePlans segments (rules ++ rule ∷ []) (plans ++ plan ∷ [])
plans-more segments rules plans rule plan are is = record {
  each = omega (arith, are.each, length-append rules (rule ∷ []), length-append plans (plan ∷ []));
  plan = λ k r ws at got. elim (more-cases rules rule k r at) [
    | inl front ↦ elim (more-cases plans plan k ws got) [
      | inl h ↦ are.plan k r ws front h
      | inr h ↦ absurd (let within = slice_get_within rules k r front in omega (arith, within, h.0, are.each))
    ]
    | inr last ↦ elim (more-cases plans plan k ws got) [
      | inl h ↦ absurd (let within = slice_get_within plans k ws h in omega (arith, within, last.0, are.each))
      | inr h ↦ subst (λ (x : Rule). IsPlan segments x ws) last.1 (subst (λ (x : List Wanted). IsPlan segments rule x) h.1 is)
    ]
  ];
}
