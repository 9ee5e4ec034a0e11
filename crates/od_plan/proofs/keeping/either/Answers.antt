use Rattle.std.proofs.Common.{◌≤◌, ◌++◌, ℕ, List, length, drop, sym, ap, ◌∙◌, append_assoc, arith, inl, inr}
use Rattle.std.specs.Prelude.{◌⊎◌}
use Rattle.od_plan.proofs.Filters.{merged-end, rest-whole}
use Rattle.od_plan.proofs.keeping.either.Goals.{then-loop-i-test+else-j-right, else-loop-i-test}
use Rattle.od_plan.proofs.keeping.either.Goals as goal

pub returns : goal.returns
returns c =
    let left = c.args.left.now in
    let right = c.args.right.now in
    let ended : (length left ≤ c.loop-i.i) ⊎ (length right ≤ c.loop-i.j) = elim c.loop-i-test.branch [
      | then-loop-i-test+else-j-right w ↦ inr (omega (arith, w.if-j-right.false))
      | else-loop-i-test w ↦ inl (omega (arith, w.loop-i-test.false))
    ] in
    c.in_ok-extend_from_slice-2.ensures.items
    ∙ ap (λ (xs : List ℕ). c.extend_from_slice.new.self.items ++ xs) (rest-whole right c.loop-i.j c.loop-i.invariant.in_right)
    ∙ ap (λ (xs : List ℕ). xs ++ drop c.loop-i.j right) (c.in_ok-extend_from_slice.ensures.items ∙ ap (λ (xs : List ℕ). c.loop-i.both.items ++ xs) (rest-whole left c.loop-i.i c.loop-i.invariant.in_left))
    ∙ append_assoc c.loop-i.both.items (drop c.loop-i.i left) (drop c.loop-i.j right)
    ∙ ap (λ (xs : List ℕ). c.loop-i.both.items ++ xs) (sym (merged-end left right c.loop-i.i c.loop-i.j ended))
    ∙ c.loop-i.invariant.walked
