-- What is left is no larger than the whole, and begins with the same part.
use Rattle.std.proofs.Common.{◌≡◌, ◌++◌, ◌∷◌, [], slice_get, ◌+◌, ◌*◌, ◌≤◌}
use Rattle.od_need.specs.Sizes.{need_size, sizes}
use Rattle.od_need.proofs.need.+need.Given as goal

abbrev pub decreases-Need::drop : goal.decreases-Need::drop
decreases-Need::drop l = 2 * need_size l.self

abbrev pub decreases-first_left : goal.decreases-first_left
decreases-first_left l = 2 * sizes l.parts + 1

abbrev pub invariant-Need::drop-loop-self : goal.invariant-Need::drop-loop-self
invariant-Need::drop-loop-self l = need_size l.self ≤ need_size l.initial.self

abbrev pub invariant-first_left-loop-part : goal.invariant-first_left-loop-part
invariant-first_left-loop-part l = record {
  first : slice_get (l.parts.items ++ l.first ∷ []) 0 ≡ slice_get l.fn.parts 0;
  less : sizes (l.parts.items ++ l.first ∷ []) ≤ sizes l.fn.parts;
}

abbrev pub decreases-first_left-loop-part : goal.decreases-first_left-loop-part
decreases-first_left-loop-part l = goal.left-first_left-loop-part l

abbrev pub decreases-Need::drop-loop-self : goal.decreases-Need::drop-loop-self
decreases-Need::drop-loop-self l = need_size l.self
