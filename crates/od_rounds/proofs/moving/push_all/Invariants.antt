-- The mentions that are left lead to where all of them do.
use Rattle.std.proofs.Common.{◌≡◌, ◌+◌, ◌≤◌, ◌<◌, ◌^◌, length, take, fold}
use Rattle.std.specs.Vec.Iter.{into_iter_items}
use Rattle.od_extraction.specs.Mentions.{with_new}
use Rattle.od_extraction.specs.Weight.{weight}
use Rattle.od_rounds.proofs.moving.push_all.Given as goal

abbrev pub invariant-loop-mention : goal.invariant-loop-mention
invariant-loop-mention l =
    (goal.iterator-loop-mention).can_next l.mention-iterator
    × (goal.iterator-loop-mention).is_finite l.mention-iterator
    × (weight l.known + weight (into_iter_items l.mention-iterator) < 2 ^ 64)
    × (fold with_new l.known (into_iter_items l.mention-iterator) ≡ fold with_new l.initial.known l.fn.mentions.items)
    × (length l.initial.known ≤ length l.known)
    × (take (length l.initial.known) l.known ≡ l.initial.known)
