use Rattle.std.proofs.Common.{◌≡◌, ◌≤◌, ◌++◌, ◌∷◌, [], suc, arith, ap, sym, ◌∙◌}
use Rattle.od_need.specs.Sizes.{need_size, sizes}
use Rattle.od_need.proofs.Sizes.{size_found, sizes_more, several, same_front}
use Rattle.od_need.proofs.need.+need.Goals as goal

pub Need::drop-first_left-requires : goal.Need::drop-first_left-requires
Need::drop-first_left-requires t c =
    let whole : need_size c.loop-self.self ≡ suc (sizes c.in-And.parts) = several c.loop-self.self c.in-And.parts c.in-And.is in
    (omega (arith, whole, c.decreases, c.loop-self.invariant), tt)

pub Need::drop-loop-self-smaller : goal.Need::drop-loop-self-smaller
Need::drop-loop-self-smaller t c =
    let whole : need_size c.loop-self.self ≡ suc (sizes c.in-And.parts) = several c.loop-self.self c.in-And.parts c.in-And.is in
    let part : need_size c.in-Some.first ≤ sizes c.in-And.parts =
    size_found c.in-And.parts 0 c.in-Some.first (sym c.first_left.ensures ∙ c.in-Some.is) in
    omega (arith, whole, part)

pub Need::drop-loop-self-preserved : goal.Need::drop-loop-self-preserved
Need::drop-loop-self-preserved t c =
    let whole : need_size c.loop-self.self ≡ suc (sizes c.in-And.parts) = several c.loop-self.self c.in-And.parts c.in-And.is in
    let part : need_size c.in-Some.first ≤ sizes c.in-And.parts =
    size_found c.in-And.parts 0 c.in-Some.first (sym c.first_left.ensures ∙ c.in-Some.is) in
    omega (arith, whole, part, c.loop-self.invariant)

pub first_left-drop-later-requires : goal.first_left-drop-later-requires
first_left-drop-later-requires t c =
    (omega (arith, sizes_more c.loop-part.parts.items c.loop-part.first, c.decreases, c.loop-part.invariant.less), tt)

pub first_left-loop-part-preserved : goal.first_left-loop-part-preserved
first_left-loop-part-preserved t c =
    let popped : c.loop-part.parts.items ≡ c.pop-in-loop-part.new.self.items ++ c.in-Some-pop.part ∷ [] = c.in-Some-pop.ensures.items in
    record {
      first = sym (same_front c.pop-in-loop-part.new.self.items c.loop-part.parts.items c.in-Some-pop.part c.loop-part.first popped) ∙ c.loop-part.invariant.first;
      less = omega (arith, ap sizes popped, sizes_more c.loop-part.parts.items c.loop-part.first, c.loop-part.invariant.less);
    }
