use Rattle.std.proofs.Common.{◌≡◌, ◌+◌, ◌++◌, ◌∷◌, length, drop, arith}
use Rattle.od_asked.specs.Asked.{asked_path, asked_surface}
use Rattle.od_rule.specs.Codes.{part_surfaces}
use Rattle.od_rule.proofs.Places.{drop_more, grown, placed_more, part_moves_more}
use Rattle.od_rule.proofs.code.add_parts.Goals as goal

pub loop-part-preserved : goal.loop-part-preserved
loop-part-preserved c =
    let part = c.part-item.result in
    let parts = c.args.parts.now in
    let i = c.loop-part.part-index in
    let n = length c.loop-part.asked.items in
    let is : drop i parts ≡ part ∷ drop (i + 1) parts = drop_more parts i part (omega arith) c.part-item.is in
    let path : length c.route.new.asked.items ≡ n + length (asked_path part.path) = grown c.loop-part.asked.items c.route.new.asked.items (asked_path part.path) c.in_ok-route.ensures.asked in
    let surface : length c.place.new.asked.items ≡ length c.route.new.asked.items + length (asked_surface part.surface) = grown c.route.new.asked.items c.place.new.asked.items (asked_surface part.surface) c.in_ok-place.ensures.asked in (
      λ before zip. placed_more c.loop-part.code.programs c.place.new.programs c.in_ok-place.ensures.program.0 before (before ++ part_surfaces (length c.args.asked.now.items) parts) n (length c.route.new.asked.items)
          (length c.place.new.asked.items) part (drop i parts) (drop (i + 1) parts) is path surface c.in_ok-place.ensures.program.1 c.in_ok-place.ensures.program.2 (c.loop-part.invariant.0 before zip),
      part_moves_more c.loop-part.code.moves c.route.new.moves _ n (length c.place.new.asked.items) part (drop i parts) (drop (i + 1) parts) is (omega (arith, path, surface)) c.in_ok-route.ensures.moves c.loop-part.invariant.1,
    )
