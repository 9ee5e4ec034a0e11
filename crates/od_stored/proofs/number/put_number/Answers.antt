use Rattle.std.proofs.Common.{refl, arith}
use Rattle.od_stored.proofs.NumberLaws.{put_goes_on, put_ends}
use Rattle.od_stored.proofs.number.put_number.Goals as goal

pub loop-above-init : goal.loop-above-init
loop-above-init c = (4, omega arith, refl)

pub loop-above-preserved : goal.loop-above-preserved
loop-above-preserved c =
    let i = c.loop-above.invariant in
    put_goes_on i.0 c.args.n c.loop-above.above c.loop-above.out.items c.push.new.self.items c.args.out.now.items c.loop-above-test.true i.1 c.in_ok-push.ensures.items i.2

pub returns : goal.returns
returns c =
    let i = c.loop-above.invariant in
    put_ends i.0 c.args.n c.loop-above.above c.loop-above.out.items c.push-2.new.self.items c.args.out.now.items c.loop-above-test.false c.in_ok-push-2.ensures.items i.2
