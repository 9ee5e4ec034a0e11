use Rattle.od_posted.proofs.Turning.{out-more}
use Rattle.od_posted.proofs.turned.all_going_out.Goals as goal

pub loop-label-preserved : goal.loop-label-preserved
loop-label-preserved c =
    out-more c.args.table.now c.args.labels.now c.loop-label.numbers.items c.push.new.self.items c.loop-label.label-index c.label-item.result c.going_out.result
    c.loop-label.invariant c.loop-label-test.true c.label-item.is c.going_out.ensures c.in_ok-push.ensures.items
