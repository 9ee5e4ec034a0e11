use Rattle.std.proofs.Common.{◌≡◌, arith}
use Rattle.od_script.specs.Blocks.{Passed}
use Rattle.od_script.proofs.Blocks.{passed_more, passed_all, passed_few}
use Rattle.od_script.proofs.lines.block.Goals as goal

pub returns-in_default : goal.returns-in_default
returns-in_default c = passed_few c.args.bytes.now c.loop-line.rest.now c.loop-line._line c.args.count c.loop-line.invariant c.in_default.ensures c.loop-line-test.true

pub loop-line-preserved : goal.loop-line-preserved
loop-line-preserved c =
    passed_more c.args.bytes.now c.loop-line.rest.now _ c.in-Some.more.now c.loop-line._line c.loop-line.invariant c.in-Some.ensures.0 c.in-Some.ensures.1 c.in-Some.ensures.2

pub returns : goal.returns
returns c =
    let all : c.loop-line._line ≡ c.args.count = omega arith in
    let p : Passed c.args.bytes.now c.loop-line.rest.now c.args.count = rw all at c.loop-line.invariant in
    rw (c.split_at.ensures.front, c.split_at.ensures.back) (passed_all c.args.bytes.now c.loop-line.rest.now c.args.count p)
