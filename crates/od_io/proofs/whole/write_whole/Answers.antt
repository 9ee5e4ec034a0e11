use Rattle.std.proofs.Common.{arith}
use Rattle.od_io.proofs.StreamLemmas.{Appends-more, written-within}
use Rattle.od_io.proofs.whole.write_whole.Goals as goal

pub loop-at-preserved : goal.loop-at-preserved
loop-at-preserved g c = record {
  within = written-within c.loop-at.at c.in_ok-at.field-0 c.args.bytes.now c.loop-at.invariant.within c.in_ok-at.ensures.takes.1;
  written = Appends-more _ _ _ c.loop-at.at c.in_ok-at.field-0 c.args.bytes.now c.loop-at.invariant.written c.in_ok-at.ensures.bytes;
  later = omega (arith, c.loop-at.invariant.later, c.in_ok-at.ensures.later);
}
