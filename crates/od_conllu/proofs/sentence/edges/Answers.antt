use Rattle.std.proofs.Common.{ap, ◌+◌}
use Rattle.od_conllu.proofs.Sentences.{edges_more}
use Rattle.od_conllu.proofs.sentence.edges.Goals as goal

pub loop-word-preserved : goal.loop-word-preserved
loop-word-preserved c = (
  edges_more c.args.words.now c.word-item.result c.loop-word.word-index c.loop-word.place c.loop-word.edges.items c.push_edge.new.edges.items c.loop-word-test.true c.word-item.is c.loop-word.invariant.1
      c.loop-word.invariant.0 c.in_ok-push_edge.ensures,
  ap (λ n. n + 1) c.loop-word.invariant.1,
)
