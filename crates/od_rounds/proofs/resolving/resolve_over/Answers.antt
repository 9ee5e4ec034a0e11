-- The rule over the table of one segment more.
use Rattle.std.proofs.Common.{◌∙◌}
use Rattle.od_rounds.proofs.Tables.{resolved-more}
use Rattle.od_rounds.proofs.resolving.resolve_over.Goals as goal

pub loop-segment-preserved : goal.loop-segment-preserved
loop-segment-preserved g c = (
  resolved-more c.args.rule.now c.args.view.now.segments c.loop-segment.segment c.loop-segment.resolved c.push.new.self c.in_ok-one.one c.table.result.now
      c.table.ensures c.in_ok-one.ensures.asked c.in_ok-one.ensures.table c.loop-segment.invariant.0 c.in_ok-push.ensures.ok,
  c.in_ok-one.ensures.own,
  c.in_ok-one.ensures.patterns ∙ c.loop-segment.invariant.2,
)
