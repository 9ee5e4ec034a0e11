use Rattle.std.proofs.Common.{drop, ◌+◌}
use Rattle.od_surface.proofs.Named.{known_more}
use Rattle.od_surface.proofs.again.first_again.Goals as goal

pub loop-x-preserved : goal.loop-x-preserved
loop-x-preserved c = known_more c.loop-x.names c.opens_seen.new.names c.in_ok-opens_seen.field-0 c.in-Some.x.now (drop c.loop-x.i c.args.lexemes.now) (drop (c.loop-x.i + 1) c.args.lexemes.now) c.args.lexemes.now
    c.in-Some.ensures.0 c.if-branch.false c.in_ok-opens_seen.ensures c.loop-x.invariant
