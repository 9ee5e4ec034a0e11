use Rattle.std.proofs.lemmas.Result.{err_from_is_err_and}
use Rattle.od_stored.specs.ReadMentions.{part_at}
use Rattle.od_stored.specs.Steps.{in_a_row}
use Rattle.od_stored.proofs.Answering.{row_goes_on, row_fails, row_is_done}
use Rattle.od_codec.proofs.reading.parts.Goals as goal

pub returns-in_err-part : goal.returns-in_err-part
returns-in_err-part c =
    let p = err_from_is_err_and c.from_residual.result c.from_residual.ensures.1 in
    rw (p.1, p.2) (row_fails c.in_err-part.field-0.0 (part_at c.args.total) c.loop.parts c.args.count c.loop.counter c.loop.rest.now (in_a_row (part_at c.args.total) c.args.count c.args.bytes.now) c.loop-test.true c.in_err-part.ensures c.loop.invariant)

pub loop-preserved : goal.loop-preserved
loop-preserved c =
    row_goes_on (part_at c.args.total) c.loop.parts c.push.new.self c.args.count c.loop.counter c.loop.rest.now c.in_ok-part.part c.in_ok-part.after.now (in_a_row (part_at c.args.total) c.args.count c.args.bytes.now) c.loop-test.true c.in_ok-part.ensures c.in_ok-push.ensures.ok c.loop.invariant

pub returns : goal.returns
returns c = row_is_done (part_at c.args.total) c.loop.parts c.args.count c.loop.counter c.loop.rest.now (in_a_row (part_at c.args.total) c.args.count c.args.bytes.now) c.loop-test.false c.loop.invariant
