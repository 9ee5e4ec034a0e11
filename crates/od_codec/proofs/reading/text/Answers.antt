use Rattle.std.proofs.Common.{◌∙◌}
use Rattle.od_codec.proofs.TextSteps.{text_is, text_is_bad}
use Rattle.od_codec.proofs.reading.text.Goals as goal

pub returns-in_ok-from_str-in-Ok : goal.returns-in_ok-from_str-in-Ok
returns-in_ok-from_str-in-Ok c =
    let t = c.in-Ok.ensures.cases in
    let u = c.in_ok-from_str-in-Ok.ensures in
    text_is c.args.total c.in_ok-size.size c.args.bytes.now c.in_ok-size.rest.now c.in_ok-from_str-in-Ok.field-0 c.split_at.result.1.now
    c.in_ok-size.ensures c.if-rest-size.false (rw (c.split_at.ensures.front) at t.1) (u ∙ t.0 ∙ c.split_at.ensures.front) c.split_at.ensures.back

pub returns-in-Err : goal.returns-in-Err
returns-in-Err c =
    rw (c.place.ensures) (text_is_bad c.args.total c.in_ok-size.size c.args.bytes.now c.in_ok-size.rest.now c.in_ok-size.ensures c.if-rest-size.false (rw (c.split_at.ensures.front) at c.in-Err.ensures.cases.0))
