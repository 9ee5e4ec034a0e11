use Rattle.std.proofs.Common.{◌∙◌, sym, length, ◌<◌, arith}
use Rattle.od_script.proofs.Blocks.{line_ended, line_unended}
use Rattle.od_script.proofs.lines.first_line.Goals as goal

pub returns-in-Some : goal.returns-in-Some
returns-in-Some c =
    let at = line_ended c.args.bytes.now c.in-Some.at (sym c.in-Some.is ∙ c.line_feed.ensures) in
    let some : 0 < length c.split_at.result.0.now = omega (arith, c.split_at.ensures.front_len) in
    (rw (c.split_at.ensures.front, c.split_at.ensures.back) at.0, rw (c.split_at.ensures.front, c.split_at.ensures.back) at.1, some)

pub returns-in-None : goal.returns-in-None
returns-in-None c = line_unended c.args.bytes.now (sym c.in-None.is ∙ c.line_feed.ensures) (sym c.is_empty.ensures ∙ c.if-is_empty.false)
