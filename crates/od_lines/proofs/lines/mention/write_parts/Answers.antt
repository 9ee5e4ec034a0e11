use Rattle.std.proofs.Common.{◌≤◌, length, codes, ap, arith}
use Rattle.std.proofs.lemmas.Result.{on_ok_weaker}
use Rattle.std.proofs.lemmas.List.{take_all}
use Rattle.od_line.specs.Mentions.{part_data}
use Rattle.od_lines.specs.Words.{tokens_of}
use Rattle.od_lines.proofs.LineTokens.{array-written}
use Rattle.od_lines.proofs.lines.mention.write_parts.Goals as goal

pub returns-clause-tokens : goal.returns-clause-tokens
returns-clause-tokens c =
    let passed : length c.args.parts.now ≤ c.loop-part.part-index = omega (arith, ap length c.get-part-items.ensures, c.loop-part-test.false) in
    let all = take_all c.loop-part.part-index c.args.parts.now passed in
    on_ok_weaker c.end_array.result (λ e. array-written (part_data (tokens_of c.args.words)) c.args.parts.now _ (codes "arguments") _ _ _ _ _ all
    c.in_ok-key.ensures.ok c.in_ok-begin_array.ensures.ok c.loop-part.invariant.written e) c.end_array.ensures.ok
