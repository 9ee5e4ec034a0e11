use Rattle.std.proofs.Common.{◌≡◌, ◌++◌, take, flat_map}
use Rattle.json.specs.Tree.{json_tokens}
use Rattle.serde_json.specs.Written.{outline}
use Rattle.od_line.specs.Mentions.{part_data}
use Rattle.od_lines.specs.Words.{tokens_of}
use Rattle.od_lines.proofs.lines.mention.write_parts.Given as goal

-- the arguments before the next one are written
abbrev pub invariant-loop-part : goal.invariant-loop-part
invariant-loop-part l = record {
  written : l.line.tokens ≡ l.initial.line.tokens ++ flat_map (λ part. json_tokens (outline (part_data (tokens_of l.words) part))) (take l.part-index l.parts);
  before : l.line.before ≡ l.initial.line.before;
}
