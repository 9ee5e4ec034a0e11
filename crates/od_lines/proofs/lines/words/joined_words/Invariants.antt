use Rattle.std.proofs.Common.{◌≡◌, ◌-◌, ◌≤◌, string_bytes}
use Rattle.od_line.specs.Mentions.{text_in}
use Rattle.od_lines.proofs.lines.words.joined_words.Given as goal

-- the words before the next one stand, and none behind the end
abbrev pub invariant-loop-token : goal.invariant-loop-token
invariant-loop-token l = record {
  written : string_bytes l.text ≡ text_in l.words.sentence.tokens l.start l.token;
  within : l.token - l.start ≤ l.end - l.start;
}
