use Rattle.std.proofs.Common.{◌≡◌, ◌+◌, ◌≤◌, length, drop}
use denote.Text.{Utf8}
use denote.Shadow.{shadow}
use Rattle.std.specs.Str.Lines.{lines}
use Rattle.od_yaml.specs.Literals.{joined_text, said_with, own_lines}
use Rattle.od_yaml.proofs.literal.take_lines.Given as goal

abbrev pub invariant-loop-line : goal.invariant-loop-line
invariant-loop-line l = record {
  utf8 : shadow (Utf8 l.rest);
  text_is : joined_text l.n (own_lines l.n l.fn.text) ≡ said_with l.n l.said (own_lines l.n l.rest);
  rest_is : drop (length (own_lines l.n l.fn.text)) (lines l.fn.text) ≡ drop (length (own_lines l.n l.rest)) (lines l.rest);
  lines_are : l.lines + length (own_lines l.n l.rest) ≡ length (own_lines l.n l.fn.text);
  short : l.lines + length l.rest ≤ length l.fn.text;
}

abbrev pub decreases-loop-line : goal.decreases-loop-line
decreases-loop-line l = length l.rest
