use Rattle.std.proofs.Common.{◌≡◌, ◌+◌, drop}
use Rattle.std.specs.List.{prefix_len}
use Rattle.od_yaml.specs.Quotes.{is_ordinary}
use Rattle.od_yaml.proofs.quoted.special_at.Given as goal

abbrev pub invariant-loop-i : goal.invariant-loop-i
invariant-loop-i l = prefix_len is_ordinary l.text ≡ l.i + prefix_len is_ordinary (drop l.i l.text)
