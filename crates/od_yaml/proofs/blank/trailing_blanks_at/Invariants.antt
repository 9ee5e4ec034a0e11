use Rattle.std.proofs.Common.{◌≡◌, ◌<◌, ◌≤◌, length, drop, true, slice_index}
use Rattle.std.specs.List.{list_all}
use Rattle.od_rule_text.specs.Blanks.{is_blank}
use Rattle.od_yaml.proofs.blank.trailing_blanks_at.Given as goal

abbrev pub invariant-loop-end : goal.invariant-loop-end
invariant-loop-end l = record {
  within : l.end ≤ length l.text;
  blank : list_all is_blank (drop l.end l.text) ≡ true;
  ascii : l.end < length l.text → slice_index l.text l.end < 128;
}

abbrev pub decreases-loop-end : goal.decreases-loop-end
decreases-loop-end l = l.end
