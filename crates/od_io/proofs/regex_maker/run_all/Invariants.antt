use Rattle.std.proofs.Common.{◌≡◌, take, map}
use Rattle.regex.specs.Strings.{regex_pattern, matcher_pattern}
use Rattle.od_asked.specs.Texts.{regex_holds}
use Rattle.od_io.proofs.regex_maker.run_all.Given as goal

abbrev pub invariant-loop-text : goal.invariant-loop-text
invariant-loop-text l = record {
  same : matcher_pattern l.matcher ≡ regex_pattern l.runner.regex;
  truths : l.truths.items ≡ map (regex_holds l.runner.pattern) (take l.text-index l.texts);
}
