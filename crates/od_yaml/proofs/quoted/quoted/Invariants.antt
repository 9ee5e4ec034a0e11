use Rattle.std.proofs.Common.{◌≡◌, false, length, string_bytes}
use denote.Text.{Utf8}
use denote.Shadow.{shadow}
use Rattle.od_rule_text.specs.Scalars.{quoted}
use Rattle.od_yaml.specs.Quotes.{behind}
use Rattle.od_yaml.proofs.quoted.quoted.Given as goal

abbrev pub invariant-loop-out : goal.invariant-loop-out
invariant-loop-out l = record {
  utf8 : shadow (Utf8 l.rest);
  said : quoted false l.fn.text ≡ behind (string_bytes l.out) (quoted false l.rest);
}

abbrev pub decreases-loop-out : goal.decreases-loop-out
decreases-loop-out l = length l.rest
