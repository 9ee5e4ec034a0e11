-- One lexeme breaks one rule at most.
use Rattle.od_language.specs.declared.pattern_fault.PatternKind.TheVariants as kind
use Rattle.od_language.proofs.Narrower.{one_rule}
use Rattle.od_syntax.specs.Hops.{Hops, rule_untold}
use Rattle.od_syntax.specs.OneRule.{OneSurfaceRule, OneHopRule}
use Rattle.od_syntax.specs.Rules.{bad_range, capture_or_own}
use Rattle.od_syntax.specs.Sizes.{may_repeat, may_always}
use Rattle.od_syntax.specs.Surfaces.{Surfaces}

pub one_surface_rule : OneSurfaceRule
one_surface_rule = one_rule (Surfaces may_always) (Surfaces may_repeat) bad_range kind.NullableRepeat capture_or_own

pub one_hop_rule : OneHopRule
one_hop_rule = one_rule (Hops may_always) (Hops may_repeat) (rule_untold bad_range) kind.NullableRepeat (rule_untold capture_or_own)
