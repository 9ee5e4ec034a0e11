-- One lexeme breaks one rule at most: the kinds of faults at one place have an order.
use Rattle.std.specs.Prelude.{◌≡◌, List}
use Rattle.od_language.specs.declared.pattern_fault.PatternKind.{PatternKind}
use Rattle.od_language.specs.FirstFault.{Rules}
use Rattle.od_syntax.specs.Hops.{BreaksHop}
use Rattle.od_syntax.specs.Rules.{BreaksSurface}

abbrev pub IsOneRule : {K : Type 0} → Rules K → Type 0
IsOneRule {K} Breaks =
    (front : List K) (x : K) (j k : PatternKind) → Breaks front x j → Breaks front x k → j ≡ k

abbrev pub OneSurfaceRule : Type 0
OneSurfaceRule = IsOneRule BreaksSurface

abbrev pub OneHopRule : Type 0
OneHopRule = IsOneRule BreaksHop
