use Rattle.std.proofs.Common.{◌≡◌, take, map}
use Rattle.od_constraint.specs.Runners.{AreOwn, patterns_of}
use Rattle.od_rule_text.specs.Expressions.{Appearance}
use Rattle.od_grammar.specs.Uses.{uses}
use Rattle.od_grammar.proofs.making.make_all.Given as goal

abbrev pub invariant-loop-one : goal.invariant-loop-one
invariant-loop-one g l = record {
  at : l.made ≡ l.one-index;
  own : AreOwn g.M.Runner.Runner.pattern l.runners;
  patterns : patterns_of l.runners ≡ map (λ (a : Appearance). a.expression) (uses (take l.one-index l.found));
  same : g.M.PatternMaker.refused l.maker ≡ g.M.PatternMaker.refused l.fn.maker;
}
