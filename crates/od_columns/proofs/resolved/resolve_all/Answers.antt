use Rattle.std.proofs.Common.{◌≡◌, ◌∷◌, [], List, ℕ, map, ap, sym, subst, ◌∙◌, arith}
use Rattle.std.specs.Prelude.{Contains}
use Rattle.od_asked.specs.Expressions.{expressions_at}
use Rattle.od_constraint.specs.Runners.{patterns_of}
use Rattle.od_columns.specs.Lent.{lent}
use Rattle.od_columns.specs.Resolved.{asked_in, table_of}
use Rattle.od_columns.specs.declared.resolved.ResolvedThing.{ResolvedThing}
use Rattle.od_columns.proofs.Parts.{asked_each, mapped_more}
use Rattle.od_text.proofs.Lists.{Each-append}
use Rattle.od_text.specs.Lists.{Each}
use Rattle.od_columns.proofs.resolved.resolve_all.Goals as goal

pub resolve_thing-requires-clause-has : goal.resolve_thing-requires-clause-has
resolve_thing-requires-clause-has g c =
    subst (λ (es : List (List ℕ)). Each (Contains es) (expressions_at (lent c.asking-item.result))) (sym c.loop-asking.invariant.3)
    (asked_each (Contains (patterns_of c.args.runners.now)) c.args.asked.now c.loop-asking.asking-index c.asking-item.result
    (omega arith) c.asking-item.is c.requires.has)

pub loop-asking-preserved : goal.loop-asking-preserved
loop-asking-preserved g c = (
  ap (map asked_in) c.in_ok-push.ensures.items
      ∙ mapped_more asked_in lent c.loop-asking.things.items c.args.asked.now c.loop-asking.asking-index c.in_ok-thing.thing c.asking-item.result
      c.loop-asking.invariant.0 (omega arith) c.asking-item.is c.in_ok-thing.ensures.asked,
  subst (λ (things : List ResolvedThing). Each (λ thing. table_of thing ≡ c.args.table.now) things) (sym c.in_ok-push.ensures.items)
      (Each-append (λ (thing : ResolvedThing). table_of thing ≡ c.args.table.now) c.loop-asking.things.items (c.in_ok-thing.thing ∷ [])
      c.loop-asking.invariant.1 (c.in_ok-thing.ensures.table, tt)),
  c.in_ok-thing.ensures.own,
  c.in_ok-thing.ensures.patterns ∙ c.loop-asking.invariant.3,
)
