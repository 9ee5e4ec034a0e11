use Rattle.std.proofs.Common.{[], sym, subst, ap, ◌∙◌}
use Rattle.od_grammar.specs.Uses.{AreNew, uses}
use Rattle.od_grammar.proofs.Appearing.{uses_new}
use Rattle.od_grammar.proofs.runners.make_runners.Goals as goal

pub make_all-requires-clause-new : goal.make_all-requires-clause-new
make_all-requires-clause-new g c κs within =
    subst (AreNew []) (sym (ap uses c.deref.ensures.value ∙ c.in_ok-found.ensures)) (uses_new c.args.rules.now)
