use Rattle.std.proofs.Common.{◌≡◌, ◌++◌, false, ◌∙◌, ap, add-one, get_or}
use Rattle.od_reach.specs.Moves.{if_so, spot}
use Rattle.od_reach.specs.Walking.{starts_below, set_of}
use Rattle.od_reach.proofs.walk.begin.Goals as goal

pub loop-k-init : goal.loop-k-init
unfolding starts_below
loop-k-init c = c.new-todo.ensures.items

pub loop-k-preserved : goal.loop-k-preserved
unfolding starts_below
loop-k-preserved c =
    rw add-one (c.in_ok-add_if.ensures.spots ∙ ap (λ z. z ++ if_so (set_of c.args.from.now c.loop-k.k) (spot 0 c.loop-k.k)) c.loop-k.invariant)
