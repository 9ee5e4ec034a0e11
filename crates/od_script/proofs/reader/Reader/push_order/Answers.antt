use Rattle.std.proofs.Common.{◌≡◌, ◌<◌, ◌-◌, ◌∙◌, suc, ap, length, slice_set, arith}
use Rattle.std.proofs.lemmas.Bool.{ltb-true}
use Rattle.od_order.specs.Scripts.{with_order}
use Rattle.od_script.proofs.Heads.{ordered}
use Rattle.od_script.proofs.reader.Reader.push_order.Goals as goal

some : (c : goal.After-self-2-1) → 0 < length c.self.inside.clients.items
some c = ltb-true _ _ (rw (← c.self.view_is) at c.requires.begun)

in-place : (c : goal.After-self-2-1) → slice_set c.self.inside.clients.items (c.len-last.result - 1) c.push.new.self ≡ with_order c.args.order c.self.inside.clients.items
in-place c =
    let last : length c.self.inside.clients.items ≡ suc (c.len-last.result - 1) = omega (arith, c.len-last.ensures, some c) in
    ap (slice_set c.self.inside.clients.items (c.len-last.result - 1)) c.in_ok-push.ensures.ok
    ∙ ordered c.args.order c.index_mut-orders.result.now c.self.inside.clients.items (c.len-last.result - 1) last c.index_mut-orders.ensures.value

pub returns : goal.returns
returns c = rw (← c.self.view_is) (ap (λ clients. record { heads = c.self.inside.heads.items; clients = clients }) (in-place c))
