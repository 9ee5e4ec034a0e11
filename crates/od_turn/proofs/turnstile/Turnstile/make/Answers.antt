use Rattle.std.proofs.Common.{rules}
use Rattle.od_turn.proofs.Starts.{opens}
use Rattle.od_turn.proofs.turnstile.Turnstile.make.Goals as goal

pub new-requires : goal.new-requires
new-requires g c = opens g.V.Counted.marks g.V.Counted.origin _ _ c.args.value _ _ (search rules) (search rules) (search rules) (search rules)
