use Rattle.std.proofs.Common.{rules}
use Rattle.od_rule.proofs.code.place.Goals as goal

pub returns-clause-program : goal.returns-clause-program
returns-clause-program c =
    (record { program = c.in_ok-program.program; first = c.len-first.result }, c.in_ok-push.ensures.ok, (search rules, c.in_ok-program.ensures))
