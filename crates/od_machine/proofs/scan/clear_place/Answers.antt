use Rattle.std.proofs.Common.{◌*◌, refl}
use Rattle.od_machine.proofs.Bits.{clears_place}
use Rattle.od_machine.proofs.Dues.{owed-off}
use Rattle.od_machine.proofs.scan.clear_place.Goals as goal

pub returns-clause-clears : goal.returns-clause-clears
returns-clause-clears c = clears_place (2 * c.args.points.now.count) c.args.at _ c.args.seen.now.marks c.clear.new.self.marks refl c.clear.ensures.off

pub returns-clause-owed : goal.returns-clause-owed
returns-clause-owed c = λ tokens.
    owed-off c.args.points.now tokens c.args.seen.now.marks c.clear.new.self.marks c.args.at c.clear.ensures.len c.clear.ensures.off.others
