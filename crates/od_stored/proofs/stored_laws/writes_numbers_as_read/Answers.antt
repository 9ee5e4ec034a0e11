use Rattle.od_stored.proofs.NumberLaws.{number_takes}
use Rattle.od_stored.proofs.stored_laws.writes_numbers_as_read.Goals as goal

pub returns : goal.returns
returns c = λ bytes n rest fits e. let t = number_takes bytes n rest fits e in (t.0.parts, t.1)
