use Rattle.std.proofs.Common.{ap, sym}
use Rattle.od_io.specs.Streams.Memory.{SourceState}
use Rattle.od_io.proofs.StreamLemmas.{Consumes-copied}
use Rattle.od_io.proofs.memory_source.MemSourceSource.read.Goals as goal

pub returns-clause-bytes : goal.returns-clause-bytes
returns-clause-bytes c =
    Consumes-copied c.args.self.now.left c.self.inside.bytes c.get-bytes.result.now c.copy_from_slice.new.self c.args.into.now c.self.inside.at c.min-n.result
    (ap (λ (m : SourceState). m.left) (sym c.self.view_is)) c.get-bytes.ensures c.copy_from_slice.ensures.after c.min-n.ensures
