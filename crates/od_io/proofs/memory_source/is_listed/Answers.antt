use Rattle.std.proofs.Common.{◌^◌}
use Rattle.od_io.proofs.StreamLemmas.{Contains-searched, Contains-too_large}
use Rattle.od_io.proofs.memory_source.is_listed.Goals as goal

pub returns-in-Ok : goal.returns-in-Ok
returns-in-Ok c = rw (c.is_ok.ensures.value) (let found = rw c.in-Ok.ensures.1 at c.binary_search.ensures.position in Contains-searched c.args.calls.now c.args.call c.binary_search.result found c.requires)

pub returns-in-Err : goal.returns-in-Err
returns-in-Err c = Contains-too_large c.args.calls.now c.args.call (2 ^ 32) (λ k. (c.type_inv.calls k).fits) c.in-Err.ensures
