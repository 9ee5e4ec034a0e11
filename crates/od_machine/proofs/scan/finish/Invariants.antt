use Rattle.std.proofs.Common.{◌≡◌, vec_len}
use Rattle.std.specs.Prelude.{Some}
use Rattle.od_matching.specs.Matching.First.{accept}
use Rattle.od_machine.specs.Search.{replay}
use Rattle.od_machine.specs.Found.{so_far}
use Rattle.od_machine.proofs.scan.finish.Given as goal

abbrev pub invariant-events : goal.invariant-events
invariant-events l =
    replay l.code l.trail.items (Some (so_far l.end l.parts.items l.ends.items)) ≡ replay l.code l.fn.trail.items (accept l.end)

abbrev pub decreases-events : goal.decreases-events
decreases-events l = vec_len l.trail
