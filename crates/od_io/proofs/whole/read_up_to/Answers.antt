use Rattle.std.proofs.Common.{◌≡◌, arith, rules, take, subst}
use Rattle.std.proofs.lemmas.List.{places}
use Rattle.std.specs.Io.KnownBytes.{Consumes}
use Rattle.od_io.proofs.StreamLemmas.{Consumes-filled}
use Rattle.od_io.proofs.whole.read_up_to.Goals as goal

pub loop-filled-preserved : goal.loop-filled-preserved
loop-filled-preserved g c =
    let before = c.loop-filled.invariant in
    let row = c.deref_mut.result.now in
    let kept : take c.loop-filled.filled c.loop-filled.bytes.items ≡ take c.loop-filled.filled row = search (rules, places) in
    record {
      within = search (rules, places);
      most = c.in_ok-make_room.ensures.most;
      taken = Consumes-filled _ _ _ c.loop-filled.filled c.in_ok-got.got _ c.make_room.new.bytes.len row c.read.new.into _ (search (rules, places)) c.in_ok-got.ensures.fits (search (rules, places))
          (subst (Consumes _ _) kept before.taken) c.in_ok-got.ensures.bytes.0;
      later = omega (arith, before.later, c.in_ok-got.ensures.later);
    }
