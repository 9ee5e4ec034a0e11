-- A sentence of a document that is kept is the segment's.
use Rattle.std.proofs.Common.{◌≡◌, ◌≤◌, length, subst}
use Rattle.std.specs.Arc.{arc_value}
use Rattle.od_committed.proofs.Sentences.{is-there, is-none}
use Rattle.od_committed.proofs.committed.Committed.sentence.Goals as goal

pub returns-then-number-size : goal.returns-then-number-size
returns-then-number-size g c = rw (← c.self.view_is) (is-there _ _ c.self.invariant.stands c.args.number _ (rw (c.deref-then-number-size.ensures) at c.visit.ensures.words))

pub returns-else-number-size : goal.returns-else-number-size
returns-else-number-size g c =
    let size : c.size.result ≡ length (arc_value c.self.inside.segment).sites = rw (c.deref.ensures) at c.size.ensures in
    rw (← c.self.view_is) (is-none _ _ c.self.invariant.stands c.args.number (subst (λ n. n ≤ c.args.number) size c.if-number-size.false))
