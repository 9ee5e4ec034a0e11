-- The terms so far.
use Rattle.std.proofs.Common.{◌≡◌, take, length}
use Rattle.od_postings.specs.Arrivals.{Renumbers}
use Rattle.od_postings.proofs.renumbering.numbers_of.Given as goal

abbrev pub invariant-loop-number : goal.invariant-loop-number
invariant-loop-number l = Renumbers (take l.number l.old) l.table l.numbers.items
