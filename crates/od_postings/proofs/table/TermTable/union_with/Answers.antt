-- The table of both has the terms of each.
use Rattle.std.proofs.Common.{◌++◌, List, subst, sym}
use Rattle.std.proofs.lemmas.List.Elements.{Contains-append_left, Contains-append_right}
use Rattle.std.specs.Prelude.{Contains}
use Rattle.od_index.proofs.Members.{Each-from_in}
use Rattle.od_postings.proofs.table.TermTable.union_with.Goals as goal

pub numbers_of-requires : goal.numbers_of-requires
numbers_of-requires c = Each-from_in (Contains c.in_ok-table.table) c.args.left.now (λ t d. c.in_ok-table.ensures.has t (Contains-append_left c.args.left.now c.args.right.now t d))

pub numbers_of-requires-2 : goal.numbers_of-requires-2
numbers_of-requires-2 c = Each-from_in (Contains c.in_ok-table.table) c.args.right.now (λ t d. c.in_ok-table.ensures.has t (Contains-append_right c.args.left.now c.args.right.now t d))
