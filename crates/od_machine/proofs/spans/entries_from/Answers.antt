use Rattle.std.proofs.Common.{ltb, ltb-true, ltb-false, sym, subst, arith, rules}
use Rattle.std.proofs.lemmas.List.{take_rest}
use Rattle.std.proofs.lemmas.List.Sorted.{IsPartitionPoint-from_clause, IsPartitionedBy-ltb}
use Rattle.od_machine.proofs.Entries.{from_first}
use Rattle.od_machine.proofs.spans.entries_from.Goals as goal
use Rattle.od_machine.specs.Spans.{AreFrom}
use Rattle.od_machine.specs.declared.spans.SpanEntry.{SpanEntry}

pub returns : goal.returns
returns c = λ labels lists.
    let entries = c.args.entries.now in
    let first = c.partition_point-first.result in
    let parted = IsPartitionedBy-ltb (λ (e : SpanEntry). e.start) entries c.args.at c.requires.starts in
    let point = IsPartitionPoint-from_clause (λ (e : SpanEntry). ltb e.start c.args.at) _ _ c.partition_point-first.ensures.partitioned parted (λ a r q k. search rules) in
    subst (AreFrom labels c.args.at) (sym (take_rest entries first))
    (from_first labels c.args.at first entries c.requires lists
    (λ k d lt. ltb-true _ _ (point.0 k d (omega arith) lt))
    (λ k d ge lt. ltb-false _ _ (point.1 k d ge lt)))
