use Rattle.std.proofs.Common.{ap, ◌<◌, ◌∙◌, length, get_or, arith}
use Rattle.std.specs.List.{list_any}
use Rattle.od_extraction.specs.declared.mention.Labelled.{Labelled}
use Rattle.od_machine.proofs.Entries.{listed_more, same_item}
use Rattle.od_machine.specs.Spans.{is_entry}
use Rattle.od_machine.proofs.spans.list_spans.Goals as goal

pub loop-number-preserved : goal.loop-number-preserved
loop-number-preserved c = λ name i j.
    let labels = c.args.labels.now in
    let n = c.loop-number.number in
    let l : Labelled = get_or labels n c.index-labels-number.result in
    let inside : n < length labels = omega arith in
    ap (list_any (is_entry labels name i j)) c.in_ok-push.ensures.items
    ∙ listed_more labels c.loop-number.entries.items n l inside (same_item labels n c.index-labels-number.result l inside) c.loop-number.invariant name i j
