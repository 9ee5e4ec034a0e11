use Rattle.std.proofs.Common.{◌≡◌, ℕ, List, take}
use Rattle.std.specs.List.{list_any}
use Rattle.od_machine.specs.Spans.{is_entry}
use Rattle.od_matching.specs.Matching.Scan.{is_span_in}
use Rattle.od_machine.proofs.spans.list_spans.Given as goal

abbrev pub invariant-loop-number : goal.invariant-loop-number
invariant-loop-number l =
    (name : List ℕ) (i j : ℕ) → list_any (is_entry l.labels name i j) l.entries.items ≡ is_span_in (take l.number l.labels) name i j
