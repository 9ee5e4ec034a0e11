use Rattle.std.proofs.Common.{◌≡◌, length}
use denote.Shadow.{shadow}
use denote.Text.{Utf8}
use Rattle.od_document.specs.Columns.{misc_value}
use Rattle.od_conllu.proofs.line_columns.misc_item.Given as goal

abbrev pub invariant-loop-first : goal.invariant-loop-first
invariant-loop-first l = (misc_value l.key l.fn.misc ≡ misc_value l.key l.rest) × shadow (Utf8 l.rest)

abbrev pub decreases-loop-first : goal.decreases-loop-first
decreases-loop-first l = length l.rest
