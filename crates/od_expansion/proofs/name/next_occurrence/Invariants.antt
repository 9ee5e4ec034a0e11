use Rattle.std.proofs.Common.{length}
use denote.Text.{Utf8}
use denote.Shadow.{shadow}
use Rattle.od_expansion.specs.Occurrences.{Copied}
use Rattle.od_expansion.proofs.name.next_occurrence.Given as goal

abbrev pub invariant-loop-front : goal.invariant-loop-front
invariant-loop-front l = record {
  utf8 : shadow (Utf8 l.rest);
  copied : Copied l.fn.text l.rest l.initial.out l.out;
}

abbrev pub decreases-loop-front : goal.decreases-loop-front
decreases-loop-front l = length l.rest
