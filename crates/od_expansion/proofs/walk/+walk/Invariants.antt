use Rattle.std.proofs.Common.{◌+◌, ◌*◌, length}
use Rattle.std.specs.Prelude.{sum_by}
use denote.Text.{Utf8}
use denote.Shadow.{shadow}
use Rattle.od_expansion.specs.States.{unseen}
use Rattle.od_expansion.specs.Walks.{KeepsStates}
use Rattle.od_expansion.proofs.Walks.{Walked}
use Rattle.od_expansion.proofs.walk.+walk.Given as goal

abbrev pub decreases-append_unseen : goal.decreases-append_unseen
decreases-append_unseen l = 3 * sum_by unseen l.states.now.items

abbrev pub decreases-append_variable : goal.decreases-append_variable
decreases-append_variable l = 3 * sum_by unseen l.states.now.items + 1

abbrev pub decreases-expand_text : goal.decreases-expand_text
decreases-expand_text l = 3 * sum_by unseen l.states.now.items + 2

abbrev pub invariant-expand_text-loop-out : goal.invariant-expand_text-loop-out
invariant-expand_text-loop-out l = record {
  utf8 : shadow (Utf8 l.rest);
  states : KeepsStates l.vars l.fn.states.items l.states.items;
  walked : Walked l.vars l.names l.fn.text l.rest l.fn.states.items l.states.items l.out;
}

abbrev pub decreases-expand_text-loop-out : goal.decreases-expand_text-loop-out
decreases-expand_text-loop-out l = length l.rest
