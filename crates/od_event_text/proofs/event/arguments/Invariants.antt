use Rattle.std.proofs.Common.{◌≡◌, ℕ, ◌+◌, ◌≤◌, suc, length}
use Rattle.od_language.specs.declared.limits.TheConstants.{PATTERN_SIZE}
use Rattle.od_syntax.specs.Sizes.{counted, paths_size}
use Rattle.od_event_text.specs.Parts.{ends, own_of}
use Rattle.od_event_text.proofs.Events.{Found}
use Rattle.od_event_text.proofs.event.arguments.Given as goal

abbrev pub invariant-loop-line : goal.invariant-loop-line
invariant-loop-line l = record {
  found : Found l.fn.names l.names (own_of l.fn.rest) (own_of l.rest) l.found;
  size : (whole : ℕ) → l.fn.size ≡ counted whole → l.size ≡ counted (whole + paths_size l.found);
  small : l.size ≤ suc PATTERN_SIZE;
  within : ends l.rest ≤ ends l.fn.rest;
}

abbrev pub decreases-loop-line : goal.decreases-loop-line
decreases-loop-line l = length l.rest.text.now
