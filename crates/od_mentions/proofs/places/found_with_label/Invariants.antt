-- Those at the places so far are found.
use Rattle.std.proofs.Common.{◌≡◌, take}
use Rattle.od_matching.specs.Rounds.States.{places_with}
use Rattle.od_mentions.specs.Places.{found_at}
use Rattle.od_mentions.proofs.places.found_with_label.Given as goal

abbrev pub invariant-loop-place : goal.invariant-loop-place
invariant-loop-place l = l.found.items ≡ places_with l.label (found_at l.mentions (take l.place-index l.places))
