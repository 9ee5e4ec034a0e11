-- Those at the places so far are found.
use Rattle.std.proofs.Common.{◌≡◌, take, map}
use Rattle.od_matching.specs.Rounds.Round.{in_sentence}
use Rattle.od_mentions.specs.Places.{found_at}
use Rattle.od_mentions.proofs.places.found_in_sentence.Given as goal

abbrev pub invariant-loop-place : goal.invariant-loop-place
invariant-loop-place l = map (λ m. m.now) l.found.items ≡ in_sentence l.document l.sentence (found_at l.mentions (take l.place-index l.places))
