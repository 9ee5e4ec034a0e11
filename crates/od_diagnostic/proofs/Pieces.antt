-- Pieces of a line that are written one after another.
use Rattle.std.proofs.Common.{◌≡◌, ◌⊎◌, ℕ, ◌≤◌, ◌<◌, List, ◌++◌, length, Option, Result, Ok, Err, inl, inr, sym, ap, ◌∙◌, append_assoc, arith, length-append}
use Rattle.std.specs.Prelude.{OnOk, OnErr}
use Rattle.std.specs.Io.KnownBytes.{Appends}
use Rattle.std.proofs.KnownBytes.{Appends-trans}
use Rattle.od_io.specs.Streams.Count.{Rose}
use Rattle.od_io.specs.Streams.Writing.{AppendsProperPrefix, AppendsUpToFault}

-- a piece that was cut short is a proper prefix of it with any more
pub part-of-more : (old new : Option (List ℕ)) (piece more : List ℕ) → AppendsProperPrefix old new piece → AppendsProperPrefix old new (piece ++ more)
part-of-more old new piece more (front, rest, is, proper, appends) =
    (front, rest ++ more, ap (λ l. l ++ more) is ∙ append_assoc front rest more, omega (arith, proper, length-append rest more), appends)

-- a whole piece, and then a proper prefix of more
pub part-behind : (old mid new : Option (List ℕ)) (piece more : List ℕ) → Appends old mid piece → AppendsProperPrefix mid new more → AppendsProperPrefix old new (piece ++ more)
part-behind old mid new piece more whole (front, rest, is, proper, appends) =
    (piece ++ front, rest, ap (λ l. piece ++ l) is ∙ sym (append_assoc piece front rest), proper, Appends-trans old mid new piece front whole appends)

-- what was written where a write may have failed
pub up-to-fault : {E : Type 0} (result : Result (Unit {0}) E) (faults new_faults : ℕ) (old new : Option (List ℕ)) (bytes : List ℕ) → OnOk result (Appends old new bytes) → OnErr result (AppendsProperPrefix old new bytes) → OnErr result (Rose faults new_faults) → AppendsUpToFault faults new_faults old new bytes
up-to-fault (Ok done) faults new_faults old new bytes whole part rose = inl whole
up-to-fault (Err failed) faults new_faults old new bytes whole part rose = inr (part, rose)
