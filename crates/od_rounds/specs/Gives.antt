-- What a round tells.
use Rattle.std.specs.Prelude.{◌≡◌, List, Result, MatchResult}
use Rattle.od_extraction.specs.declared.mention.Mention.{Mention}
use Rattle.od_extraction.specs.declared.mention.RoundResult.{RoundResult}
use Rattle.od_extraction.specs.declared.mention.RoundResult.TheVariants as round
use Rattle.od_rounds.specs.declared.fault.RoundFault.{RoundFault}
use Rattle.od_rounds.specs.declared.fault.RoundFault.TheVariants.{Crowded, TooMany, NoMemory}

-- a fault is the refusal of a round; memory may be refused at any time
abbrev pub FaultIs : RoundFault → RoundResult → Type 0
FaultIs (Crowded rule document sentence count) r = r ≡ round.Crowded rule document sentence count
FaultIs (TooMany total) r = r ≡ round.TooMany total
FaultIs NoMemory r = Unit {0}

-- the mentions are what the round found, and the fault is its refusal
abbrev pub Gives : Result (List Mention) RoundFault → RoundResult → Type 0
Gives outcome r = MatchResult outcome (λ found. r ≡ round.Found found) (λ fault. FaultIs fault r)

-- what was met so far has led to these mentions, or the fault is the refusal that it led to
abbrev pub Met : {T : Type 0} → Result T RoundFault → RoundResult → List Mention → Type 0
Met outcome r found = MatchResult outcome (λ _. r ≡ round.Found found) (λ fault. FaultIs fault r)
