-- Laws of stored bytes.
use Rattle.std.specs.Prelude.{◌≡◌, ℕ, ◌<◌, List, [], ◌++◌, length, Ok, Err, get_or}
use Rattle.od_extraction.specs.declared.mention.Mention.{Mention}
use Rattle.od_stored.specs.declared.fault.CodecFault.{CodecFault}
use Rattle.od_stored.specs.declared.fault.CodecFault.TheVariants as fault
use Rattle.od_stored.specs.declared.limits.TheConstants.{NUMBER_END}
use Rattle.od_stored.specs.Numbers.{number_bytes, number_read}
use Rattle.od_stored.specs.Mentions.{list_bytes, IsList}
use Rattle.od_stored.specs.Pairs.{pair_bytes, IsPackable}
use Rattle.od_stored.specs.ReadMentions.{list_read}
use Rattle.od_stored.specs.ReadPairs.{pairs_read}

-- each of them is a byte
abbrev pub AreBytes : List ℕ → Type 0
AreBytes bytes = (i : ℕ) → get_or bytes i 0 < 256

-- a number that is written is read again, whatever stands behind it
abbrev pub ReadsNumbersBack : Type 0
ReadsNumbersBack =
    (n : ℕ) (rest : List ℕ) → n < NUMBER_END → number_read (number_bytes n ++ rest) ≡ Ok (n, rest)

-- a number that is read is written so
abbrev pub WritesNumbersAsRead : Type 0
WritesNumbersAsRead =
    (bytes : List ℕ) (n : ℕ) (rest : List ℕ) → AreBytes bytes → number_read bytes ≡ Ok (n, rest) →
    (bytes ≡ number_bytes n ++ rest) × (n < NUMBER_END)

-- a list that is written is read again
abbrev pub ReadsListsBack : Type 0
ReadsListsBack = (ms : List Mention) → IsList ms → list_read (list_bytes ms) ≡ Ok ms

-- a list that is read is written so
abbrev pub WritesListsAsRead : Type 0
WritesListsAsRead =
    (bytes : List ℕ) (ms : List Mention) → AreBytes bytes → list_read bytes ≡ Ok ms →
    (bytes ≡ list_bytes ms) × IsList ms

-- one list, and no more, has some bytes; and the bytes of a list do not begin those of another
abbrev pub NoListBeginsAnother : Type 0
NoListBeginsAnother =
    (one other : List Mention) (rest : List ℕ) → IsList one → IsList other →
    list_bytes one ++ rest ≡ list_bytes other → (one ≡ other) × (rest ≡ [])

-- a first fault lies at one of so many bytes; those that end within an item are at fault where
-- they end; memory is none of the bytes' faults
abbrev pub IsFaultAt : ℕ → CodecFault → Type 0
IsFaultAt total (fault.Short at) = at ≡ total
IsFaultAt total (fault.BadTag at) = at < total
IsFaultAt total (fault.BadNumber at) = at < total
IsFaultAt total (fault.BadText at) = at < total
IsFaultAt total (fault.BadSpan at) = at < total
IsFaultAt total (fault.Trailing at) = at < total
IsFaultAt total fault.NoMemory = ⊥

abbrev pub PlacesFaults : Type 0
PlacesFaults = (bytes : List ℕ) (f : CodecFault) → list_read bytes ≡ Err f → IsFaultAt (length bytes) f

-- pairs that are packed are read again
abbrev pub ReadsPairsBack : Type 0
ReadsPairsBack = (pairs : List (ℕ × ℕ)) → IsPackable pairs → pairs_read (pair_bytes pairs) ≡ Ok pairs

-- pairs that are read are packed so
abbrev pub WritesPairsAsRead : Type 0
WritesPairsAsRead =
    (bytes : List ℕ) (pairs : List (ℕ × ℕ)) → AreBytes bytes → pairs_read bytes ≡ Ok pairs →
    (bytes ≡ pair_bytes pairs) × IsPackable pairs
