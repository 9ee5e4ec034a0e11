-- What a function answers about some bytes, beside what they say.
use Rattle.std.specs.Prelude.{◌≡◌, Result, Ok, Err}
use Rattle.od_stored.specs.declared.fault.CodecFault.{CodecFault}
use Rattle.od_stored.specs.declared.fault.CodecFault.TheVariants as fault

-- a fault that is told is what the bytes say, but that memory may be refused
abbrev pub Tells : {Y : Type 0} → CodecFault → Result Y CodecFault → Type 0
Tells fault.NoMemory read = Unit {0}
Tells (fault.Short at) read = read ≡ Err (fault.Short at)
Tells (fault.BadTag at) read = read ≡ Err (fault.BadTag at)
Tells (fault.BadNumber at) read = read ≡ Err (fault.BadNumber at)
Tells (fault.BadText at) read = read ≡ Err (fault.BadText at)
Tells (fault.BadSpan at) read = read ≡ Err (fault.BadSpan at)
Tells (fault.Trailing at) read = read ≡ Err (fault.Trailing at)

-- an answer, seen by `view`, is what the bytes say, but that memory may be refused
abbrev pub Gives : {X Y : Type 0} → (X → Y) → Result X CodecFault → Result Y CodecFault → Type 0
Gives view (Ok x) read = read ≡ Ok (view x)
Gives view (Err f) read = Tells f read
