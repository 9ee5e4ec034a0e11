-- The list of mentions that some bytes are, or their first fault with its place.
use Rattle.std.specs.Prelude.{ℕ, zero, suc, List, [], ◌∷◌, length, Option, Some, None, Result, Ok, Err, nat_lt, nat_le, if◌then◌else◌}
use Rattle.od_extraction.specs.declared.mention.Mention.{Mention}
use Rattle.od_extraction.specs.declared.mention.Part.{Part}
use Rattle.od_stored.specs.declared.fault.CodecFault.{CodecFault}
use Rattle.od_stored.specs.declared.fault.CodecFault.TheVariants as fault
use Rattle.od_stored.specs.Steps.{◌>>=◌, in_a_row}
use Rattle.od_stored.specs.Texts.{place, number_at, text_at}

-- each function reads one item at the front of the rest of `total` bytes, and tells what is left

unfoldable pub label_at : ℕ → List ℕ → Result (Option (List ℕ) × List ℕ) CodecFault
label_at total [] = Err (fault.Short total)
label_at total (zero ∷ bytes) = Ok (None, bytes)
label_at total (suc zero ∷ bytes) = text_at total bytes >>= λ label. Ok (Some label.0, label.1)
label_at total (suc (suc b) ∷ bytes) = Err (fault.BadTag (place total (suc (suc b) ∷ bytes)))

-- the end of a part, which is not before its start
unfoldable pub part_end_at : ℕ → ℕ → List ℕ → Result (ℕ × List ℕ) CodecFault
part_end_at total start bytes =
    number_at total bytes >>= λ end.
    if nat_lt end.0 start then Err (fault.BadSpan (place total bytes)) else Ok end

-- the end of a mention, which is behind its start
unfoldable pub mention_end_at : ℕ → ℕ → List ℕ → Result (ℕ × List ℕ) CodecFault
mention_end_at total start bytes =
    number_at total bytes >>= λ end.
    if nat_le end.0 start then Err (fault.BadSpan (place total bytes)) else Ok end

unfoldable pub part_at : ℕ → List ℕ → Result (Part × List ℕ) CodecFault
part_at total bytes =
    text_at total bytes >>= λ name. label_at total name.1 >>= λ label.
    number_at total label.1 >>= λ start. part_end_at total start.0 start.1 >>= λ end.
    Ok (record { name = name.0; label = label.0; start = start.0; end = end.0 }, end.1)

-- a count, and so many items
unfoldable pub counted_at : {X : Type 0} → (List ℕ → Result (X × List ℕ) CodecFault) → ℕ → List ℕ →
    Result (List X × List ℕ) CodecFault
counted_at read total bytes = number_at total bytes >>= λ count. in_a_row read count.0 count.1

unfoldable pub mention_at : ℕ → List ℕ → Result (Mention × List ℕ) CodecFault
mention_at total bytes =
    number_at total bytes >>= λ document. number_at total document.1 >>= λ sentence.
    number_at total sentence.1 >>= λ start. mention_end_at total start.0 start.1 >>= λ end.
    text_at total end.1 >>= λ label. text_at total label.1 >>= λ rule.
    counted_at (part_at total) total rule.1 >>= λ parts.
    Ok (
      record {
        document = document.0;
        sentence = sentence.0;
        start = start.0;
        end = end.0;
        label = label.0;
        rule = rule.0;
        parts = parts.0;
      },
      parts.1,
    )

-- nothing is left over
abbrev pub ended : {X : Type 0} → ℕ → X × List ℕ → Result X CodecFault
ended total (x, []) = Ok x
ended total (x, b ∷ bytes) = Err (fault.Trailing (place total (b ∷ bytes)))

-- the list that all of some bytes are
unfoldable pub list_read : List ℕ → Result (List Mention) CodecFault
list_read [] = Err (fault.Short 0)
list_read (zero ∷ bytes) = Err (fault.BadTag 0)
list_read (suc zero ∷ bytes) =
    let total = suc (length bytes) in
    counted_at (mention_at total) total bytes >>= λ ms. ended total ms
list_read (suc (suc b) ∷ bytes) = Err (fault.BadTag 0)
