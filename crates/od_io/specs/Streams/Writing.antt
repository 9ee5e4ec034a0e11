-- What was written to a sink, where it tells the bytes.
use Rattle.std.specs.Prelude.{◌≡◌, ◌⊎◌, ℕ, ◌<◌, List, ◌++◌, length, Option}
use Rattle.std.specs.Io.KnownBytes.{Appends}
use Rattle.od_io.specs.Streams.Count.{Rose}

-- a proper prefix of the bytes was appended
abbrev pub AppendsProperPrefix : Option (List ℕ) → Option (List ℕ) → List ℕ → Type 0
AppendsProperPrefix old new bytes =
    (front : List ℕ) × (rest : List ℕ) × (bytes ≡ front ++ rest) × (0 < length rest) × Appends old new front

-- the bytes were appended, or a proper prefix of them where the count of faults rose
abbrev pub AppendsUpToFault : ℕ → ℕ → Option (List ℕ) → Option (List ℕ) → List ℕ → Type 0
AppendsUpToFault faults_old faults_new old new bytes = Appends old new bytes ⊎ (AppendsProperPrefix old new bytes × Rose faults_old faults_new)
