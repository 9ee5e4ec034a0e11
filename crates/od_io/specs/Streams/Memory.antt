-- Sources and sinks in memory, as contracts see them.
use Rattle.std.specs.Prelude.{ℕ, List}

-- a source in memory
pub record SourceState : Type 0 where
  -- the bytes that were not read yet
  pub left : List ℕ
  -- how many reads were made, at most 2 ^ 64 - 1: the number of the next one
  pub calls : ℕ
  -- the numbers of the reads that fail
  pub failing : List ℕ
  -- how many reads failed
  pub faults : ℕ

-- a sink in memory
pub record SinkState : Type 0 where
  -- the bytes that were written
  pub written : List ℕ
  -- how many bytes it takes in all
  pub room : ℕ
  -- how many writes failed
  pub faults : ℕ
