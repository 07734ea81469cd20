-- What contracts see of a source and of a sink in memory.
use Rattle.std.specs.Prelude.{ℕ, List, []}

pub record SourceState : Type 0 where
  -- the bytes still to come
  pub left : List ℕ
  -- the numbers of the calls that fail
  pub failing : List ℕ
  -- how many calls were made, and how many of them failed; both stand still at the end of a u64
  pub calls : ℕ
  pub faults : ℕ

-- a source before its first call
abbrev pub fresh_source : List ℕ → List ℕ → SourceState
fresh_source bytes failing = record { left = bytes; failing = failing; calls = 0; faults = 0 }

pub record SinkState : Type 0 where
  -- the bytes that were written
  pub written : List ℕ
  -- how many bytes it still takes
  pub room : ℕ
  -- the numbers of the calls that fail
  pub failing : List ℕ
  -- how many calls were made, and how many of them failed; both stand still at the end of a u64
  pub calls : ℕ
  pub faults : ℕ

-- a sink before its first call
abbrev pub fresh_sink : ℕ → List ℕ → SinkState
fresh_sink room failing = record { written = []; room = room; failing = failing; calls = 0; faults = 0 }
