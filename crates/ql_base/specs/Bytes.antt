-- What a call in several pieces does to the bytes that a sink holds or a source has left, where those are told.
use Rattle.std.specs.Prelude.{◌≡◌, ℕ, List, ◌++◌, ◌≤◌, length, MatchResult}
use Rattle.std.specs.declared.result.Result.{Result}
use Rattle.std.specs.declared.option.Option.{Option}
use Rattle.std.specs.Io.KnownBytes.{Appends, Consumes}

-- told bytes grow by a front of the text
abbrev pub AppendsFront : Option (List ℕ) → Option (List ℕ) → List ℕ → Type 0
AppendsFront old new text = (front : List ℕ) × (rest : List ℕ) × (text ≡ front ++ rest) × Appends old new front

-- told bytes grow by exactly the text at `Ok`, and by a front of it at `Err`
abbrev pub Writes : {T E : Type 0} → Option (List ℕ) → Option (List ℕ) → Result T E → List ℕ → Type 0
Writes old new result text = MatchResult result (λ _. Appends old new text) (λ _. AppendsFront old new text)

-- a source gave exactly so many bytes, the front of what it had left where that is told
abbrev pub Takes : Option (List ℕ) → Option (List ℕ) → ℕ → Type 0
Takes old new count = (bytes : List ℕ) × Consumes old new bytes × (length bytes ≡ count)

-- a source gave at most so many bytes, the front of what it had left where that is told
abbrev pub TakesUpTo : Option (List ℕ) → Option (List ℕ) → ℕ → Type 0
TakesUpTo old new most = (bytes : List ℕ) × Consumes old new bytes × (length bytes ≤ most)
