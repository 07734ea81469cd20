-- Bytes that don't begin with a line of a kind.
use Rattle.std.specs.Prelude.{◌≢◌, ℕ, List, ◌++◌}
use Rattle.query_rules.specs.Log.{tables_line, head_text}
use Rattle.log_reader.specs.declared.answered.Answered.{Answered}
use Rattle.query_rules.specs.Numbers.{IsNumber}
use Rattle.log_reader.specs.Listing.{IsWritable, answered_line}

-- no line of a query and its reply stands at the front
abbrev pub NoLine : List ℕ → Type 0
NoLine bytes = (a : Answered) → IsWritable a → (rest : List ℕ) → bytes ≢ answered_line a ++ rest

-- no text of three numbers stands at the front
abbrev pub NoFront : (ℕ → ℕ → ℕ → List ℕ) → List ℕ → Type 0
NoFront text bytes = (cells rows callers : ℕ) → IsNumber cells → IsNumber rows → IsNumber callers → (rest : List ℕ) → bytes ≢ text cells rows callers ++ rest

abbrev pub NoTables : List ℕ → Type 0
NoTables bytes = NoFront tables_line bytes

abbrev pub NoHead : List ℕ → Type 0
NoHead bytes = NoFront head_text bytes
