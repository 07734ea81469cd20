-- A script's spelling, and which texts say the script.
use Rattle.std.specs.Prelude.{◌≡◌, ◌⊎◌, ℕ, List, [], ◌∷◌, ◌++◌, Ok}
use Rattle.std.specs.List.{AllByRecursion}
use Rattle.query_rules.specs.Words.{text_of}
use Rattle.query_rules.specs.Numbers.{IsQuery}
use Rattle.query_rules.specs.Grammar.{Asked, IsScript, script_lines, said_by}

-- what every script meets that a text says: its numbers are those of a machine
pub record IsWritable (s : Asked) : Type 0 where
  pub script : IsScript s
  pub fits : AllByRecursion (AllByRecursion IsQuery) s.callers

abbrev pub spelling : Asked → List ℕ
spelling s = text_of (script_lines s)

-- the text is the script's spelling, and may lack the last line feed
abbrev pub Spells : List ℕ → Asked → Type 0
Spells bytes s = (bytes ≡ spelling s) ⊎ (bytes ++ 10 ∷ [] ≡ spelling s)

-- each spelling of a script says it
abbrev pub SpellingIsRead : Type 0
SpellingIsRead = (s : Asked) (bytes : List ℕ) → IsWritable s → Spells bytes s → said_by bytes ≡ Ok s

-- and nothing else does
abbrev pub ReadIsSpelled : Type 0
ReadIsSpelled = (s : Asked) (bytes : List ℕ) → said_by bytes ≡ Ok s → IsWritable s × Spells bytes s

-- no text says two scripts
abbrev pub OneScript : Type 0
OneScript = (s t : Asked) (bytes : List ℕ) → IsWritable s → IsWritable t → Spells bytes s → Spells bytes t → s ≡ t
