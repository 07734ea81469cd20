-- Which texts are logs, and of how many outcomes.
use Rattle.std.specs.Prelude.{◌≡◌, ℕ, List}
use Rattle.query_rules.specs.declared.query.Reply.{Reply}
use Rattle.query_rules.specs.Grammar.{Asked}
use Rattle.query_rules.specs.Log.{IsLogOf}

-- the text is no log, whatever the script, the rows and the replies
abbrev pub IsNoLog : List ℕ → Type 0
IsNoLog text = (s : Asked) (rows : ℕ) (told : List (List Reply)) → IsLogOf s rows told text → ⊥

-- a text is the log of one script, one number of rows and one list of replies for each caller
abbrev pub SaysOneLog : Type 0
SaysOneLog = (s t : Asked) (m n : ℕ) (said told : List (List Reply)) (text : List ℕ) → IsLogOf s m said text → IsLogOf t n told text → (s ≡ t) × (m ≡ n) × (said ≡ told)
