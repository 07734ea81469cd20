-- Which words are of the form, and what they ask for.
use Rattle.std.specs.Prelude.{◌≡◌, ℕ, ◌<◌, ◌≤◌, ◌&&◌, List, Some, None, codes, if◌then◌else◌, nat_le, option_and_then, map, String, string_bytes}
use Rattle.std.specs.Str.{bytes_eq}
use Rattle.std.specs.declared.alloc.Global.{Global}
use Rattle.std.specs.declared.option.Option.{Option}
use Rattle.clap.specs.Words.{Row, Text, first_of, matches_of, takes}
use Rattle.query_rules.specs.Words.{number_of}
use Rattle.command_line.specs.Program.{program}
use Rattle.command_line.specs.declared.options.Options.{Options}
use Rattle.command_line.specs.declared.options.RunMode.{RunMode}
use Rattle.command_line.specs.declared.options.RunMode.TheVariants.{Run, Soak}
use Rattle.lock_model.specs.declared.model.Policy.{Policy}
use Rattle.lock_model.specs.declared.model.Policy.TheVariants.{WritePriority, ReadPriority}
use Rattle.query_rules.specs.declared.query.TheConstants.{MOST_QUERIES}

infixl 10 ◌>>=◌
abbrev pub ◌>>=◌ : {A B : Type 0} → Option A → (A → Option B) → Option B
o >>= f = option_and_then f o

abbrev pub mode_named : Text → Option RunMode
mode_named word =
    if bytes_eq word (codes "run") then Some Run
    else (if bytes_eq word (codes "soak") then Some Soak else None)

abbrev pub policy_named : Text → Option Policy
policy_named word =
    if bytes_eq word (codes "write") then Some WritePriority
    else (if bytes_eq word (codes "read") then Some ReadPriority else None)

-- write priority where no word says another
unfoldable pub policy_or : Option Text → Option Policy
policy_or None = Some WritePriority
policy_or (Some word) = policy_named word

-- a number in its bounds, or the default where no word is given
unfoldable pub number_or : ℕ → ℕ → ℕ → Option Text → Option ℕ
number_or low high default None = Some default
number_or low high default (Some word) =
    option_and_then (λ n. if nat_le low n && nat_le n high then Some n else None) (number_of word)

-- no word may be given
abbrev pub only : ℕ → Option Text → Option ℕ
only n None = Some n
only n (Some word) = None

-- the rows may be chosen for a run, and the count for a soak
unfoldable pub rows_for : RunMode → Option Text → Option ℕ
rows_for Run word = number_or 1 65536 1024 word
rows_for Soak word = only 16 word

unfoldable pub count_for : RunMode → Option Text → Option ℕ
count_for Run word = only 1000 word
count_for Soak word = number_or 1 MOST_QUERIES 1000 word

-- what the values of the command's arguments ask for
unfoldable pub options_of : List Row → Option Options
options_of values = do
  mode ← option_and_then mode_named (first_of (codes "mode") values)
  rows ← rows_for mode (first_of (codes "rows") values)
  slots ← number_or 1 256 32 (first_of (codes "slots") values)
  combine ← number_or 0 1024 64 (first_of (codes "combine") values)
  policy ← policy_or (first_of (codes "priority") values)
  count ← count_for mode (first_of (codes "count") values)
  Some (record { mode = mode; rows = rows; slots = slots; combine = combine; policy = policy; count = count })

-- the words as texts
abbrev pub texts_of : List (String Global) → List Text
texts_of words = map (λ w. string_bytes w) words

-- the words are of the form, and ask for this, or they aren't
abbrev pub options_in : List (String Global) → Option Options
options_in words = if takes program (texts_of words) then options_of (matches_of program (texts_of words)) else None

-- options are within the limits of a run
abbrev pub IsWithinLimits : Options → Type 0
IsWithinLimits o = (0 < o.rows) × (o.rows ≤ 65536) × (0 < o.slots) × (o.slots ≤ 256)

-- and of a soak
abbrev pub SuitsSoak : Options → Type 0
SuitsSoak o = (0 < o.count) × (o.count ≤ MOST_QUERIES) × (o.mode ≡ Soak → o.rows ≡ 16)
