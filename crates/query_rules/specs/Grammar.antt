-- What a text says: a script, or its first bad line with that line's first cause.
use Rattle.std.specs.Prelude.{ℕ, ◌+◌, ◌-◌, ◌<◌, ◌≤◌, ◌==◌, ◌||◌, not, Bool, List, [], ◌∷◌, ◌++◌, length, Some, None, Ok, Err, is_none, if◌then◌else◌, nat_lt, nat_le, bytes_eq, codes, sum_by, take, drop, slice_index, decimal, map, flat_map, unwrap_or, option_map, get_or, slice_set}
use Rattle.std.specs.declared.option.Option.{Option}
use Rattle.std.specs.declared.result.Result.{Result}
use Rattle.std.specs.List.{list_any, AllByRecursion}
use Rattle.query_rules.specs.declared.query.Query.{Query}
use Rattle.query_rules.specs.declared.query.Cause.{Cause}
use Rattle.query_rules.specs.declared.query.Cause.TheVariants.{BadByte, Spacing, MissingCells, Unknown, WordCount, TooManyCallers, NoCaller, BadNumber, CellRange, TooManyQueries}
use Rattle.query_rules.specs.declared.query.TheConstants.{MOST_CALLERS, MOST_CELLS, MOST_QUERIES}
use Rattle.query_rules.specs.declared.verb.Verb.{Verb}
use Rattle.query_rules.specs.Verbs.{verb_named, verb_of, numbers_of, arity, cells_in, query_of, query_words}
use Rattle.query_rules.specs.Words.{lines_of, words_of, number_of}

-- what a script says
pub record Asked : Type 0 where
  pub cells : ℕ
  pub callers : List (List Query)

-- the words of its lines
abbrev pub script_lines : Asked → List (List (List ℕ))
script_lines s = (codes "cells" ∷ decimal s.cells ∷ []) ∷ flat_map (λ queries. (codes "caller" ∷ []) ∷ map query_words queries) s.callers

-- the first of these causes, in this order
abbrev pub first_cause : List (Bool × Cause) → Option Cause
first_cause [] = None
first_cause (c ∷ cs) = if c.0 then Some c.1 else first_cause cs

-- the numbers that words write, where each is a number
abbrev pub numbers_in : List (List ℕ) → Option (List ℕ)
numbers_in [] = Some []
numbers_in (word ∷ words) = elim (number_of word) [ Some n ↦ option_map (λ ns. n ∷ ns) (numbers_in words) | None ↦ None ]

-- the lists with this at the end of the last
abbrev pub with_query : List (List Query) → Query → List (List Query)
with_query lists q = slice_set lists (length lists - 1) (get_or lists (length lists - 1) [] ++ q ∷ [])

abbrev pub word_at : List (List ℕ) → ℕ → List ℕ
word_at words k = get_or words k []

-- what every line must meet
abbrev pub has_bad_byte : List ℕ → Bool
has_bad_byte line = list_any (λ b. nat_lt b 32 || nat_lt 126 b) line

abbrev pub is_misspaced : List (List ℕ) → Bool
is_misspaced words = list_any (λ w. length w == 0) words

abbrev pub gives : {A : Type 0} → Option Cause → A → Result A Cause
gives None x = Ok x
gives (Some cause) x = Err cause

-- a line without these two faults is judged by its words
abbrev pub spelled_line : (List (List ℕ) → Result Asked Cause) → List ℕ → Result Asked Cause
spelled_line says line =
    if has_bad_byte line then Err BadByte
    else if is_misspaced (words_of line) then Err Spacing
    else says (words_of line)

-- what may be wrong with the words of line 1
abbrev pub cells_causes : List (List ℕ) → List (Bool × Cause)
cells_causes words =
    let numbers = numbers_in (drop 1 words) in
    let cells = slice_index (unwrap_or numbers []) 0 in
    (not (bytes_eq (word_at words 0) (codes "cells")), MissingCells)
    ∷ (not (length words == 2), WordCount)
    ∷ (is_none numbers, BadNumber)
    ∷ (cells == 0 || nat_lt MOST_CELLS cells, CellRange) ∷ []

abbrev pub cells_line : List (List ℕ) → Result Asked Cause
cells_line words = gives (first_cause (cells_causes words)) (record { cells = slice_index (unwrap_or (numbers_in (drop 1 words)) []) 0; callers = [] })

-- with a line `caller`, after the lines that say s
abbrev pub caller_causes : Asked → List (List ℕ) → List (Bool × Cause)
caller_causes s words = (not (length words == 1), WordCount) ∷ (nat_le MOST_CALLERS (length s.callers), TooManyCallers) ∷ []

abbrev pub caller_line : Asked → List (List ℕ) → Result Asked Cause
caller_line s words = gives (first_cause (caller_causes s words)) (record { cells = s.cells; callers = s.callers ++ [] ∷ [] })

-- with a line that begins with a query's name
abbrev pub query_causes : Asked → Verb → List (List ℕ) → List (Bool × Cause)
query_causes s verb words =
    let numbers = numbers_in (drop 1 words) in
    (not (length words == 1 + arity verb), WordCount)
    ∷ (length s.callers == 0, NoCaller)
    ∷ (is_none numbers, BadNumber)
    ∷ (list_any (λ n. nat_le s.cells n) (take (cells_in verb) (unwrap_or numbers [])), CellRange)
    ∷ (nat_le MOST_QUERIES (sum_by length s.callers), TooManyQueries) ∷ []

abbrev pub query_line : Asked → Verb → List (List ℕ) → Result Asked Cause
query_line s verb words =
    gives (first_cause (query_causes s verb words))
    (record { cells = s.cells; callers = with_query s.callers (query_of verb (unwrap_or (numbers_in (drop 1 words)) [])) })

abbrev pub named_line : Asked → List (List ℕ) → Option Verb → Result Asked Cause
named_line s words (Some verb) = query_line s verb words
named_line s words None = if bytes_eq (word_at words 0) (codes "caller") then caller_line s words else Err Unknown

-- the words of a later line, after the lines that say s
abbrev pub later_words : Asked → List (List ℕ) → Result Asked Cause
later_words s words = named_line s words (verb_named (word_at words 0))

abbrev pub later_line : Asked → List ℕ → Result Asked Cause
later_line s line = spelled_line (later_words s) line

-- n lines say s, and these follow
abbrev pub later_lines : Asked → ℕ → List (List ℕ) → Result Asked (ℕ × Cause)
later_lines s n [] = Ok s
later_lines s n (line ∷ lines) = elim (later_line s line) [ Ok t ↦ later_lines t (n + 1) lines | Err cause ↦ Err (n + 1, cause) ]

abbrev pub all_lines : List (List ℕ) → Result Asked (ℕ × Cause)
all_lines [] = Err (1, MissingCells)
all_lines (line ∷ lines) = elim (spelled_line cells_line line) [ Ok s ↦ later_lines s 1 lines | Err cause ↦ Err (1, cause) ]

-- what a text says
abbrev pub said_by : List ℕ → Result Asked (ℕ × Cause)
said_by bytes = all_lines (lines_of bytes)

-- the cells that a query takes
abbrev pub cells_of : Query → List ℕ
cells_of q = take (cells_in (verb_of q)) (numbers_of q)

abbrev pub TakesBelow : ℕ → Query → Type 0
TakesBelow cells q = AllByRecursion (λ c. c < cells) (cells_of q)

-- what every script meets
pub record IsScript (s : Asked) : Type 0 where
  pub some : 0 < s.cells
  pub cells : s.cells ≤ MOST_CELLS
  pub crowd : length s.callers ≤ MOST_CALLERS
  pub few : sum_by length s.callers ≤ MOST_QUERIES
  pub taken : AllByRecursion (AllByRecursion (TakesBelow s.cells)) s.callers
