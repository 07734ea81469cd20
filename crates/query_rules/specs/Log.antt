-- The text of a log.
use Rattle.std.specs.Prelude.{◌≡◌, ℕ, ◌+◌, ◌<◌, ◌%◌, ◌==◌, Bool, true, false, List, [], ◌∷◌, ◌++◌, length, take, drop, Some, None, Ok, Err, slice_get, get_or, codes, decimal, flat_map, sum_by, count_by, IsPermutation, IsSorted}
use Rattle.std.specs.declared.option.Option.{Option}
use Rattle.std.specs.declared.result.Result.{Result}
use Rattle.std.specs.declared.cmp.Ordering.{Ordering}
use Rattle.std.specs.List.{AllByRecursion, AllZip}
use Rattle.std.specs.Ordering.{nat_cmp, ordering_then}
use Rattle.query_rules.specs.declared.query.Query.{Query}
use Rattle.query_rules.specs.declared.query.Said.{Said}
use Rattle.query_rules.specs.declared.query.Said.TheVariants as said
use Rattle.query_rules.specs.declared.query.LedgerTold.{LedgerTold}
use Rattle.query_rules.specs.declared.query.LedgerTold.TheVariants as told
use Rattle.query_rules.specs.declared.query.LedgerTrouble.{LedgerTrouble}
use Rattle.query_rules.specs.declared.query.LedgerTrouble.TheVariants as trouble
use Rattle.query_rules.specs.declared.query.Reply.{Reply}
use Rattle.query_rules.specs.declared.query.Reply.TheVariants.{Placed, Busy, Late, Job}
use Rattle.query_rules.specs.declared.query.Section.{Section}
use Rattle.query_rules.specs.declared.query.Section.TheVariants as section
use Rattle.query_rules.specs.declared.query.Total.{Total}
use Rattle.query_rules.specs.declared.query.Total.TheVariants as total
use Rattle.query_rules.specs.declared.query.Spot.{Spot}
use Rattle.query_rules.specs.declared.query.Cause.{Cause}
use Rattle.query_rules.specs.declared.query.Cause.TheVariants as cause
use Rattle.query_rules.specs.Grammar.{Asked, IsScript}
use Rattle.query_rules.specs.History.{IsKindFor}
use Rattle.query_rules.specs.Numbers.{IsNumber, IsQuery, IsReply}
use Rattle.query_rules.specs.Verbs.{query_words}
use Rattle.query_rules.specs.Words.{line_of}

-- one query's value of a key
abbrev pub found_words : Option ℕ → List (List ℕ)
found_words (Some value) = codes "some" ∷ decimal value ∷ []
found_words None = codes "none" ∷ []

abbrev pub said_words : Said → List (List ℕ)
said_words (said.Found value) = codes "some" ∷ decimal value ∷ []
said_words said.Absent = codes "none" ∷ []
said_words (said.Count n) = decimal n ∷ []
said_words said.New = codes "new" ∷ []
said_words (said.Old value) = codes "old" ∷ decimal value ∷ []
said_words said.Full = codes "full" ∷ []
said_words (said.Now value) = codes "now" ∷ decimal value ∷ []
said_words said.Over = codes "over" ∷ []
said_words said.Yes = codes "yes" ∷ []
said_words (said.No value) = codes "no" ∷ decimal value ∷ []
said_words (said.NewCount n) = codes "new" ∷ decimal n ∷ []
said_words (said.OldCount value n) = codes "old" ∷ decimal value ∷ decimal n ∷ []
said_words said.Moved = codes "moved" ∷ []
said_words (said.Short value) = codes "short" ∷ decimal value ∷ []
said_words said.Same = codes "same" ∷ []
said_words (said.Pair first second) = found_words first ++ found_words second

abbrev pub ledger_words : Result LedgerTold LedgerTrouble → List (List ℕ)
ledger_words (Ok (told.Now n)) = codes "now" ∷ decimal n ∷ []
ledger_words (Ok (told.Sum n)) = codes "sum" ∷ decimal n ∷ []
ledger_words (Err trouble.Over) = codes "err" ∷ codes "over" ∷ []
ledger_words (Err trouble.Full) = codes "err" ∷ codes "full" ∷ []
ledger_words (Err (trouble.Short n)) = codes "err" ∷ codes "short" ∷ decimal n ∷ []

-- what was replied
abbrev pub reply_words : Reply → List (List ℕ)
reply_words (Placed place said) = said_words said
reply_words Busy = codes "busy" ∷ []
reply_words (Late now) = codes "late" ∷ decimal now ∷ []
reply_words (Job at result) = ledger_words result

-- the section of a reply, and where it stands there
abbrev pub place_words : Reply → List (List ℕ)
place_words (Placed place said) = codes "map" ∷ decimal place ∷ []
place_words Busy = codes "ref" ∷ []
place_words (Late now) = codes "ref" ∷ []
place_words (Job at result) = codes "job" ∷ decimal at ∷ []

-- the line of one reply: where it stands, whose query it answers, the query, and what was replied
abbrev pub answer_words : ℕ → ℕ → Query → Reply → List (List ℕ)
answer_words caller index q reply = place_words reply ++ (decimal caller ∷ decimal index ∷ (query_words q ++ codes "=" ∷ reply_words reply))

unfoldable pub answer_line : ℕ → ℕ → Query → Reply → List ℕ
answer_line caller index q reply = line_of (answer_words caller index q reply)

-- what orders the lines of a section: a map line's place, a job line's position
abbrev pub key_in : Section → Reply → Option ℕ
key_in section.Maps (Placed place said) = Some place
key_in section.Maps Busy = None
key_in section.Maps (Late now) = None
key_in section.Maps (Job at result) = None
key_in section.Jobs (Placed place said) = None
key_in section.Jobs Busy = None
key_in section.Jobs (Late now) = None
key_in section.Jobs (Job at result) = Some at

abbrev pub spots_with : Option ℕ → ℕ → ℕ → List Spot → List Spot
spots_with None caller index later = later
spots_with (Some key) caller index later = record { key = key; caller = caller; index = index } ∷ later

-- the spots of a caller's replies in a section, from this index on
abbrev pub spots_from : Section → ℕ → ℕ → List Reply → List Spot
spots_from section caller index [] = []
spots_from section caller index (reply ∷ replies) = spots_with (key_in section reply) caller index (spots_from section caller (index + 1) replies)

-- the spots of all replies in a section, from this caller on
abbrev pub spots_of : Section → ℕ → List (List Reply) → List Spot
spots_of section caller [] = []
spots_of section caller (replies ∷ told) = spots_from section caller 0 replies ++ spots_of section (caller + 1) told

-- by key, then caller, then index
abbrev pub spot_cmp : Spot → Spot → Ordering
spot_cmp a b = ordering_then (nat_cmp a.key b.key) (ordering_then (nat_cmp a.caller b.caller) (nat_cmp a.index b.index))

-- these are the spots of a section, in their order
pub record IsOrderOf (section : Section) (told : List (List Reply)) (order : List Spot) : Type 0 where
  pub each : IsPermutation (spots_of section 0 told) order
  pub sorted : IsSorted spot_cmp order

-- the query and the reply of a spot
abbrev pub asked_at : List (List Query) → Spot → Option Query
asked_at asked spot = slice_get (get_or asked spot.caller []) spot.index

abbrev pub told_at : List (List Reply) → Spot → Option Reply
told_at told spot = slice_get (get_or told spot.caller []) spot.index

-- a spot of these queries and replies
pub record IsSpot (asked : List (List Query)) (told : List (List Reply)) (spot : Spot) : Type 0 where
  pub caller_asks : spot.caller < length asked
  pub asks : spot.index < length (get_or asked spot.caller [])
  pub caller_told : spot.caller < length told
  pub tells : spot.index < length (get_or told spot.caller [])

abbrev pub line_at : Spot → Option Query → Option Reply → List ℕ
line_at spot (Some q) (Some reply) = answer_line spot.caller spot.index q reply
line_at spot (Some q) None = []
line_at spot None reply = []

unfoldable pub spot_line : List (List Query) → List (List Reply) → Spot → List ℕ
spot_line asked told spot = line_at spot (asked_at asked spot) (told_at told spot)

unfoldable pub spots_text : List (List Query) → List (List Reply) → List Spot → List ℕ
spots_text asked told order = flat_map (spot_line asked told) order

-- a refusal is a reply that has no place
abbrev pub is_refusal : Reply → Bool
is_refusal (Placed place said) = false
is_refusal Busy = true
is_refusal (Late now) = true
is_refusal (Job at result) = false

abbrev pub refused_line : ℕ → ℕ → Query → Reply → List ℕ
refused_line caller index q (Placed place said) = []
refused_line caller index q Busy = answer_line caller index q Busy
refused_line caller index q (Late now) = answer_line caller index q (Late now)
refused_line caller index q (Job at result) = []

-- the lines of a caller's refusals, from this index on
abbrev pub refused_from : ℕ → ℕ → List Query → List Reply → List ℕ
refused_from caller index [] replies = []
refused_from caller index (q ∷ queries) [] = []
refused_from caller index (q ∷ queries) (reply ∷ replies) = refused_line caller index q reply ++ refused_from caller (index + 1) queries replies

-- the lines of all refusals, from this caller on
abbrev pub refused_of : ℕ → List (List Query) → List (List Reply) → List ℕ
refused_of caller [] told = []
refused_of caller (queries ∷ asked) [] = []
refused_of caller (queries ∷ asked) (replies ∷ told) = refused_from caller 0 queries replies ++ refused_of (caller + 1) asked told

unfoldable pub refused_text : List (List Query) → List (List Reply) → List ℕ
refused_text asked told = refused_of 0 asked told

unfoldable pub number_line : List ℕ → ℕ → List ℕ
number_line name n = line_of (name ∷ decimal n ∷ [])

unfoldable pub tables_line : ℕ → ℕ → ℕ → List ℕ
tables_line cells rows callers = line_of (codes "cells" ∷ decimal cells ∷ codes "rows" ∷ decimal rows ∷ codes "callers" ∷ decimal callers ∷ [])

unfoldable pub head_text : ℕ → ℕ → ℕ → List ℕ
head_text cells rows callers = number_line (codes "querylog") 1 ++ tables_line cells rows callers

abbrev pub total_word : Total → List ℕ
total_word total.Queries = codes "queries"
total_word total.Writes = codes "writes"
total_word total.Reads = codes "reads"
total_word total.Refused = codes "refused"
total_word total.Jobs = codes "jobs"

-- what a total counts a reply as
abbrev pub is_counted : Total → Reply → Bool
is_counted total.Queries reply = true
is_counted total.Writes (Placed place said) = place % 2 == 1
is_counted total.Writes Busy = false
is_counted total.Writes (Late now) = false
is_counted total.Writes (Job at result) = false
is_counted total.Reads (Placed place said) = place % 2 == 0
is_counted total.Reads Busy = false
is_counted total.Reads (Late now) = false
is_counted total.Reads (Job at result) = false
is_counted total.Refused reply = is_refusal reply
is_counted total.Jobs (Placed place said) = false
is_counted total.Jobs Busy = false
is_counted total.Jobs (Late now) = false
is_counted total.Jobs (Job at result) = true

abbrev pub total_of : Total → List (List Reply) → ℕ
total_of total told = sum_by (count_by (is_counted total)) told

-- the totals of a log, in the order of its lines
abbrev pub totals_of : List (List Reply) → List (Total × ℕ)
totals_of told =
    (total.Queries, total_of total.Queries told)
    ∷ (total.Writes, total_of total.Writes told)
    ∷ (total.Reads, total_of total.Reads told)
    ∷ (total.Refused, total_of total.Refused told)
    ∷ (total.Jobs, total_of total.Jobs told) ∷ []

abbrev pub total_line : Total × ℕ → List ℕ
total_line t = number_line (total_word t.0) t.1

-- a line for each total
unfoldable pub totals_text : List (Total × ℕ) → List ℕ
totals_text totals = flat_map total_line totals

-- how many replies have a place
abbrev pub placed_count : List (List Reply) → ℕ
placed_count told = total_of total.Writes told + total_of total.Reads told

-- the order of a log: first the map lines, then the job lines
pub record IsOrder (told : List (List Reply)) (order : List Spot) : Type 0 where
  pub maps : IsOrderOf section.Maps told (take (placed_count told) order)
  pub jobs : IsOrderOf section.Jobs told (drop (placed_count told) order)

unfoldable pub end_line : List ℕ
end_line = line_of (codes "end" ∷ [])

-- the log of a script with so many rows, of these replies in this order
unfoldable pub log_text : Asked → ℕ → List (List Reply) → List Spot → List ℕ
log_text s rows told order =
    head_text s.cells rows (length s.callers)
    ++ (spots_text s.callers told (take (placed_count told) order)
    ++ (refused_text s.callers told
    ++ (spots_text s.callers told (drop (placed_count told) order)
    ++ (totals_text (totals_of told) ++ end_line))))

-- The text is the log of this script with so many rows, of these replies, in their order. The script is one that a text says, the replies are of kinds that its queries may get, and all numbers are those of a machine.
pub record IsLogOf (s : Asked) (rows : ℕ) (told : List (List Reply)) (text : List ℕ) : Type 0 where
  pub script : IsScript s
  pub asks : AllByRecursion (AllByRecursion IsQuery) s.callers
  pub room : IsNumber rows
  pub tells : AllByRecursion (AllByRecursion IsReply) told
  pub kinds : AllZip (AllZip IsKindFor) s.callers told
  pub order : List Spot
  pub in_order : IsOrder told order
  pub text_is : text ≡ log_text s rows told order

abbrev pub cause_word : Cause → List ℕ
cause_word cause.BadByte = codes "BadByte"
cause_word cause.Spacing = codes "Spacing"
cause_word cause.MissingCells = codes "MissingCells"
cause_word cause.Unknown = codes "Unknown"
cause_word cause.WordCount = codes "WordCount"
cause_word cause.TooManyCallers = codes "TooManyCallers"
cause_word cause.NoCaller = codes "NoCaller"
cause_word cause.BadNumber = codes "BadNumber"
cause_word cause.CellRange = codes "CellRange"
cause_word cause.TooManyQueries = codes "TooManyQueries"

-- what is written of a text whose first bad line is this one
unfoldable pub refused_at : ℕ → Cause → List ℕ
refused_at line cause = line_of (codes "refused" ∷ codes "line" ∷ decimal line ∷ cause_word cause ∷ [])

-- what is written of an input that is too long
unfoldable pub refused_length : List ℕ
refused_length = line_of (codes "refused" ∷ codes "length" ∷ [])
