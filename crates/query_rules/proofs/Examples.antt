-- The definitions at worked examples: each holds by computation.
use Rattle.std.proofs.Common.{◌≡◌, ℕ, zero, suc, List, [], ◌∷◌, ◌++◌, Some, None, Ok, Err, refl, codes}
use Rattle.std.specs.declared.option.Option.{Option}
use Rattle.query_rules.specs.declared.query.Query.{Query}
use Rattle.query_rules.specs.declared.query.Query.TheVariants.{Get, Put, Del, Add, Cas, PutLen, Move, Give}
use Rattle.query_rules.specs.declared.query.Said.{Said}
use Rattle.query_rules.specs.declared.query.Said.TheVariants.{Found, Absent, New, Old, Full, Now, Over, Yes, No, NewCount, OldCount, Moved, Short, Same}
use Rattle.query_rules.specs.Maps.{no_entries, reply_of}
use Rattle.query_rules.specs.History.{replay, place_of}
use Rattle.std.specs.declared.result.Result.{Result}
use Rattle.query_rules.specs.declared.query.Cause.{Cause}
use Rattle.query_rules.specs.declared.query.Cause.TheVariants.{BadByte, Spacing, MissingCells, Unknown, WordCount, TooManyCallers, NoCaller, BadNumber, CellRange}
use Rattle.query_rules.specs.Words.{lines_of, words_of, number_of}
use Rattle.query_rules.specs.Grammar.{Asked, said_by, caller_line}
use Rattle.query_rules.specs.declared.query.LedgerAct.{LedgerAct}
use Rattle.query_rules.specs.declared.query.LedgerAct.TheVariants as job
use Rattle.query_rules.specs.declared.query.LedgerTold.TheVariants as told
use Rattle.query_rules.specs.declared.query.LedgerTrouble.TheVariants as trouble
use Rattle.query_rules.specs.Ledger.{LedgerResult, no_accounts, result_of, run_all, ledger_after, act_of}

-- what is said after these writes, the oldest first, to the query
abbrev said_after : ℕ → List Query → Query → Option Said
said_after rows writes q = reply_of rows (replay no_entries writes) q

-- a new key, its value, no other key, and an old value
new_key : said_after 1024 [] (Put 0 7 5) ≡ Some New
new_key = refl

found_key : said_after 1024 (Put 0 7 5 ∷ []) (Get 0 7) ≡ Some (Found 5)
found_key = refl

no_key : said_after 1024 (Put 0 7 5 ∷ []) (Get 0 8) ≡ Some Absent
no_key = refl

deleted : said_after 1024 (Put 0 7 5 ∷ []) (Del 0 7) ≡ Some (Old 5)
deleted = refl

gone : said_after 1024 (Put 0 7 5 ∷ Del 0 7 ∷ []) (Get 0 7) ≡ Some Absent
gone = refl

-- a full map refuses a new key and takes an old one
no_room : said_after 1 (Put 0 1 5 ∷ []) (Put 0 2 6) ≡ Some Full
no_room = refl

old_key : said_after 1 (Put 0 1 5 ∷ []) (Put 0 1 7) ≡ Some (Old 5)
old_key = refl

-- a sum past the greatest number
over : said_after 1024 (Put 0 1 18446744073709551615 ∷ []) (Add 0 1 1) ≡ Some Over
over = refl

raised : said_after 1024 (Put 0 1 5 ∷ []) (Add 0 1 2) ≡ Some (Now 7)
raised = refl

-- compare and set
changed : said_after 1024 (Put 0 1 5 ∷ []) (Cas 0 1 5 6) ≡ Some Yes
changed = refl

not_changed : said_after 1024 (Put 0 1 5 ∷ Cas 0 1 5 6 ∷ []) (Cas 0 1 5 7) ≡ Some (No 6)
not_changed = refl

nothing_to_change : said_after 1024 (Put 0 1 5 ∷ Cas 0 1 5 6 ∷ []) (Cas 0 2 0 1) ≡ Some Absent
nothing_to_change = refl

-- a put with the number of keys afterwards
second_key : said_after 1024 (Put 0 1 5 ∷ []) (PutLen 0 2 6) ≡ Some (NewCount 2)
second_key = refl

second_value : said_after 1024 (Put 0 1 5 ∷ PutLen 0 2 6 ∷ []) (PutLen 0 2 7) ≡ Some (OldCount 6 2)
second_value = refl

-- moves between two cells with one row each
too_little : said_after 1 (Put 0 1 5 ∷ []) (Move 0 1 1 9) ≡ Some (Short 5)
too_little = refl

moves : said_after 1 (Put 0 1 5 ∷ []) (Move 0 1 1 2) ≡ Some Moved
moves = refl

taken_from : said_after 1 (Put 0 1 5 ∷ Move 0 1 1 2 ∷ []) (Get 0 1) ≡ Some (Found 3)
taken_from = refl

given_to : said_after 1 (Put 0 1 5 ∷ Move 0 1 1 2 ∷ []) (Put 1 1 18446744073709551615) ≡ Some (Old 2)
given_to = refl

no_sum : said_after 1 (Put 0 1 5 ∷ Move 0 1 1 2 ∷ Put 1 1 18446744073709551615 ∷ []) (Move 0 1 1 1) ≡ Some Over
no_sum = refl

no_row : said_after 1 (Put 0 1 3 ∷ Put 1 2 0 ∷ []) (Move 0 1 1 1) ≡ Some Full
no_row = refl

one_cell : said_after 1 [] (Move 0 0 1 1) ≡ Some Same
one_cell = refl

-- the ledger's queries are none of the maps'
no_reply : said_after 1 [] (Give 1 1) ≡ None
no_reply = refl

-- write 1 stands at place 3, and a read after two writes at 4
place_of_write : place_of 1 New ≡ 3
place_of_write = refl

place_of_read : place_of 2 (Found 5) ≡ 4
place_of_read = refl

-- numbers have no leading zero, and end at 64 bits
number_zero : number_of (codes "0") ≡ Some 0
number_zero = refl

no_leading_zero : number_of (codes "01") ≡ None
no_leading_zero = refl

greatest : number_of (codes "18446744073709551615") ≡ Some 18446744073709551615
greatest = refl

too_great : number_of (codes "18446744073709551616") ≡ None
too_great = refl

-- the last line feed ends a line and begins none
two_lines : lines_of (97 ∷ 10 ∷ 98 ∷ 10 ∷ []) ≡ (97 ∷ []) ∷ (98 ∷ []) ∷ []
two_lines = refl

unended_line : lines_of (97 ∷ 10 ∷ 98 ∷ []) ≡ (97 ∷ []) ∷ (98 ∷ []) ∷ []
unended_line = refl

no_lines : lines_of [] ≡ []
no_lines = refl

-- two spaces have an empty word between them
empty_word : words_of (97 ∷ 32 ∷ 32 ∷ 98 ∷ []) ≡ (97 ∷ []) ∷ [] ∷ (98 ∷ []) ∷ []
empty_word = refl

-- the script `cells 1`, `caller` and this third line
abbrev third : List ℕ → Result Asked (ℕ × Cause)
third line = said_by (codes "cells 1" ++ (10 ∷ codes "caller" ++ (10 ∷ line)))

-- the last line may lack its end
accepted : third (codes "get 0 1") ≡ Ok (record { cells = 1; callers = (Get 0 1 ∷ []) ∷ [] })
accepted = refl

bad_number : third (codes "get 0 18446744073709551616") ≡ Err (3, BadNumber)
bad_number = refl

leading_zero : third (codes "get 0 01") ≡ Err (3, BadNumber)
leading_zero = refl

bad_byte : third (codes "get 0 1" ++ 13 ∷ []) ≡ Err (3, BadByte)
bad_byte = refl

unknown : third (codes "frob 0") ≡ Err (3, Unknown)
unknown = refl

word_count : third (codes "get 0") ≡ Err (3, WordCount)
word_count = refl

cell_range : third (codes "get 1 0") ≡ Err (3, CellRange)
cell_range = refl

spacing : third (codes "get  0 1") ≡ Err (3, Spacing)
spacing = refl

-- a query before the first caller
no_caller : said_by (codes "cells 1" ++ (10 ∷ codes "get 0 1")) ≡ Err (2, NoCaller)
no_caller = refl

-- no lines at all
missing : said_by [] ≡ Err (1, MissingCells)
missing = refl

-- a second caller
second_caller : third (codes "caller") ≡ Ok (record { cells = 1; callers = [] ∷ [] ∷ [] })
second_caller = refl

-- so many callers that ask nothing
abbrev idle : ℕ → List (List Query)
idle zero = []
idle (suc n) = [] ∷ idle n

last_caller : caller_line (record { cells = 1; callers = idle 63 }) (codes "caller" ∷ []) ≡ Ok (record { cells = 1; callers = idle 64 })
last_caller = refl

too_many_callers : caller_line (record { cells = 1; callers = idle 64 }) (codes "caller" ∷ []) ≡ Err TooManyCallers
too_many_callers = refl

-- too many words come first
too_many_words : caller_line (record { cells = 1; callers = idle 64 }) (codes "caller" ∷ codes "x" ∷ []) ≡ Err WordCount
too_many_words = refl

-- what a ledger with so many rows answers after these jobs, the oldest first
abbrev ledger_says : ℕ → List LedgerAct → LedgerAct → LedgerResult
ledger_says rows jobs act = result_of rows (run_all rows no_accounts jobs) act

opened : ledger_says 1024 [] (job.Give 1 10) ≡ Ok (told.Now 10)
opened = refl

taken_of : ledger_says 1024 (job.Give 1 10 ∷ []) (job.Take 1 4) ≡ Ok (told.Now 6)
taken_of = refl

-- no account falls below zero, and the refusal leaves it
short : ledger_says 1024 (job.Give 1 10 ∷ job.Take 1 4 ∷ []) (job.Take 1 9) ≡ Err (trouble.Short 6)
short = refl

sum_after_short : ledger_says 1024 (job.Give 1 10 ∷ job.Take 1 4 ∷ job.Take 1 9 ∷ []) job.Audit ≡ Ok (told.Sum 6)
sum_after_short = refl

too_much : ledger_says 1024 (job.Give 1 10 ∷ job.Take 1 4 ∷ job.Take 1 9 ∷ job.Audit ∷ []) (job.Give 1 18446744073709551615) ≡ Err trouble.Over
too_much = refl

-- an account that isn't there has 0, and is opened by a gift alone
short_of_nothing : ledger_says 1 [] (job.Take 1 1) ≡ Err (trouble.Short 0)
short_of_nothing = refl

nothing_of_nothing : ledger_says 1 [] (job.Take 1 0) ≡ Ok (told.Now 0)
nothing_of_nothing = refl

not_opened : ledger_says 1 (job.Take 1 0 ∷ []) (job.Give 2 5) ≡ Ok (told.Now 5)
not_opened = refl

-- an account that holds nothing still takes its row
no_account_more : ledger_says 1 (job.Give 2 5 ∷ job.Take 2 5 ∷ []) (job.Give 3 1) ≡ Err trouble.Full
no_account_more = refl

still_open : ledger_says 1 (job.Give 2 5 ∷ job.Take 2 5 ∷ []) (job.Give 2 1) ≡ Ok (told.Now 1)
still_open = refl

-- a sum isn't bounded as a balance is
great_sum : ledger_says 1024 (job.Give 1 18446744073709551615 ∷ job.Give 2 18446744073709551615 ∷ []) job.Audit ≡ Ok (told.Sum 36893488147419103230)
great_sum = refl

-- both orders of telling tell one ledger
two_orders : ledger_after 2 no_accounts (job.Take 1 4 ∷ job.Give 1 10 ∷ []) ≡ run_all 2 no_accounts (job.Give 1 10 ∷ job.Take 1 4 ∷ [])
two_orders = refl

-- the maps' queries are no jobs
no_act : act_of (Get 0 1) ≡ None
no_act = refl

an_act : act_of (Give 1 1) ≡ Some (job.Give 1 1)
an_act = refl
