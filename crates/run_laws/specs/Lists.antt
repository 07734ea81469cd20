-- What the own lists of passes have of the replies of an outcome.
use Rattle.std.specs.Prelude.{ℕ, ◌+◌, ◌/◌, List, [], ◌∷◌, ◌++◌, Some, None, if◌then◌else◌}
use Rattle.std.specs.declared.option.Option.{Option}
use Rattle.query_rules.specs.declared.query.Query.{Query}
use Rattle.query_rules.specs.declared.query.LedgerAct.{LedgerAct}
use Rattle.query_rules.specs.declared.query.Reply.{Reply}
use Rattle.query_rules.specs.declared.query.Reply.TheVariants.{Placed, Busy, Late, Job}
use Rattle.query_rules.specs.Maps.{is_write}
use Rattle.query_rules.specs.Ledger.{LedgerResult, act_of}
use Rattle.map_cargo.specs.declared.entry.Entry.{Entry}
use Rattle.map_cargo.specs.declared.entry.Told.{Told}
use Rattle.map_cargo.specs.declared.entry.Told.TheVariants.{Wrote, Read, Refused}
use Rattle.query_cells.specs.Asked.{LedgerRun, entry_for, answer_for}

-- what a pass of the hall tells of a reply that stands behind n writes
abbrev pub told_as : ℕ → Entry → Told
told_as n e = if is_write e.said then Wrote n e else Read n e

-- and of any reply to a caller's query: one without a place is told as refused, and a job not at all
abbrev pub told_of : ℕ → ℕ → Query → Reply → List Told
told_of caller index q (Placed place said) = told_as (place / 2) (entry_for caller index q said) ∷ []
told_of caller index q Busy = Refused caller index q Busy ∷ []
told_of caller index q (Late now) = Refused caller index q (Late now) ∷ []
told_of caller index q (Job at result) = []

-- of a caller's replies from this index on, the last one's in front
abbrev pub told_from : ℕ → ℕ → List Query → List Reply → List Told
told_from caller index [] replies = []
told_from caller index (q ∷ queries) [] = []
told_from caller index (q ∷ queries) (reply ∷ replies) = told_from caller (index + 1) queries replies ++ told_of caller index q reply

-- of the replies to all callers from this number on, the last caller's in front
abbrev pub all_told : ℕ → List (List Query) → List (List Reply) → List Told
all_told caller [] told = []
all_told caller (queries ∷ callers) [] = []
all_told caller (queries ∷ callers) (replies ∷ told) = all_told (caller + 1) callers told ++ told_from caller 0 queries replies

-- a job under its caller and index, with its answer, where there is a job
abbrev pub answered_as : ℕ → ℕ → ℕ → LedgerResult → Option LedgerAct → List LedgerRun
answered_as caller index at result (Some act) = answer_for caller index act at result ∷ []
answered_as caller index at result None = []

-- what a pass of the ledger's lock lists of a reply: the job of the query, with what the reply tells
abbrev pub answer_of : ℕ → ℕ → Query → Reply → List LedgerRun
answer_of caller index q (Placed place said) = []
answer_of caller index q Busy = []
answer_of caller index q (Late now) = []
answer_of caller index q (Job at result) = answered_as caller index at result (act_of q)

-- of a caller's replies from this index on, in their order
abbrev pub answers_from : ℕ → ℕ → List Query → List Reply → List LedgerRun
answers_from caller index [] replies = []
answers_from caller index (q ∷ queries) [] = []
answers_from caller index (q ∷ queries) (reply ∷ replies) = answer_of caller index q reply ++ answers_from caller (index + 1) queries replies

-- of the replies to all callers from this number on, in their order
abbrev pub all_answers : ℕ → List (List Query) → List (List Reply) → List LedgerRun
all_answers caller [] told = []
all_answers caller (queries ∷ callers) [] = []
all_answers caller (queries ∷ callers) (replies ∷ told) = answers_from caller 0 queries replies ++ all_answers (caller + 1) callers told
