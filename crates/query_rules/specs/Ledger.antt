-- The ledger: accounts with their balances, and what a job makes of them.
use Rattle.std.specs.Prelude.{◌≡◌, ℕ, ◌+◌, ◌-◌, ◌<◌, ◌==◌, Bool, false, List, [], ◌∷◌, Some, None, Ok, Err, length, take, slice_get, count_by, is_some, sum_by, if◌then◌else◌, nat_le, nat_lt}
use Rattle.std.specs.declared.option.Option.{Option}
use Rattle.std.specs.declared.result.Result.{Result}
use Rattle.std.specs.List.{AllByRecursion}
use Rattle.query_rules.specs.declared.query.Query.{Query}
use Rattle.query_rules.specs.declared.query.Query.TheVariants as query
use Rattle.query_rules.specs.declared.query.Account.{Account}
use Rattle.query_rules.specs.declared.query.LedgerAct.{LedgerAct}
use Rattle.query_rules.specs.declared.query.LedgerAct.TheVariants.{Give, Take, Audit}
use Rattle.query_rules.specs.declared.query.LedgerTold.{LedgerTold}
use Rattle.query_rules.specs.declared.query.LedgerTold.TheVariants.{Now, Sum}
use Rattle.query_rules.specs.declared.query.LedgerTrouble.{LedgerTrouble}
use Rattle.query_rules.specs.declared.query.LedgerTrouble.TheVariants.{Over, Full, Short}
use Rattle.query_rules.specs.declared.query.Reply.{Reply}
use Rattle.query_rules.specs.declared.query.Reply.TheVariants.{Placed, Busy, Late, Job}
use Rattle.query_rules.specs.Maps.{exceeds_u64}

-- the accounts in the order in which they were opened
abbrev pub Accounts : Type 0
Accounts = List Account

-- the opening ledger of a run
abbrev pub no_accounts : Accounts
no_accounts = []

-- what an account has, where it is there
abbrev pub balance_at : Accounts → ℕ → Option ℕ
balance_at [] key = None
balance_at (a ∷ more) key = if a.key == key then Some a.balance else balance_at more key

-- the accounts with this balance, in the old one's place or at the end
abbrev pub with_balance : Accounts → ℕ → ℕ → Accounts
with_balance [] key n = record { key = key; balance = n } ∷ []
with_balance (a ∷ more) key n = if a.key == key then record { key = key; balance = n } ∷ more else a ∷ with_balance more key n

-- the sum of all balances
abbrev pub sum_of : Accounts → ℕ
sum_of accounts = sum_by (λ (a : Account). a.balance) accounts

abbrev pub LedgerResult : Type 0
LedgerResult = Result LedgerTold LedgerTrouble

-- giving n to a key that has this: the result, and the accounts afterwards
abbrev pub given : ℕ → Accounts → ℕ → ℕ → Option ℕ → LedgerResult × Accounts
given rows accounts key n (Some w) = if exceeds_u64 (w + n) then (Err Over, accounts) else (Ok (Now (w + n)), with_balance accounts key (w + n))
given rows accounts key n None = if nat_le rows (length accounts) then (Err Full, accounts) else (Ok (Now n), with_balance accounts key n)

-- taking n from it: an account that isn't there has 0, and is opened by no one
abbrev pub taken : Accounts → ℕ → ℕ → Option ℕ → LedgerResult × Accounts
taken accounts key n (Some w) = if nat_lt w n then (Err (Short w), accounts) else (Ok (Now (w - n)), with_balance accounts key (w - n))
taken accounts key n None = if nat_lt 0 n then (Err (Short 0), accounts) else (Ok (Now 0), accounts)

-- what a job says and leaves, in a ledger with so many rows
abbrev pub ran : ℕ → Accounts → LedgerAct → LedgerResult × Accounts
ran rows accounts (Give key n) = given rows accounts key n (balance_at accounts key)
ran rows accounts (Take key n) = taken accounts key n (balance_at accounts key)
ran rows accounts Audit = (Ok (Sum (sum_of accounts)), accounts)

abbrev pub result_of : ℕ → Accounts → LedgerAct → LedgerResult
result_of rows accounts act = (ran rows accounts act).0

abbrev pub accounts_of : ℕ → Accounts → LedgerAct → Accounts
accounts_of rows accounts act = (ran rows accounts act).1

-- the accounts after these jobs, the newest first
abbrev pub ledger_after : ℕ → Accounts → List LedgerAct → Accounts
ledger_after rows opening [] = opening
ledger_after rows opening (act ∷ older) = accounts_of rows (ledger_after rows opening older) act

-- the accounts after these jobs, the oldest first
abbrev pub run_all : ℕ → Accounts → List LedgerAct → Accounts
run_all rows opening [] = opening
run_all rows opening (act ∷ later) = run_all rows (accounts_of rows opening act) later

-- the accounts after the first p of these jobs
abbrev pub ledger_at : ℕ → Accounts → List LedgerAct → ℕ → Accounts
ledger_at rows opening jobs p = run_all rows opening (take p jobs)

-- what a query asks of the ledger, where it asks the ledger
abbrev pub act_of : Query → Option LedgerAct
act_of (query.Give key n) = Some (Give key n)
act_of (query.Take key n) = Some (Take key n)
act_of query.Audit = Some Audit
act_of _ = None

-- how many of these ask the ledger
abbrev pub jobs_of : List Query → ℕ
jobs_of queries = count_by (λ (q : Query). is_some (act_of q)) queries

-- a job's reply has the result of its job on the ledger of its position, and that job is the one of these there
abbrev pub RunsAt : ℕ → Accounts → List LedgerAct → Query × Reply → Type 0
RunsAt rows opening jobs (q, Job at result) =
    (act : LedgerAct) × (act_of q ≡ Some act) × (slice_get jobs at ≡ Some act) × (result ≡ result_of rows (ledger_at rows opening jobs at) act)
RunsAt rows opening jobs (q, Placed place said) = Unit {0}
RunsAt rows opening jobs (q, Busy) = Unit {0}
RunsAt rows opening jobs (q, Late now) = Unit {0}

-- an entry has the position p
abbrev pub is_job_at : ℕ → Query × Reply → Bool
is_job_at p (q, Job at result) = at == p
is_job_at p (q, Placed place said) = false
is_job_at p (q, Busy) = false
is_job_at p (q, Late now) = false

-- there are jobs, each an entry once, such that every job's reply runs where its position says: so the positions are 0, 1, .. without a gap
pub record IsLegalLedger (rows : ℕ) (opening : Accounts) (all : List (Query × Reply)) : Type 0 where
  pub jobs : List LedgerAct
  pub stand : AllByRecursion (RunsAt rows opening jobs) all
  pub once : (p : ℕ) → p < length jobs → count_by (is_job_at p) all ≡ 1
