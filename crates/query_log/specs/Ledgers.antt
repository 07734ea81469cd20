-- A ledger as contracts see it.
use Rattle.std.specs.Prelude.{◌≡◌, ℕ, ◌-◌, List, [], ◌∷◌, ◌++◌, map}
use Rattle.query_rules.specs.Ledger.{Accounts, LedgerResult, no_accounts, run_all, result_of}
use Rattle.query_log.specs.declared.job.LedgerJob.{LedgerJob}
use Rattle.query_log.specs.declared.job.LedgerEntry.{LedgerEntry}

-- so many accounts there may be, so many jobs may still run, and these ran, the first one first
pub record LedgerView : Type 0 where
  pub rows : ℕ
  pub room : ℕ
  pub entries : List LedgerEntry

-- the accounts that these jobs make of none
abbrev pub made_by : ℕ → List LedgerEntry → Accounts
made_by rows entries = run_all rows no_accounts (map (λ (e : LedgerEntry). e.act) entries)

-- the accounts of a ledger: what its history makes of none
abbrev pub accounts_in : LedgerView → Accounts
accounts_in ledger = made_by ledger.rows ledger.entries

-- what is kept of a job that was told this
abbrev pub entry_of : LedgerJob → LedgerResult → LedgerEntry
entry_of job result = record { caller = job.caller; index = job.index; act = job.act; result = result }

-- the ledger after a job that was told this: one entry more, and room for one job less
abbrev pub with_job : LedgerView → LedgerJob → LedgerResult → LedgerView
with_job ledger job result = record { rows = ledger.rows; room = ledger.room - 1; entries = ledger.entries ++ entry_of job result ∷ [] }

-- the plain meaning of a job: it is told the result of its act on the accounts so far, and becomes the last entry
abbrev pub Means : LedgerView → LedgerJob → LedgerResult → LedgerView → Type 0
Means ledger job result after = (result ≡ result_of ledger.rows (accounts_in ledger) job.act) × (after ≡ with_job ledger job result)
