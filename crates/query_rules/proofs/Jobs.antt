-- The two orders of telling jobs, and one job more.
use Rattle.std.proofs.Common.{◌≡◌, ℕ, List, [], ◌∷◌, ◌++◌, refl}
use Rattle.query_rules.specs.declared.query.LedgerAct.{LedgerAct}
use Rattle.query_rules.specs.Ledger.{Accounts, accounts_of, run_all}

-- one job more, at the end
pub run_all_push : (rows : ℕ) (opening : Accounts) (jobs : List LedgerAct) (act : LedgerAct) → run_all rows opening (jobs ++ act ∷ []) ≡ accounts_of rows (run_all rows opening jobs) act
run_all_push rows opening [] act = refl
run_all_push rows opening (x ∷ jobs) act = run_all_push rows (accounts_of rows opening x) jobs act
