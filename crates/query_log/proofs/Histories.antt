-- One entry more of a ledger's history.
use Rattle.std.proofs.Common.{◌≡◌, ℕ, List, [], ◌∷◌, ◌++◌, map, ap, ◌∙◌}
use Rattle.std.proofs.lemmas.List.{map_push}
use Rattle.query_rules.specs.declared.query.LedgerAct.{LedgerAct}
use Rattle.query_rules.specs.Ledger.{no_accounts, run_all, accounts_of}
use Rattle.query_rules.proofs.Jobs.{run_all_push}
use Rattle.query_log.specs.declared.job.LedgerEntry.{LedgerEntry}
use Rattle.query_log.specs.Ledgers.{made_by}

pub made_push : (rows : ℕ) (entries items : List LedgerEntry) (e : LedgerEntry) → items ≡ entries ++ e ∷ [] → made_by rows items ≡ accounts_of rows (made_by rows entries) e.act
made_push rows entries items e is =
    let act : LedgerEntry → LedgerAct = λ x. x.act in
    ap (made_by rows) is ∙ ap (run_all rows no_accounts) (map_push act entries e) ∙ run_all_push rows no_accounts (map act entries) e.act
