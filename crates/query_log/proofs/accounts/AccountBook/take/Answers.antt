use Rattle.std.proofs.Common.{ℕ, ◌<◌, ◌≤◌, Some, sym, ap, ◌∙◌, arith}
use Rattle.query_rules.specs.Ledger.{Accounts, LedgerResult}
use Rattle.query_log.specs.Book.{Book}
use Rattle.query_log.proofs.Places.{there, away, taken_short, taken_now, taken_nothing, taken_zero}
use Rattle.query_log.proofs.accounts.AccountBook.take.Goals as goal

abbrev said : LedgerResult × Accounts → LedgerResult
said p = p.0

abbrev left : ℕ → LedgerResult × Accounts → Book
left rows p = record { rows = rows; accounts = p.1 }

pub balance-balance-requires : goal.balance-balance-requires
balance-balance-requires c = (there c.args.self.now.accounts c.args.key c.in-Some.place (sym c.in-Some.ensures)).below

pub returns-then-balance-n-clause-result : goal.returns-then-balance-n-clause-result
returns-then-balance-n-clause-result c =
    let w = (there c.args.self.now.accounts c.args.key c.in-Some.place (sym c.in-Some.ensures)).balance ∙ ap (λ (x : ℕ). Some x) (sym c.balance-balance.ensures) in
    sym (ap said (taken_short c.args.self.now.rows c.args.self.now.accounts c.args.key c.args.n c.balance-balance.result w c.if-balance-n.true))

pub returns-then-balance-n-clause-accounts : goal.returns-then-balance-n-clause-accounts
returns-then-balance-n-clause-accounts c =
    let w = (there c.args.self.now.accounts c.args.key c.in-Some.place (sym c.in-Some.ensures)).balance ∙ ap (λ (x : ℕ). Some x) (sym c.balance-balance.ensures) in
    sym (ap (left c.args.self.now.rows) (taken_short c.args.self.now.rows c.args.self.now.accounts c.args.key c.args.n c.balance-balance.result w c.if-balance-n.true))

pub returns-else-balance-n-clause-result : goal.returns-else-balance-n-clause-result
returns-else-balance-n-clause-result c =
    let w = (there c.args.self.now.accounts c.args.key c.in-Some.place (sym c.in-Some.ensures)).balance ∙ ap (λ (x : ℕ). Some x) (sym c.balance-balance.ensures) in
    sym (ap said (taken_now c.args.self.now.rows c.args.self.now.accounts c.args.key c.args.n c.balance-balance.result w c.if-balance-n.false))

pub returns-else-balance-n-clause-accounts : goal.returns-else-balance-n-clause-accounts
returns-else-balance-n-clause-accounts c =
    let w = (there c.args.self.now.accounts c.args.key c.in-Some.place (sym c.in-Some.ensures)).balance ∙ ap (λ (x : ℕ). Some x) (sym c.balance-balance.ensures) in
    c.set.ensures ∙ sym (ap (left c.args.self.now.rows) (taken_now c.args.self.now.rows c.args.self.now.accounts c.args.key c.args.n c.balance-balance.result w c.if-balance-n.false))

pub returns-in-None-clause-result : goal.returns-in-None-clause-result
returns-in-None-clause-result c =
    let none = (away c.args.self.now.accounts c.args.key (sym c.in-None.ensures)).balance in
    let some : 0 < c.args.n = omega arith in
    sym (ap said (taken_nothing c.args.self.now.rows c.args.self.now.accounts c.args.key c.args.n none some))

pub returns-in-None-clause-accounts : goal.returns-in-None-clause-accounts
returns-in-None-clause-accounts c =
    let none = (away c.args.self.now.accounts c.args.key (sym c.in-None.ensures)).balance in
    let some : 0 < c.args.n = omega arith in
    sym (ap (left c.args.self.now.rows) (taken_nothing c.args.self.now.rows c.args.self.now.accounts c.args.key c.args.n none some))

pub returns-in-None-2-clause-result : goal.returns-in-None-2-clause-result
returns-in-None-2-clause-result c =
    let none = (away c.args.self.now.accounts c.args.key (sym c.in-None-2.ensures)).balance in
    let zero_is : c.args.n ≤ 0 = omega arith in
    sym (ap said (taken_zero c.args.self.now.rows c.args.self.now.accounts c.args.key c.args.n none zero_is))

pub returns-in-None-2-clause-accounts : goal.returns-in-None-2-clause-accounts
returns-in-None-2-clause-accounts c =
    let none = (away c.args.self.now.accounts c.args.key (sym c.in-None-2.ensures)).balance in
    let zero_is : c.args.n ≤ 0 = omega arith in
    sym (ap (left c.args.self.now.rows) (taken_zero c.args.self.now.rows c.args.self.now.accounts c.args.key c.args.n none zero_is))
