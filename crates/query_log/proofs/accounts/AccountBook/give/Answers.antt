use Rattle.std.proofs.Common.{◌≡◌, ℕ, ◌+◌, ◌<◌, ◌≤◌, ◌^◌, Some, sym, ap, ◌∙◌, arith}
use Rattle.query_rules.specs.Ledger.{Accounts, LedgerResult}
use Rattle.query_log.specs.Book.{Book}
use Rattle.query_log.proofs.Places.{there, away, given_over, given_now, given_full, given_open}
use Rattle.query_log.proofs.accounts.AccountBook.give.Goals as goal

abbrev said : LedgerResult × Accounts → LedgerResult
said p = p.0

abbrev left : ℕ → LedgerResult × Accounts → Book
left rows p = record { rows = rows; accounts = p.1 }

pub balance-requires : goal.balance-requires
balance-requires c = (there c.args.self.now.accounts c.args.key c.in-Some.place (sym c.in-Some.ensures)).below

pub returns-in_default-clause-result : goal.returns-in_default-clause-result
returns-in_default-clause-result c =
    let w = (there c.args.self.now.accounts c.args.key c.in-Some.place (sym c.in-Some.ensures)).balance ∙ ap (λ (x : ℕ). Some x) (sym c.balance.ensures) in
    let over : 2 ^ 64 ≤ c.balance.result + c.args.n = omega (arith, c.in_default.ensures) in
    sym (ap said (given_over c.args.self.now.rows c.args.self.now.accounts c.args.key c.args.n c.balance.result w over))

pub returns-in_default-clause-accounts : goal.returns-in_default-clause-accounts
returns-in_default-clause-accounts c =
    let w = (there c.args.self.now.accounts c.args.key c.in-Some.place (sym c.in-Some.ensures)).balance ∙ ap (λ (x : ℕ). Some x) (sym c.balance.ensures) in
    let over : 2 ^ 64 ≤ c.balance.result + c.args.n = omega (arith, c.in_default.ensures) in
    sym (ap (left c.args.self.now.rows) (given_over c.args.self.now.rows c.args.self.now.accounts c.args.key c.args.n c.balance.result w over))

pub returns-in-Some-checked_add-clause-result : goal.returns-in-Some-checked_add-clause-result
returns-in-Some-checked_add-clause-result c =
    let w = (there c.args.self.now.accounts c.args.key c.in-Some.place (sym c.in-Some.ensures)).balance ∙ ap (λ (x : ℕ). Some x) (sym c.balance.ensures) in
    let is : c.in-Some-checked_add.sum ≡ c.balance.result + c.args.n = omega (arith, c.in-Some-checked_add.ensures) in
    let fits : c.in-Some-checked_add.sum < 2 ^ 64 = omega (arith, c.in-Some-checked_add.ensures) in
    sym (ap said (given_now c.args.self.now.rows c.args.self.now.accounts c.args.key c.args.n c.balance.result c.in-Some-checked_add.sum w is fits))

pub returns-in-Some-checked_add-clause-accounts : goal.returns-in-Some-checked_add-clause-accounts
returns-in-Some-checked_add-clause-accounts c =
    let w = (there c.args.self.now.accounts c.args.key c.in-Some.place (sym c.in-Some.ensures)).balance ∙ ap (λ (x : ℕ). Some x) (sym c.balance.ensures) in
    let is : c.in-Some-checked_add.sum ≡ c.balance.result + c.args.n = omega (arith, c.in-Some-checked_add.ensures) in
    let fits : c.in-Some-checked_add.sum < 2 ^ 64 = omega (arith, c.in-Some-checked_add.ensures) in
    c.set.ensures ∙ sym (ap (left c.args.self.now.rows) (given_now c.args.self.now.rows c.args.self.now.accounts c.args.key c.args.n c.balance.result c.in-Some-checked_add.sum w is fits))

pub returns-in-None-clause-result : goal.returns-in-None-clause-result
returns-in-None-clause-result c =
    let none = (away c.args.self.now.accounts c.args.key (sym c.in-None.ensures)).balance in
    sym (ap said (given_full c.args.self.now.rows c.args.self.now.accounts c.args.key c.args.n none (sym c.is_full.ensures ∙ c.if-is_full.true)))

pub returns-in-None-clause-accounts : goal.returns-in-None-clause-accounts
returns-in-None-clause-accounts c =
    let none = (away c.args.self.now.accounts c.args.key (sym c.in-None.ensures)).balance in
    sym (ap (left c.args.self.now.rows) (given_full c.args.self.now.rows c.args.self.now.accounts c.args.key c.args.n none (sym c.is_full.ensures ∙ c.if-is_full.true)))

pub returns-in-None-2-clause-result : goal.returns-in-None-2-clause-result
returns-in-None-2-clause-result c =
    let none = (away c.args.self.now.accounts c.args.key (sym c.in-None-2.ensures)).balance in
    sym (ap said (given_open c.args.self.now.rows c.args.self.now.accounts c.args.key c.args.n none (sym c.is_full.ensures ∙ c.if-is_full.false)))

pub returns-in-None-2-clause-accounts : goal.returns-in-None-2-clause-accounts
returns-in-None-2-clause-accounts c =
    let none = (away c.args.self.now.accounts c.args.key (sym c.in-None-2.ensures)).balance in
    c.open.ensures ∙ sym (ap (left c.args.self.now.rows) (given_open c.args.self.now.rows c.args.self.now.accounts c.args.key c.args.n none (sym c.is_full.ensures ∙ c.if-is_full.false)))
