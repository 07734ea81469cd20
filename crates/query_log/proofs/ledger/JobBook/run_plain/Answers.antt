use Rattle.std.proofs.Common.{◌≡◌, List, [], ◌∷◌, ◌++◌, length, sym, ap, ◌∙◌, arith, cond, not}
use Rattle.std.proofs.lemmas.List.{length_push}
use Rattle.query_rules.specs.Ledger.{Accounts, accounts_of}
use Rattle.query_log.specs.declared.job.LedgerEntry.{LedgerEntry}
use Rattle.query_log.specs.Book.{Book}
use Rattle.query_log.specs.Ledgers.{LedgerView, made_by, accounts_in}
use Rattle.query_log.proofs.Histories.{made_push}
use Rattle.query_log.proofs.ledger.JobBook.run_plain.Goals as goal

pub invariant_of-self : goal.invariant_of-self
invariant_of-self c =
    let e : LedgerEntry = record { caller = c.args.job.caller; index = c.args.job.index; act = c.args.job.act; result = c.run-result.result } in
    let pushed : c.push.new.self.items ≡ c.self.inside.entries.items ++ e ∷ [] = c.push.ensures.items ∙ ap (λ b. cond b (c.self.inside.entries.items ++ e ∷ []) c.self.inside.entries.items) (c.is_err.ensures.negation ∙ ap not c.if-is_err.false) in
    let rows = ap (λ (b : Book). b.rows) c.run-result.ensures.accounts in
    let accounts = ap (λ (b : Book). b.accounts) c.run-result.ensures.accounts in
    let len = ap (λ (l : List LedgerEntry). length l) pushed ∙ length_push c.self.inside.entries.items e in (
      accounts
          ∙ ap (λ (a : Accounts). accounts_of c.self.inside.book.rows a c.args.job.act) c.self.invariant.0
          ∙ sym (made_push c.self.inside.book.rows c.self.inside.entries.items c.push.new.self.items e pushed)
          ∙ ap (λ r. made_by r c.push.new.self.items) (sym rows),
      (let room = c.self.invariant.1 in let more = c.push.ensures.capacity in let some = c.requires in let was = ap (λ (v : LedgerView). v.room) c.self.view_is in omega (arith, len, room, more, some, was)),
    )

pub returns-clause-accounts : goal.returns-clause-accounts
returns-clause-accounts c =
    let e : LedgerEntry = record { caller = c.args.job.caller; index = c.args.job.index; act = c.args.job.act; result = c.run-result.result } in
    let pushed : c.push.new.self.items ≡ c.self.inside.entries.items ++ e ∷ [] = c.push.ensures.items ∙ ap (λ b. cond b (c.self.inside.entries.items ++ e ∷ []) c.self.inside.entries.items) (c.is_err.ensures.negation ∙ ap not c.if-is_err.false) in
    let rows = ap (λ (b : Book). b.rows) c.run-result.ensures.accounts in
    ap (λ r. made_by r c.push.new.self.items) rows
    ∙ made_push c.self.inside.book.rows c.self.inside.entries.items c.push.new.self.items e pushed
    ∙ ap (λ (v : LedgerView). accounts_of v.rows (accounts_in v) c.args.job.act) c.self.view_is
