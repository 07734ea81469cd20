use Rattle.std.proofs.Common.{◌≡◌, ℕ, ◌<◌, ◌^◌, Some, [], ◌∷◌, ◌++◌, length, sym, ap, ◌∙◌, arith, cond, not, vec_capacity, nat_eq}
use Rattle.std.specs.HashMap.{get, spare}
use Rattle.query_rules.specs.Ledger.{Accounts}
use Rattle.query_log.specs.Book.{Book, place_of, changed}
use Rattle.query_log.proofs.Cells.{on_ok_from}
use Rattle.query_log.proofs.Places.{away, push_fits, kept_push}
use Rattle.query_log.proofs.accounts.AccountBook.open.Goals as goal

pub overflow_add-self : goal.overflow_add-self
overflow_add-self c =
    let some : length c.self.inside.accounts.items < c.self.inside.rows = (let a = ap (λ (b : Book). length b.accounts) c.self.view_is in let r = ap (λ (b : Book). b.rows) c.self.view_is in let room = c.requires.room in omega (arith, a, r, room)) in
    let bound : c.self.inside.rows < 2 ^ 64 = omega arith in
    let small : c.args.balance < 2 ^ 64 = omega arith in
    let fits = push_fits c.self.inside.rows c.self.inside.accounts.items c.args.balance c.self.inside.sum some bound small c.self.invariant.small c.self.invariant.total in
    omega (arith, fits)

pub invariant_of-self : goal.invariant_of-self
invariant_of-self c =
    let gone = ap (λ (b : Book). place_of b.accounts c.args.key) c.self.view_is ∙ c.requires.absent in
    let some : length c.self.inside.accounts.items < c.self.inside.rows = (let a = ap (λ (b : Book). length b.accounts) c.self.view_is in let r = ap (λ (b : Book). b.rows) c.self.view_is in let room = c.requires.room in omega (arith, a, r, room)) in
    let small : c.args.balance < 2 ^ 64 = omega arith in
    let at_end : c.len-place.result ≡ length c.self.inside.accounts.items = (let is = c.len-place.ensures in omega (arith, is)) in
    let put = on_ok_from c.insert.result (sym c.is_err.ensures.value ∙ c.if-is_err.false) c.insert.ensures.updates in
    let finds : (k : ℕ) → get nat_eq c.insert.new.self k ≡ cond (nat_eq c.args.key k) (Some (length c.self.inside.accounts.items)) (get nat_eq c.self.inside.places k) = λ k. put.0 k ∙ ap (λ (n : ℕ). cond (nat_eq c.args.key k) (Some n) (get nat_eq c.self.inside.places k)) at_end in
    let pushed : c.push.new.self.items ≡ c.self.inside.accounts.items ++ record { key = c.args.key; balance = c.args.balance } ∷ [] = c.push.ensures.items ∙ ap (λ b. cond b (c.self.inside.accounts.items ++ record { key = c.args.key; balance = c.args.balance } ∷ []) c.self.inside.accounts.items) (c.is_err-2.ensures.negation ∙ ap not c.if-is_err-2.false) in
    kept_push c.self.inside.rows c.self.inside.accounts.items c.push.new.self.items (vec_capacity c.self.inside.accounts) (vec_capacity c.push.new.self) (get nat_eq c.self.inside.places) (get nat_eq c.insert.new.self) (spare c.self.inside.places) (spare c.insert.new.self) c.self.inside.sum c.args.key c.args.balance
    c.self.invariant gone some small pushed c.push.ensures.capacity finds c.insert.ensures.spare

pub returns : goal.returns
returns c =
    let gone = ap (λ (b : Book). place_of b.accounts c.args.key) c.self.view_is ∙ c.requires.absent in
    let F : Accounts → Book = λ l. record { rows = c.self.inside.rows; accounts = l } in
    let pushed : c.push.new.self.items ≡ c.self.inside.accounts.items ++ record { key = c.args.key; balance = c.args.balance } ∷ [] = c.push.ensures.items ∙ ap (λ b. cond b (c.self.inside.accounts.items ++ record { key = c.args.key; balance = c.args.balance } ∷ []) c.self.inside.accounts.items) (c.is_err-2.ensures.negation ∙ ap not c.if-is_err-2.false) in
    ap F (pushed ∙ sym ((away c.self.inside.accounts.items c.args.key gone).changed c.args.balance)) ∙ ap (λ (b : Book). changed b c.args.key c.args.balance) c.self.view_is
