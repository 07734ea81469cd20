use Rattle.std.proofs.Common.{◌≡◌, ℕ, ◌+◌, ◌-◌, ◌<◌, ◌^◌, length, set, sym, ap, ◌∙◌, arith, subst, vec_capacity, nat_eq}
use Rattle.std.specs.HashMap.{get, spare}
use Rattle.std.proofs.lemmas.List.{get_or_read}
use Rattle.query_rules.specs.declared.query.Account.{Account}
use Rattle.query_rules.specs.Ledger.{Accounts}
use Rattle.query_log.specs.Book.{Book, place_of, IsKept, changed}
use Rattle.query_log.proofs.Places.{there, at, at_among, nothing, set_fits, kept_set}
use Rattle.query_log.proofs.accounts.AccountBook.set.Goals as goal

pub index-requires : goal.index-requires
index-requires c =
    let here = ap (λ (b : Book). place_of b.accounts c.args.key) c.self.view_is ∙ c.requires in
    let below : c.args.place < length c.self.inside.accounts.items = (there c.self.inside.accounts.items c.args.key c.args.place here).below in
    omega (arith, below)

pub overflow_sub-self : goal.overflow_sub-self
overflow_sub-self c =
    let here = ap (λ (b : Book). place_of b.accounts c.args.key) c.self.view_is ∙ c.requires in
    let below : c.args.place < length c.self.inside.accounts.items = (there c.self.inside.accounts.items c.args.key c.args.place here).below in
    let old : c.index.result.now.balance ≡ at c.self.inside.accounts.items c.args.place = ap (λ (a : Account). a.balance) (get_or_read c.self.inside.accounts.items c.args.place c.index.result.now below c.index.ensures nothing) in
    let among = at_among c.self.inside.accounts.items c.args.place in
    let total = c.self.invariant.total in
    omega (arith, old, among, total)

pub overflow_add-self : goal.overflow_add-self
overflow_add-self c =
    let here = ap (λ (b : Book). place_of b.accounts c.args.key) c.self.view_is ∙ c.requires in
    let below : c.args.place < length c.self.inside.accounts.items = (there c.self.inside.accounts.items c.args.key c.args.place here).below in
    let old : c.index.result.now.balance ≡ at c.self.inside.accounts.items c.args.place = ap (λ (a : Account). a.balance) (get_or_read c.self.inside.accounts.items c.args.place c.index.result.now below c.index.ensures nothing) in
    let bound : c.self.inside.rows < 2 ^ 64 = omega arith in
    let small : c.args.balance < 2 ^ 64 = omega arith in
    let fits = set_fits c.self.inside.rows c.self.inside.accounts.items c.args.place c.args.key c.args.balance c.self.inside.sum below c.self.invariant.few bound small c.self.invariant.small c.self.invariant.total in
    omega (arith, old, fits)

pub index_mut-requires : goal.index_mut-requires
index_mut-requires c =
    let here = ap (λ (b : Book). place_of b.accounts c.args.key) c.self.view_is ∙ c.requires in
    let below : c.args.place < length c.self.inside.accounts.items = (there c.self.inside.accounts.items c.args.key c.args.place here).below in
    omega (arith, below)

pub invariant_of-self : goal.invariant_of-self
invariant_of-self c =
    let here = ap (λ (b : Book). place_of b.accounts c.args.key) c.self.view_is ∙ c.requires in
    let below : c.args.place < length c.self.inside.accounts.items = (there c.self.inside.accounts.items c.args.key c.args.place here).below in
    let old : c.index.result.now.balance ≡ at c.self.inside.accounts.items c.args.place = ap (λ (a : Account). a.balance) (get_or_read c.self.inside.accounts.items c.args.place c.index.result.now below c.index.ensures nothing) in
    let small : c.args.balance < 2 ^ 64 = omega arith in
    let P : ℕ → Type 0 = λ x. IsKept c.self.inside.rows (set c.self.inside.accounts.items c.args.place (record { key = c.args.key; balance = c.args.balance })) (vec_capacity c.self.inside.accounts) (get nat_eq c.self.inside.places) (spare c.self.inside.places) (c.self.inside.sum - x + c.args.balance) in
    subst P (sym old) (kept_set c.self.inside.rows c.self.inside.accounts.items (vec_capacity c.self.inside.accounts) (get nat_eq c.self.inside.places) (spare c.self.inside.places) c.self.inside.sum c.args.key c.args.place c.args.balance c.self.invariant here small)

pub returns : goal.returns
returns c =
    let here = ap (λ (b : Book). place_of b.accounts c.args.key) c.self.view_is ∙ c.requires in
    let F : Accounts → Book = λ l. record { rows = c.self.inside.rows; accounts = l } in
    ap F (sym ((there c.self.inside.accounts.items c.args.key c.args.place here).changed c.args.balance)) ∙ ap (λ (b : Book). changed b c.args.key c.args.balance) c.self.view_is
