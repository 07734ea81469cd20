-- The ledger after gifts of 1 to sixteen accounts: how great a balance is, how many accounts there are, and what they sum to.
use Rattle.std.proofs.Common.{◌≡◌, ◌≢◌, inl, inr, ℕ, ◌+◌, ◌^◌, ◌<◌, ◌≤◌, ◌==◌, ◌&&◌, nat_lt, nat_le, List, [], ◌∷◌, length, Some, None, Option, is_some, unwrap_or, refl, sym, ap, ◌∙◌, subst, arith, Bool, true, false, cond, eq-eqb, ne_eqb, eqb-true}
use Rattle.std.specs.List.{AllByRecursion}
use Rattle.std.proofs.lemmas.Bool.{cases_eq, and_parts}
use Rattle.std.proofs.lemmas.List.Sums.{sum_by-cons}
use Rattle.query_rules.specs.declared.query.Account.{Account}
use Rattle.query_rules.specs.declared.query.LedgerAct.{LedgerAct}
use Rattle.query_rules.specs.declared.query.LedgerAct.TheVariants.{Give, Take, Audit}
use Rattle.query_rules.specs.Ledger.{Accounts, no_accounts, balance_at, with_balance, sum_of, given, accounts_of, run_all}
use Rattle.query_rules.specs.Maps.{exceeds_u64}
use Rattle.query_rules.specs.Soak.{sum_below}
use Rattle.soak_laws.proofs.Sums.{below_at, below_fewer, below_none}

abbrev pub is_fine_gift : LedgerAct → Bool
is_fine_gift (Give key n) = nat_lt key 16 && n == 1
is_fine_gift _ = false

abbrev pub balance_or : Option ℕ → ℕ
balance_or o = unwrap_or o 0

abbrev pub has_account : Accounts → ℕ → ℕ
has_account accounts key = cond (is_some (balance_at accounts key)) 1 0

account_le : (o : Option ℕ) → cond (is_some o) 1 0 ≤ 1
account_le (Some n) = omega arith
account_le None = omega arith

-- an account that is set
with_here : (accounts : Accounts) (key n : ℕ) → balance_at (with_balance accounts key n) key ≡ Some n
with_here [] key n = ap (λ b. cond b (Some n) None) (eq-eqb key key refl)
with_here (a ∷ more) key n = by_test (with_here more key n) (a.key == key) refl
  where
    by_test : balance_at (with_balance more key n) key ≡ Some n → (b : Bool) → (a.key == key) ≡ b → balance_at (with_balance (a ∷ more) key n) key ≡ Some n
    by_test rest true is = ap (λ b. balance_at (cond b (record { key = key; balance = n } ∷ more) (a ∷ with_balance more key n)) key) is ∙ ap (λ b. cond b (Some n) (balance_at more key)) (eq-eqb key key refl)
    by_test rest false is = ap (λ b. balance_at (cond b (record { key = key; balance = n } ∷ more) (a ∷ with_balance more key n)) key) is ∙ ap (λ b. cond b (Some a.balance) (balance_at (with_balance more key n) key)) is ∙ rest

with_else : (accounts : Accounts) (key n k : ℕ) → k ≢ key → balance_at (with_balance accounts key n) k ≡ balance_at accounts k
with_else [] key n k ne = ap (λ b. cond b (Some n) None) (ne_eqb key k (λ e. ne (sym e)))
with_else (a ∷ more) key n k ne = by_test (with_else more key n k ne) (a.key == key) refl
  where
    by_test : balance_at (with_balance more key n) k ≡ balance_at more k → (b : Bool) → (a.key == key) ≡ b → balance_at (with_balance (a ∷ more) key n) k ≡ balance_at (a ∷ more) k
    by_test rest true is =
        let same : a.key ≡ key = eqb-true a.key key is in
        ap (λ b. balance_at (cond b (record { key = key; balance = n } ∷ more) (a ∷ with_balance more key n)) k) is
        ∙ ap (λ b. cond b (Some n) (balance_at more k)) (ne_eqb key k (λ e. ne (sym e)))
        ∙ sym (ap (λ b. cond b (Some a.balance) (balance_at more k)) (ne_eqb a.key k (λ e. ne (sym e ∙ same))))
    by_test rest false is =
        ap (λ b. balance_at (cond b (record { key = key; balance = n } ∷ more) (a ∷ with_balance more key n)) k) is
        ∙ ap (λ (o : Option ℕ). cond (a.key == k) (Some a.balance) o) rest

-- the length and the sum, by whether the account is there
abbrev grown : Option ℕ → ℕ → ℕ
grown (Some w) len = len
grown None len = len + 1

with_length : (accounts : Accounts) (key n : ℕ) → length (with_balance accounts key n) ≡ grown (balance_at accounts key) (length accounts)
with_length [] key n = refl
with_length (a ∷ more) key n = by_test (with_length more key n) (a.key == key) refl
  where
    longer : (o : Option ℕ) (len : ℕ) → grown o len + 1 ≡ grown o (len + 1)
    longer (Some w) len = refl
    longer None len = refl

    by_test : length (with_balance more key n) ≡ grown (balance_at more key) (length more) → (b : Bool) → (a.key == key) ≡ b → length (with_balance (a ∷ more) key n) ≡ grown (balance_at (a ∷ more) key) (length (a ∷ more))
    by_test rest true is =
        ap (λ b. length (cond b (record { key = key; balance = n } ∷ more) (a ∷ with_balance more key n))) is
        ∙ sym (ap (λ b. grown (cond b (Some a.balance) (balance_at more key)) (length (a ∷ more))) is)
    by_test rest false is =
        let up = longer (balance_at more key) (length more) in
        let size : length (a ∷ with_balance more key n) ≡ grown (balance_at more key) (length more) + 1 = omega (arith, rest) in
        let len : grown (balance_at more key) (length more + 1) ≡ grown (balance_at more key) (length (a ∷ more)) = ap (grown (balance_at more key)) (omega arith) in
        ap (λ b. length (cond b (record { key = key; balance = n } ∷ more) (a ∷ with_balance more key n))) is
        ∙ size ∙ up ∙ len
        ∙ sym (ap (λ b. grown (cond b (Some a.balance) (balance_at more key)) (length (a ∷ more))) is)

with_sum : (accounts : Accounts) (key n : ℕ) → sum_of (with_balance accounts key n) + balance_or (balance_at accounts key) ≡ sum_of accounts + n
with_sum [] key n = let one = sum_by-cons (λ (a : Account). a.balance) record { key = key; balance = n } [] in omega (arith, one)
with_sum (a ∷ more) key n = by_test (with_sum more key n) (a.key == key) refl
  where
    by_test : sum_of (with_balance more key n) + balance_or (balance_at more key) ≡ sum_of more + n → (b : Bool) → (a.key == key) ≡ b → sum_of (with_balance (a ∷ more) key n) + balance_or (balance_at (a ∷ more) key) ≡ sum_of (a ∷ more) + n
    by_test rest true is =
        let now = sum_by-cons (λ (x : Account). x.balance) record { key = key; balance = n } more in
        let was = sum_by-cons (λ (x : Account). x.balance) a more in
        let list : sum_of (with_balance (a ∷ more) key n) ≡ sum_of (record { key = key; balance = n } ∷ more) = ap (λ b. sum_of (cond b (record { key = key; balance = n } ∷ more) (a ∷ with_balance more key n))) is in
        let had : balance_or (balance_at (a ∷ more) key) ≡ a.balance = ap (λ b. balance_or (cond b (Some a.balance) (balance_at more key))) is in
        omega (arith, now, was, list, had)
    by_test rest false is =
        let now = sum_by-cons (λ (x : Account). x.balance) a (with_balance more key n) in
        let was = sum_by-cons (λ (x : Account). x.balance) a more in
        let list : sum_of (with_balance (a ∷ more) key n) ≡ sum_of (a ∷ with_balance more key n) = ap (λ b. sum_of (cond b (record { key = key; balance = n } ∷ more) (a ∷ with_balance more key n))) is in
        let had : balance_or (balance_at (a ∷ more) key) ≡ balance_or (balance_at more key) = ap (λ b. balance_or (cond b (Some a.balance) (balance_at more key))) is in
        omega (arith, now, was, list, had, rest)

-- after so many gifts: no balance is above their number, the accounts are counted, and they sum to the number
pub record Given (many : ℕ) (accounts : Accounts) : Type 0 where
  pub low : (key : ℕ) → balance_or (balance_at accounts key) ≤ many
  pub count : length accounts ≡ sum_below 16 (has_account accounts)
  pub sum : sum_of accounts ≡ many

pub given_none : Given 0 no_accounts
given_none = record { low = λ key. omega arith; count = sym (below_none 16 (has_account no_accounts) (λ i. refl)); sum = refl }

-- one gift more
given_more : (many : ℕ) (accounts : Accounts) (key : ℕ) → key < 16 → Given many accounts → Given (many + 1) (with_balance accounts key (balance_or (balance_at accounts key) + 1))
given_more many accounts key near so =
    let n = balance_or (balance_at accounts key) + 1 in
    let after : Accounts = with_balance accounts key n in
    let here : has_account after key ≡ 1 = ap (λ (o : Option ℕ). cond (is_some o) 1 0) (with_here accounts key n) in
    let others : (k : ℕ) → k ≢ key → has_account after k ≡ has_account accounts k = λ k ne. ap (λ (o : Option ℕ). cond (is_some o) 1 0) (with_else accounts key n k ne) in
    let sums = with_sum accounts key n in
    let long = with_length accounts key n in
    record {
      low = λ k. elim (cases_eq k key) [
        | inl e ↦ subst (λ j. balance_or (balance_at after j) ≤ many + 1) (sym e) (let b = ap balance_or (with_here accounts key n) in let l = so.low key in omega (arith, b, l))
        | inr ne ↦ let b = ap balance_or (with_else accounts key n k ne) in let l = so.low k in omega (arith, b, l)
      ];
      count = counted (balance_at accounts key) refl here others long;
      sum = let s = so.sum in omega (arith, sums, s);
    }
  where
    counted : (o : Option ℕ) → balance_at accounts key ≡ o
        → has_account (with_balance accounts key (balance_or (balance_at accounts key) + 1)) key ≡ 1
        → ((k : ℕ) → k ≢ key → has_account (with_balance accounts key (balance_or (balance_at accounts key) + 1)) k ≡ has_account accounts k)
        → length (with_balance accounts key (balance_or (balance_at accounts key) + 1)) ≡ grown (balance_at accounts key) (length accounts)
        → length (with_balance accounts key (balance_or (balance_at accounts key) + 1)) ≡ sum_below 16 (has_account (with_balance accounts key (balance_or (balance_at accounts key) + 1)))
    counted (Some w) is here others long =
        let had : has_account accounts key ≡ 1 = ap (λ (o : Option ℕ). cond (is_some o) 1 0) is in
        let same = below_at 16 (has_account accounts) (has_account (with_balance accounts key (balance_or (balance_at accounts key) + 1))) key 0 near (omega (arith, here, had)) others in
        let len : grown (balance_at accounts key) (length accounts) ≡ length accounts = ap (λ (o : Option ℕ). grown o (length accounts)) is in
        let was = so.count in omega (arith, same, len, long, was)
    counted None is here others long =
        let had : has_account accounts key ≡ 0 = ap (λ (o : Option ℕ). cond (is_some o) 1 0) is in
        let up = below_at 16 (has_account accounts) (has_account (with_balance accounts key (balance_or (balance_at accounts key) + 1))) key 1 near (omega (arith, here, had)) others in
        let len : grown (balance_at accounts key) (length accounts) ≡ length accounts + 1 = ap (λ (o : Option ℕ). grown o (length accounts)) is in
        let was = so.count in omega (arith, up, len, long, was)

-- a gift is taken: there is room, and the sum fits
not_over : (n : ℕ) → n < 2 ^ 64 → exceeds_u64 n ≡ false
not_over n fits = grind (arith, fits)

gift_taken : (many : ℕ) (accounts : Accounts) (key : ℕ) → key < 16 → many ≤ 1000000 → Given many accounts → accounts_of 16 accounts (Give key 1) ≡ with_balance accounts key (balance_or (balance_at accounts key) + 1)
gift_taken many accounts key near few so = by_balance (balance_at accounts key) refl
  where
    by_balance : (o : Option ℕ) → balance_at accounts key ≡ o → (given 16 accounts key 1 (balance_at accounts key)).1 ≡ with_balance accounts key (balance_or (balance_at accounts key) + 1)
    by_balance (Some w) is =
        let low : w ≤ many = subst (λ (o : Option ℕ). balance_or o ≤ many) is (so.low key) in
        ap (λ (o : Option ℕ). (given 16 accounts key 1 o).1) is
        ∙ taken (exceeds_u64 (w + 1)) w (not_over (w + 1) (omega (arith, low, few)))
        ∙ sym (ap (λ (o : Option ℕ). with_balance accounts key (balance_or o + 1)) is)
      where
        taken : (b : Bool) (w : ℕ) → exceeds_u64 (w + 1) ≡ false → (given 16 accounts key 1 (Some w)).1 ≡ with_balance accounts key (w + 1)
        taken b w fits = rw fits refl
    by_balance None is =
        let had : has_account accounts key ≡ 0 = ap (λ (o : Option ℕ). cond (is_some o) 1 0) is in
        let fewer = below_fewer 16 (has_account accounts) key near (λ k. account_le (balance_at accounts k)) had in
        let was = so.count in
        let room : nat_le 16 (length accounts) ≡ false = grind (arith, fewer, was) in
        ap (λ (o : Option ℕ). (given 16 accounts key 1 o).1) is
        ∙ opened room
        ∙ sym (ap (λ (o : Option ℕ). with_balance accounts key (balance_or o + 1)) is)
      where
        opened : nat_le 16 (length accounts) ≡ false → (given 16 accounts key 1 None).1 ≡ with_balance accounts key 1
        opened room = rw room refl

-- a fine gift, in its parts
pub record FineGift (act : LedgerAct) : Type 0 where
  pub key : ℕ
  pub is : act ≡ Give key 1
  pub near : key < 16

pub fine_gift : (act : LedgerAct) → is_fine_gift act ≡ true → FineGift act
fine_gift (Give key n) fine =
    let a = and_parts (nat_lt key 16) (n == 1) fine in
    record { key = key; is = ap (Give key) (eqb-true n 1 a.1); near = grind (arith, a.0) }
fine_gift (Take key n) fine = absurd (cc)
fine_gift Audit fine = absurd (cc)

given_step : (many : ℕ) (accounts : Accounts) (act : LedgerAct) → is_fine_gift act ≡ true → many ≤ 1000000 → Given many accounts → Given (many + 1) (accounts_of 16 accounts act)
given_step many accounts act fine few so =
    let f = fine_gift act fine in
    subst (λ a. Given (many + 1) (accounts_of 16 accounts a)) (sym f.is)
    (subst (Given (many + 1)) (sym (gift_taken many accounts f.key f.near few so)) (given_more many accounts f.key f.near so))

-- so many gifts sum to their number
pub given_all : (many : ℕ) (accounts : Accounts) (jobs : List LedgerAct) → AllByRecursion (λ act. is_fine_gift act ≡ true) jobs → many + length jobs ≤ 1000000 → Given many accounts → Given (many + length jobs) (run_all 16 accounts jobs)
given_all many accounts [] fine few so = subst (λ n. Given n accounts) (omega arith) so
given_all many accounts (act ∷ jobs) fine few so =
    subst (λ n. Given n (run_all 16 (accounts_of 16 accounts act) jobs)) (omega arith)
    (given_all (many + 1) (accounts_of 16 accounts act) jobs fine.1 (omega (arith, few)) (given_step many accounts act fine.0 (omega (arith, few)) so))
