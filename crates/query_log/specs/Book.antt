-- The accounts as they are kept, with their places by key and their sum.
use Rattle.std.specs.Prelude.{◌≡◌, ℕ, ◌+◌, ◌<◌, ◌≤◌, ◌^◌, ◌==◌, [], ◌∷◌, Some, None, length, if◌then◌else◌, option_map}
use Rattle.std.specs.declared.option.Option.{Option}
use Rattle.std.specs.List.{AllByRecursion}
use Rattle.query_rules.specs.declared.query.Account.{Account}
use Rattle.query_rules.specs.declared.query.LedgerAct.{LedgerAct}
use Rattle.query_rules.specs.Ledger.{Accounts, with_balance, sum_of, accounts_of}

-- so many accounts there may be, and these there are
pub record Book : Type 0 where
  pub rows : ℕ
  pub accounts : Accounts

-- the book with this balance
abbrev pub changed : Book → ℕ → ℕ → Book
changed book key n = record { rows = book.rows; accounts = with_balance book.accounts key n }

-- the book after a job
abbrev pub after_act : Book → LedgerAct → Book
after_act book act = record { rows = book.rows; accounts = accounts_of book.rows book.accounts act }

-- where the account of a key stands
abbrev pub place_of : Accounts → ℕ → Option ℕ
place_of [] key = None
place_of (a ∷ more) key = if a.key == key then Some 0 else option_map (λ place. place + 1) (place_of more key)

-- each place is found by its key, the sum is that of all balances, and there is room for all rows
pub record IsKept (rows : ℕ) (accounts : Accounts) (capacity : ℕ) (found : ℕ → Option ℕ) (spare sum : ℕ) : Type 0 where
  pub places : (key : ℕ) → found key ≡ place_of accounts key
  pub total : sum ≡ sum_of accounts
  pub small : AllByRecursion (λ (a : Account). a.balance < 2 ^ 64) accounts
  pub few : length accounts ≤ rows
  pub listed : rows ≤ capacity
  pub found_room : rows ≤ spare + length accounts
