-- Accounts by key: where one stands, and what one more or another balance makes of them.
use Rattle.std.proofs.Common.{◌≡◌, ℕ, zero, suc, ◌+◌, ◌-◌, ◌*◌, ◌<◌, ◌≤◌, ◌^◌, ◌==◌, Bool, true, false, cond, [], ◌∷◌, ◌++◌, length, get_or, set, Option, Some, None, Ok, Err, refl, sym, ap, ◌∙◌, arith, subst, nat_le, nat_lt, length-set}
use Rattle.std.specs.Prelude.{option_map}
use Rattle.std.specs.List.{AllByRecursion}
use Rattle.std.proofs.lemmas.List.{length_push}
use Rattle.std.proofs.lemmas.List.Sums.{sum_by-cons, sum_by-set}
use Rattle.query_rules.specs.declared.query.Account.{Account}
use Rattle.query_rules.specs.declared.query.LedgerAct.TheVariants.{Give, Take}
use Rattle.query_rules.specs.declared.query.LedgerTold.TheVariants.{Now}
use Rattle.query_rules.specs.declared.query.LedgerTrouble.TheVariants.{Over, Full, Short}
use Rattle.query_rules.specs.Maps.{exceeds_u64}
use Rattle.query_rules.specs.Ledger.{Accounts, balance_at, with_balance, sum_of, given, taken, ran}
use Rattle.query_log.specs.Book.{place_of, IsKept}

abbrev pub next : Option ℕ → Option ℕ
next o = option_map (λ (place : ℕ). place + 1) o

abbrev pub nothing : Account
nothing = record { key = 0; balance = 0 }

abbrev pub at : Accounts → ℕ → ℕ
at accounts place = (get_or accounts place nothing).balance

-- the place in front of which another account stands
next_some : (o : Option ℕ) (place : ℕ) → next o ≡ Some place → (before : ℕ) × (o ≡ Some before) × (place ≡ suc before)
next_some (Some p) place e = (p, refl, (let f : p + 1 ≡ place = cc in omega (arith, f)))
next_some None place e = absurd (cc)

next_none : (o : Option ℕ) → next o ≡ None → o ≡ None
next_none (Some p) e = absurd (cc)
next_none None e = refl

some_zero : (place : ℕ) → Some 0 ≡ Some place → place ≡ zero
some_zero place e = let f : 0 ≡ place = cc in sym f

-- an account that is there: it stands in the list, its balance is the key's, and another balance goes into its place
pub record IsThere (accounts : Accounts) (key place : ℕ) : Type 0 where
  pub below : place < length accounts
  pub balance : balance_at accounts key ≡ Some (at accounts place)
  pub changed : (n : ℕ) → with_balance accounts key n ≡ set accounts place (record { key = key; balance = n })

there_step : (a : Account) (more : Accounts) (key place : ℕ) (b : Bool) → (a.key == key) ≡ b → cond b (Some 0) (next (place_of more key)) ≡ Some place
    → ((p : ℕ) → place_of more key ≡ Some p → IsThere more key p) → IsThere (a ∷ more) key place
there_step a more key place true e is ih =
    let zero_is = some_zero place is in
    subst (λ p. IsThere (a ∷ more) key p) (sym zero_is) (record {
      below = omega arith;
      balance = ap (λ c. cond c (Some a.balance) (balance_at more key)) e;
      changed = λ n. ap (λ c. cond c (record { key = key; balance = n } ∷ more) (a ∷ with_balance more key n)) e;
    })
there_step a more key place false e is ih =
    let back = next_some (place_of more key) place is in
    let rest = ih back.0 back.1 in
    subst (λ p. IsThere (a ∷ more) key p) (sym back.2) (record {
      below = (let b = rest.below in omega (arith, b));
      balance = ap (λ c. cond c (Some a.balance) (balance_at more key)) e ∙ rest.balance;
      changed = λ n. ap (λ c. cond c (record { key = key; balance = n } ∷ more) (a ∷ with_balance more key n)) e ∙ ap (λ l. a ∷ l) (rest.changed n);
    })

pub there : (accounts : Accounts) (key place : ℕ) → place_of accounts key ≡ Some place → IsThere accounts key place
there [] key place e = absurd (cc)
there (a ∷ more) key place e = there_step a more key place (a.key == key) refl e (λ p is. there more key p is)

-- an account that isn't there
pub record IsAway (accounts : Accounts) (key : ℕ) : Type 0 where
  pub balance : balance_at accounts key ≡ None
  pub changed : (n : ℕ) → with_balance accounts key n ≡ accounts ++ record { key = key; balance = n } ∷ []

away_step : (a : Account) (more : Accounts) (key : ℕ) (b : Bool) → (a.key == key) ≡ b → cond b (Some 0) (next (place_of more key)) ≡ None
    → (place_of more key ≡ None → IsAway more key) → IsAway (a ∷ more) key
away_step a more key true e is ih = absurd (cc)
away_step a more key false e is ih =
    let rest = ih (next_none (place_of more key) is) in
    record {
      balance = ap (λ c. cond c (Some a.balance) (balance_at more key)) e ∙ rest.balance;
      changed = λ n. ap (λ c. cond c (record { key = key; balance = n } ∷ more) (a ∷ with_balance more key n)) e ∙ ap (λ l. a ∷ l) (rest.changed n);
    }

pub away : (accounts : Accounts) (key : ℕ) → place_of accounts key ≡ None → IsAway accounts key
away [] key e = record { balance = refl; changed = λ n. refl }
away (a ∷ more) key e = away_step a more key (a.key == key) refl e (λ is. away more key is)

-- another balance of an account leaves each in its place
kept_step : (a : Account) (more : Accounts) (key n place k : ℕ) (b : Bool) → (a.key == key) ≡ b → cond b (Some 0) (next (place_of more key)) ≡ Some place
    → ((p : ℕ) → place_of more key ≡ Some p → place_of (with_balance more key n) k ≡ place_of more k)
    → place_of (with_balance (a ∷ more) key n) k ≡ place_of (a ∷ more) k
kept_step a more key n place k true e is ih =
    let same : a.key ≡ key = grind (arith, e) in
    ap (λ c. place_of (cond c (record { key = key; balance = n } ∷ more) (a ∷ with_balance more key n)) k) e
    ∙ ap (λ x. cond (x == k) (Some 0) (next (place_of more k))) (sym same)
kept_step a more key n place k false e is ih =
    let back = next_some (place_of more key) place is in
    ap (λ c. place_of (cond c (record { key = key; balance = n } ∷ more) (a ∷ with_balance more key n)) k) e
    ∙ ap (λ o. cond (a.key == k) (Some 0) (next o)) (ih back.0 back.1)

pub places_kept : (accounts : Accounts) (key n place k : ℕ) → place_of accounts key ≡ Some place → place_of (with_balance accounts key n) k ≡ place_of accounts k
places_kept [] key n place k e = absurd (cc)
places_kept (a ∷ more) key n place k e = kept_step a more key n place k (a.key == key) refl e (λ p is. places_kept more key n p k is)

-- one account more stands at the end
push_step : (a : Account) (more : Accounts) (key n k : ℕ) (b : Bool) → (a.key == k) ≡ b → place_of (a ∷ more) key ≡ None
    → (place_of more key ≡ None → place_of (more ++ record { key = key; balance = n } ∷ []) k ≡ cond (key == k) (Some (length more)) (place_of more k))
    → place_of (a ∷ (more ++ record { key = key; balance = n } ∷ [])) k ≡ cond (key == k) (Some (length (a ∷ more))) (place_of (a ∷ more) k)
push_step a more key n k true e gone ih =
    let apart : (key == k) ≡ false = other (key == k) refl in
    ap (λ c. cond c (Some 0) (next (place_of (more ++ record { key = key; balance = n } ∷ []) k))) e
    ∙ sym (ap (λ c. cond c (Some (length (a ∷ more))) (place_of (a ∷ more) k)) apart ∙ ap (λ c. cond c (Some 0) (next (place_of more k))) e)
  where
    other : (c : Bool) → (key == k) ≡ c → (key == k) ≡ false
    other false f = f
    other true f = absurd (
        let one : a.key ≡ k = grind (arith, e) in
        let two : key ≡ k = grind (arith, f) in
        let hit : (a.key == key) ≡ true = grind (arith, one, two) in
        let bad : Some 0 ≡ None = sym (ap (λ c. cond c (Some 0) (next (place_of more key))) hit) ∙ gone in
        cc)
push_step a more key n k false e gone ih =
    let rest = ih (left (a.key == key) gone) in
    ap (λ c. cond c (Some 0) (next (place_of (more ++ record { key = key; balance = n } ∷ []) k))) e
    ∙ ap next rest
    ∙ deeper (key == k)
    ∙ sym (ap (λ c. cond (key == k) (Some (length (a ∷ more))) (cond c (Some 0) (next (place_of more k)))) e)
  where
    left : (c : Bool) → cond c (Some 0) (next (place_of more key)) ≡ None → place_of more key ≡ None
    left true f = absurd (cc)
    left false f = next_none (place_of more key) f

    deeper : (c : Bool) → next (cond c (Some (length more)) (place_of more k)) ≡ cond c (Some (length (a ∷ more))) (next (place_of more k))
    deeper true = ap (λ (x : ℕ). Some x) (omega arith)
    deeper false = refl

pub place_pushed : (accounts : Accounts) (key n k : ℕ) → place_of accounts key ≡ None
    → place_of (accounts ++ record { key = key; balance = n } ∷ []) k ≡ cond (key == k) (Some (length accounts)) (place_of accounts k)
place_pushed [] key n k e = refl
place_pushed (a ∷ more) key n k e = push_step a more key n k (a.key == k) refl e (λ is. place_pushed more key n k is)

-- the sum with another balance
pub sum_set : (accounts : Accounts) (place key n : ℕ) → place < length accounts → sum_of (set accounts place (record { key = key; balance = n })) + at accounts place ≡ sum_of accounts + n
sum_set accounts place key n lt = sum_by-set (λ (x : Account). x.balance) accounts place (record { key = key; balance = n }) nothing lt

pub sum_push : (accounts : Accounts) (a : Account) → sum_of (accounts ++ a ∷ []) ≡ sum_of accounts + a.balance
sum_push [] a = omega arith
sum_push (x ∷ more) a =
    let one = sum_by-cons (λ (y : Account). y.balance) x more in
    let two = sum_by-cons (λ (y : Account). y.balance) x (more ++ a ∷ []) in
    let rest = sum_push more a in
    omega (arith, one, two, rest)

-- each balance is a number of 64 bits, so so many of them have a sum below 2^128
abbrev pub IsSmall : Account → Type 0
IsSmall a = a.balance < 2 ^ 64

pub sum_small : (accounts : Accounts) → AllByRecursion IsSmall accounts → sum_of accounts ≤ length accounts * 18446744073709551615
sum_small [] h = omega arith
sum_small (a ∷ more) h =
    let one = sum_by-cons (λ (x : Account). x.balance) a more in
    let rest = sum_small more h.1 in
    let first = h.0 in
    omega (arith, one, rest, first)

pub small_set : (accounts : Accounts) (place : ℕ) (a : Account) → IsSmall a → AllByRecursion IsSmall accounts → AllByRecursion IsSmall (set accounts place a)
small_set [] place a small h = tt
small_set (x ∷ more) zero a small h = (small, h.1)
small_set (x ∷ more) (suc place) a small h = (h.0, small_set more place a small h.1)

pub small_push : (accounts : Accounts) (a : Account) → IsSmall a → AllByRecursion IsSmall accounts → AllByRecursion IsSmall (accounts ++ a ∷ [])
small_push [] a small h = (small, tt)
small_push (x ∷ more) a small h = (h.0, small_push more a small h.1)

-- a balance is among the sum
pub at_among : (accounts : Accounts) (place : ℕ) → at accounts place ≤ sum_of accounts
at_among [] place = omega arith
at_among (a ∷ more) zero = let one = sum_by-cons (λ (x : Account). x.balance) a more in omega (arith, one)
at_among (a ∷ more) (suc place) =
    let one = sum_by-cons (λ (x : Account). x.balance) a more in
    let rest = at_among more place in
    omega (arith, one, rest)

-- the sum of at most so many numbers of 64 bits
product : (len rows : ℕ) → len ≤ rows → rows < 2 ^ 64 → len * 18446744073709551615 < 2 ^ 128
product len rows few bound = omega (arith, few, bound)

pub set_fits : (rows : ℕ) (accounts : Accounts) (place key n sum : ℕ) → place < length accounts → length accounts ≤ rows → rows < 2 ^ 64 → n < 2 ^ 64 → AllByRecursion IsSmall accounts → sum ≡ sum_of accounts
    → sum - at accounts place + n < 2 ^ 128
set_fits rows accounts place key n sum below few bound small all is =
    let a : Account = record { key = key; balance = n } in
    let new = sum_set accounts place key n below in
    let most = sum_small (set accounts place a) (small_set accounts place a small all) in
    let len = length-set accounts place a in
    let among = at_among accounts place in
    let top = product (length (set accounts place a)) rows (omega (arith, len, few)) bound in
    omega (arith, new, most, among, top, is)

pub push_fits : (rows : ℕ) (accounts : Accounts) (n sum : ℕ) → length accounts < rows → rows < 2 ^ 64 → n < 2 ^ 64 → AllByRecursion IsSmall accounts → sum ≡ sum_of accounts → sum + n < 2 ^ 128
push_fits rows accounts n sum few bound small all is =
    let most = sum_small accounts all in
    let top = product (length accounts + 1) rows (omega (arith, few)) bound in
    omega (arith, most, top, is, small)

-- what is kept, after another balance
pub kept_set : (rows : ℕ) (accounts : Accounts) (capacity : ℕ) (found : ℕ → Option ℕ) (spare sum key place n : ℕ) → IsKept rows accounts capacity found spare sum → place_of accounts key ≡ Some place → n < 2 ^ 64
    → IsKept rows (set accounts place (record { key = key; balance = n })) capacity found spare (sum - at accounts place + n)
kept_set rows accounts capacity found spare sum key place n kept is small =
    let a : Account = record { key = key; balance = n } in
    let here = there accounts key place is in
    let len = length-set accounts place a in
    let new = sum_set accounts place key n here.below in
    let among = at_among accounts place in
    let total = kept.total in
    let few = kept.few in
    let room = kept.found_room in
    record {
      places = λ k. kept.places k ∙ sym (ap (λ l. place_of l k) (sym (here.changed n)) ∙ places_kept accounts key n place k is);
      total = omega (arith, new, among, total);
      small = small_set accounts place a small kept.small;
      few = omega (arith, len, few);
      listed = kept.listed;
      found_room = omega (arith, len, room);
    }

-- what is kept, after one account more
pub kept_push : (rows : ℕ) (accounts items : Accounts) (capacity capacity' : ℕ) (found found' : ℕ → Option ℕ) (spare spare' sum key n : ℕ) → IsKept rows accounts capacity found spare sum → place_of accounts key ≡ None → length accounts < rows → n < 2 ^ 64
    → items ≡ accounts ++ record { key = key; balance = n } ∷ [] → capacity ≤ capacity' → ((k : ℕ) → found' k ≡ cond (key == k) (Some (length accounts)) (found k)) → spare ≤ spare' + 1
    → IsKept rows items capacity' found' spare' (sum + n)
kept_push rows accounts items capacity capacity' found found' spare spare' sum key n kept gone some small is more finds fewer =
    let a : Account = record { key = key; balance = n } in
    let len = length_push accounts a in
    let new = sum_push accounts a in
    let total = kept.total in
    let few = kept.few in
    let room = kept.found_room in
    let listed = kept.listed in
    let P : Accounts → Type 0 = λ l. IsKept rows l capacity' found' spare' (sum + n) in
    subst P (sym is) (record {
      places = λ k. finds k ∙ ap (λ o. cond (key == k) (Some (length accounts)) o) (kept.places k) ∙ sym (place_pushed accounts key n k gone);
      total = omega (arith, new, total);
      small = small_push accounts a small kept.small;
      few = omega (arith, len, some);
      listed = omega (arith, listed, more);
      found_room = omega (arith, len, room, fewer);
    })

-- what a job says and leaves, case by case
pub given_over : (rows : ℕ) (accounts : Accounts) (key n w : ℕ) → balance_at accounts key ≡ Some w → 2 ^ 64 ≤ w + n → ran rows accounts (Give key n) ≡ (Err Over, accounts)
given_over rows accounts key n w e over =
    let test : exceeds_u64 (w + n) ≡ true = grind (arith, over) in
    ap (λ o. given rows accounts key n o) e ∙ ap (λ c. cond c (Err Over, accounts) (Ok (Now (w + n)), with_balance accounts key (w + n))) test

pub given_now : (rows : ℕ) (accounts : Accounts) (key n w s : ℕ) → balance_at accounts key ≡ Some w → s ≡ w + n → s < 2 ^ 64 → ran rows accounts (Give key n) ≡ (Ok (Now s), with_balance accounts key s)
given_now rows accounts key n w s e is fits =
    let test : exceeds_u64 (w + n) ≡ false = grind (arith, is, fits) in
    ap (λ o. given rows accounts key n o) e ∙ ap (λ c. cond c (Err Over, accounts) (Ok (Now (w + n)), with_balance accounts key (w + n))) test
    ∙ ap (λ x. (Ok (Now x), with_balance accounts key x)) (sym is)

pub given_full : (rows : ℕ) (accounts : Accounts) (key n : ℕ) → balance_at accounts key ≡ None → nat_le rows (length accounts) ≡ true → ran rows accounts (Give key n) ≡ (Err Full, accounts)
given_full rows accounts key n e full = ap (λ o. given rows accounts key n o) e ∙ ap (λ c. cond c (Err Full, accounts) (Ok (Now n), with_balance accounts key n)) full

pub given_open : (rows : ℕ) (accounts : Accounts) (key n : ℕ) → balance_at accounts key ≡ None → nat_le rows (length accounts) ≡ false → ran rows accounts (Give key n) ≡ (Ok (Now n), with_balance accounts key n)
given_open rows accounts key n e room = ap (λ o. given rows accounts key n o) e ∙ ap (λ c. cond c (Err Full, accounts) (Ok (Now n), with_balance accounts key n)) room

pub taken_short : (rows : ℕ) (accounts : Accounts) (key n w : ℕ) → balance_at accounts key ≡ Some w → w < n → ran rows accounts (Take key n) ≡ (Err (Short w), accounts)
taken_short rows accounts key n w e less =
    let test : nat_lt w n ≡ true = grind (arith, less) in
    ap (λ o. taken accounts key n o) e ∙ ap (λ c. cond c (Err (Short w), accounts) (Ok (Now (w - n)), with_balance accounts key (w - n))) test

pub taken_now : (rows : ℕ) (accounts : Accounts) (key n w : ℕ) → balance_at accounts key ≡ Some w → n ≤ w → ran rows accounts (Take key n) ≡ (Ok (Now (w - n)), with_balance accounts key (w - n))
taken_now rows accounts key n w e more =
    let test : nat_lt w n ≡ false = grind (arith, more) in
    ap (λ o. taken accounts key n o) e ∙ ap (λ c. cond c (Err (Short w), accounts) (Ok (Now (w - n)), with_balance accounts key (w - n))) test

pub taken_nothing : (rows : ℕ) (accounts : Accounts) (key n : ℕ) → balance_at accounts key ≡ None → 0 < n → ran rows accounts (Take key n) ≡ (Err (Short 0), accounts)
taken_nothing rows accounts key n e some =
    let test : nat_lt 0 n ≡ true = grind (arith, some) in
    ap (λ o. taken accounts key n o) e ∙ ap (λ c. cond c (Err (Short 0), accounts) (Ok (Now 0), accounts)) test

pub taken_zero : (rows : ℕ) (accounts : Accounts) (key n : ℕ) → balance_at accounts key ≡ None → n ≤ 0 → ran rows accounts (Take key n) ≡ (Ok (Now 0), accounts)
taken_zero rows accounts key n e none =
    let test : nat_lt 0 n ≡ false = grind (arith, none) in
    ap (λ o. taken accounts key n o) e ∙ ap (λ c. cond c (Err (Short 0), accounts) (Ok (Now 0), accounts)) test
