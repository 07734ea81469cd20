-- The places and the positions of a history fit packed spots.
use Rattle.std.proofs.Common.{◌≡◌, ℕ, zero, suc, ◌+◌, ◌/◌, ◌%◌, ◌<◌, ◌≤◌, ◌==◌, Bool, true, false, IsTrue, IsFalse, MatchBool, List, [], ◌∷◌, ◌++◌, length, slice_get, zip, Some, refl, arith, sum_by, length-append}
use Rattle.std.specs.List.{AllByRecursion, AllZip}
use Rattle.std.proofs.lemmas.List.Sums.{sum_by-cons}
use Rattle.std.proofs.lemmas.Slice.Zip.{AllZip-long}
use Rattle.query_rules.specs.declared.query.Query.{Query}
use Rattle.query_rules.specs.declared.query.LedgerAct.{LedgerAct}
use Rattle.query_rules.specs.declared.query.Reply.{Reply}
use Rattle.query_rules.specs.declared.query.Reply.TheVariants.{Placed, Busy, Late, Job}
use Rattle.query_rules.specs.declared.query.Said.{Said}
use Rattle.query_rules.specs.Maps.{no_entries, is_write}
use Rattle.query_rules.specs.Ledger.{no_accounts, RunsAt}
use Rattle.query_rules.specs.History.{AnswersEachOnce, IsHistory, IsKindFor, StandsAt, entries}
use Rattle.query_text.specs.Packed.{HasPackedKey, IsPackable}
use Rattle.query_text.specs.declared.packed.TheConstants.{SPOT_KEYS}
use Rattle.soak_laws.proofs.Once.{Entry, writes_few, jobs_few}
use Rattle.soak_laws.proofs.Sums.{all_with}
use Rattle.server_run.proofs.Numbers.{as_many}

-- what a list has stands before its end
below : {X : Type 0} (xs : List X) (i : ℕ) (x : X) → slice_get xs i ≡ Some x → i < length xs
below [] i x there = absurd (cc)
below (y ∷ ys) zero x there = omega arith
below (y ∷ ys) (suc i) x there = let rest = below ys i x there in omega (arith, rest)

-- there are as many entries as replies
zip_long : (qs : List Query) (rs : List Reply) → AllZip IsKindFor qs rs → length (zip qs rs) ≡ length rs
zip_long [] [] h = refl
zip_long [] (r ∷ rs) h = absurd h
zip_long (q ∷ qs) [] h = absurd h
zip_long (q ∷ qs) (r ∷ rs) h = let rest = zip_long qs rs h.1 in omega (arith, rest)

entries_long : (callers : List (List Query)) (told : List (List Reply)) → AllZip AnswersEachOnce callers told → length (entries callers told) ≡ sum_by length told
entries_long [] [] h = refl
entries_long [] (rs ∷ told) h = absurd h
entries_long (qs ∷ callers) [] h = absurd h
entries_long (qs ∷ callers) (rs ∷ told) h =
    let here = zip_long qs rs h.0.each in
    let rest = entries_long callers told h.1 in
    let both = length-append (zip qs rs) (entries callers told) in
    let all = sum_by-cons (length {A = Reply}) rs told in
    omega (arith, here, rest, both, all)

-- what holds of each entry's reply holds of each reply
module _ (P : Reply → Type 0) where
  front : (xs ys : List Entry) → AllByRecursion (λ e. P e.1) (xs ++ ys) → AllByRecursion (λ e. P e.1) xs
  front [] ys all = tt
  front (x ∷ xs) ys all = (all.0, front xs ys all.1)

  back : (xs ys : List Entry) → AllByRecursion (λ e. P e.1) (xs ++ ys) → AllByRecursion (λ e. P e.1) ys
  back [] ys all = all
  back (x ∷ xs) ys all = back xs ys all.1

  of_zip : (qs : List Query) (rs : List Reply) → AllZip IsKindFor qs rs → AllByRecursion (λ e. P e.1) (zip qs rs) → AllByRecursion P rs
  of_zip [] [] h all = tt
  of_zip [] (r ∷ rs) h all = absurd h
  of_zip (q ∷ qs) [] h all = absurd h
  of_zip (q ∷ qs) (r ∷ rs) h all = (all.0, of_zip qs rs h.1 all.1)

  of_entries : (callers : List (List Query)) (told : List (List Reply)) → AllZip AnswersEachOnce callers told → AllByRecursion (λ e. P e.1) (entries callers told) → AllByRecursion (AllByRecursion P) told
  of_entries [] [] h all = tt
  of_entries [] (rs ∷ told) h all = absurd h
  of_entries (qs ∷ callers) [] h all = absurd h
  of_entries (qs ∷ callers) (rs ∷ told) h all =
      (of_zip qs rs h.0.each (front (zip qs rs) (entries callers told) all), of_entries callers told h.1 (back (zip qs rs) (entries callers told) all))

-- a place is at most twice the number of writes, and a position less than the number of jobs
place_fits : (writes : List Query) (q : Query) (place : ℕ) (said : Said) (odd : Bool) → length writes ≤ 1000000
    → MatchBool odd ((slice_get writes (place / 2) ≡ Some q) × IsTrue (is_write said)) ((place / 2 ≤ length writes) × IsFalse (is_write said)) → place < SPOT_KEYS
place_fits writes q place said true few stand = let low = below writes (place / 2) q stand.0 in omega (arith, low, few)
place_fits writes q place said false few stand = let low = stand.0 in omega (arith, low, few)

entry_fits : (rows : ℕ) (writes : List Query) (jobs : List LedgerAct) → length writes ≤ 1000000 → length jobs ≤ 1000000 → (e : Entry) → StandsAt rows no_entries writes e → RunsAt rows no_accounts jobs e → HasPackedKey e.1
entry_fits rows writes jobs few fewer (q, Placed place said) stand runs = place_fits writes q place said (place % 2 == 1) few stand.1
entry_fits rows writes jobs few fewer (q, Busy) stand runs = tt
entry_fits rows writes jobs few fewer (q, Late now) stand runs = tt
entry_fits rows writes jobs few fewer (q, Job at result) stand runs = let low = below jobs at runs.0 runs.2 in omega (arith, low, fewer)

-- packed spots have room for the replies of a history
pub packable : (rows : ℕ) (callers : List (List Query)) (told : List (List Reply)) → IsHistory rows callers told → length callers ≤ 64 → sum_by length callers ≤ 1000000 → IsPackable told
packable rows callers told h crowd few =
    let long = AllZip-long AnswersEachOnce callers told h.once in
    let many = as_many callers told h.once in
    let all = entries callers told in
    let size = entries_long callers told h.once in
    let writes = writes_few rows all h.legal in
    let jobs = jobs_few rows all h.ledger in
    record {
      callers = omega (arith, long, crowd);
      replies = omega (arith, many, few);
      keys = of_entries HasPackedKey callers told h.once
          (all_with _ _ _ all (entry_fits rows h.legal.writes h.ledger.jobs (omega (arith, writes, size, many, few)) (omega (arith, jobs, size, many, few))) h.legal.stand h.ledger.stand);
    }
