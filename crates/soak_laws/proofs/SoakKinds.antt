-- The queries that the soak asks, and what may be replied to them.
use Rattle.std.proofs.Common.{◌≡◌, ◌⊎◌, ℕ, ◌+◌, ◌==◌, ◌&&◌, nat_lt, nat_le, List, [], ◌∷◌, zip, refl, sym, ap, ◌∙◌, arith, Bool, true, false, cond, IsTrue, sum_by, count_by}
use Rattle.std.specs.List.{AllByRecursion, AllZip}
use Rattle.query_rules.specs.declared.query.Query.{Query}
use Rattle.query_rules.specs.declared.query.Query.TheVariants.{Get, Len, Add, Give}
use Rattle.query_rules.specs.declared.query.Reply.{Reply}
use Rattle.query_rules.specs.declared.query.Total.TheVariants as total
use Rattle.query_rules.specs.History.{entries, IsKindFor, AnswersEachOnce}
use Rattle.query_rules.specs.Log.{is_counted}
use Rattle.soak_laws.proofs.Sums as sums
use Rattle.soak_laws.proofs.Sums.{total_sum, total-append, all_both}

-- an addition of at most 7 to one of sixteen keys of one of eight cells
abbrev pub is_fine_add : Query → Bool
is_fine_add (Add cell key delta) = nat_lt cell 8 && (nat_lt key 16 && nat_le delta 7)
is_fine_add _ = false

abbrev pub is_fine_give : Query → Bool
is_fine_give (Give key n) = nat_lt key 16 && n == 1
is_fine_give _ = false

abbrev pub is_look : Query → Bool
is_look (Get cell key) = true
is_look (Len cell) = true
is_look _ = false

-- a query of the soak
abbrev pub IsSoak : Query → Type 0
IsSoak q = IsTrue (is_look q) ⊎ (IsTrue (is_fine_add q) ⊎ IsTrue (is_fine_give q))

-- a reply that has the count of its query: an addition is a write, a look a read, and a gift a job
pub record Served (q : Query) (reply : Reply) : Type 0 where
  pub writes : is_counted total.Writes reply ≡ is_fine_add q
  pub reads : is_counted total.Reads reply ≡ is_look q
  pub refused : is_counted total.Refused reply ≡ false
  pub jobs : is_counted total.Jobs reply ≡ is_fine_give q

-- queries and replies of all callers, as one list of pairs
module _ (P : Query × Reply → Type 0) where
  pairs_zip : (qs : List Query) (rs : List Reply) → AllZip (λ q r. P (q, r)) qs rs → AllByRecursion P (zip qs rs)
  pairs_zip [] [] all = tt
  pairs_zip [] (r ∷ rs) all = absurd all
  pairs_zip (q ∷ qs) [] all = absurd all
  pairs_zip (q ∷ qs) (r ∷ rs) all = (all.0, pairs_zip qs rs all.1)

  pub pairs_all : (asked : List (List Query)) (told : List (List Reply)) → AllZip (AllZip (λ q r. P (q, r))) asked told → AllByRecursion P (entries asked told)
  pairs_all [] [] all = tt
  pairs_all [] (rs ∷ told) all = absurd all
  pairs_all (qs ∷ asked) [] all = absurd all
  pairs_all (qs ∷ asked) (rs ∷ told) all = all_both P (zip qs rs) (entries asked told) (pairs_zip qs rs all.0) (pairs_all asked told all.1)

-- as long lists
abbrev pub IsLong : List (List Query) → List (List Reply) → Type 0
IsLong asked told = AllZip (AllZip (λ (q : Query) (r : Reply). Unit {0})) asked told

module _ where
  long_kinds : (qs : List Query) (rs : List Reply) → AllZip IsKindFor qs rs → AllZip (λ (q : Query) (r : Reply). Unit {0}) qs rs
  long_kinds [] [] all = tt
  long_kinds [] (r ∷ rs) all = absurd all
  long_kinds (q ∷ qs) [] all = absurd all
  long_kinds (q ∷ qs) (r ∷ rs) all = (tt, long_kinds qs rs all.1)

  pub long_once : (asked : List (List Query)) (told : List (List Reply)) → AllZip AnswersEachOnce asked told → IsLong asked told
  long_once [] [] once = tt
  long_once [] (rs ∷ told) once = absurd once
  long_once (qs ∷ asked) [] once = absurd once
  long_once (qs ∷ asked) (rs ∷ told) once = (long_kinds qs rs once.0.each, long_once asked told once.1)

  kinds_with : (qs : List Query) (rs : List Reply) → AllByRecursion IsSoak qs → AllZip IsKindFor qs rs → AllZip (λ q r. IsSoak q × IsKindFor q r) qs rs
  kinds_with [] [] soak all = tt
  kinds_with [] (r ∷ rs) soak all = absurd all
  kinds_with (q ∷ qs) [] soak all = absurd all
  kinds_with (q ∷ qs) (r ∷ rs) soak all = ((soak.0, all.0), kinds_with qs rs soak.1 all.1)

  kinds_all : (asked : List (List Query)) (told : List (List Reply)) → AllByRecursion (AllByRecursion IsSoak) asked → AllZip AnswersEachOnce asked told → AllZip (AllZip (λ q r. IsSoak q × IsKindFor q r)) asked told
  kinds_all [] [] soak once = tt
  kinds_all [] (rs ∷ told) soak once = absurd once
  kinds_all (qs ∷ asked) [] soak once = absurd once
  kinds_all (qs ∷ asked) (rs ∷ told) soak once = (kinds_with qs rs soak.0 once.0.each, kinds_all asked told soak.1 once.1)

  pub soak_entries : (asked : List (List Query)) (told : List (List Reply)) → AllByRecursion (AllByRecursion IsSoak) asked → AllZip AnswersEachOnce asked told
      → AllByRecursion (λ e. IsSoak e.0 × IsKindFor e.0 e.1) (entries asked told)
  soak_entries asked told soak once = pairs_all (λ e. IsSoak e.0 × IsKindFor e.0 e.1) asked told (kinds_all asked told soak once)

-- a sum over the queries of all entries is one over all queries
module _ (f : Query → ℕ) where
  zip_total : (qs : List Query) (rs : List Reply) → AllZip (λ (q : Query) (r : Reply). Unit {0}) qs rs → sums.total (λ e. f e.0) (zip qs rs) ≡ sums.total f qs
  zip_total [] [] long = refl
  zip_total [] (r ∷ rs) long = absurd long
  zip_total (q ∷ qs) [] long = absurd long
  zip_total (q ∷ qs) (r ∷ rs) long = ap (λ n. f q + n) (zip_total qs rs long.1)

  pub queries_total : (asked : List (List Query)) (told : List (List Reply)) → IsLong asked told → sums.total (λ e. f e.0) (entries asked told) ≡ sums.total (sums.total f) asked
  queries_total [] [] long = refl
  queries_total [] (rs ∷ told) long = absurd long
  queries_total (qs ∷ asked) [] long = absurd long
  queries_total (qs ∷ asked) (rs ∷ told) long =
      let split = total-append (λ (e : Query × Reply). f e.0) (zip qs rs) (entries asked told) in
      let here = zip_total qs rs long.0 in
      let rest = queries_total asked told long.1 in omega (arith, split, here, rest)

-- and so is a count of replies
module _ (p : Reply → Bool) where
  zip_count : (qs : List Query) (rs : List Reply) → AllZip (λ (q : Query) (r : Reply). Unit {0}) qs rs → sums.total (λ e. cond (p e.1) 1 0) (zip qs rs) ≡ sums.total (λ r. cond (p r) 1 0) rs
  zip_count [] [] long = refl
  zip_count [] (r ∷ rs) long = absurd long
  zip_count (q ∷ qs) [] long = absurd long
  zip_count (q ∷ qs) (r ∷ rs) long = ap (λ n. cond (p r) 1 0 + n) (zip_count qs rs long.1)

  replies_total : (asked : List (List Query)) (told : List (List Reply)) → IsLong asked told → sums.total (λ e. cond (p e.1) 1 0) (entries asked told) ≡ sums.total (count_by p) told
  replies_total [] [] long = refl
  replies_total [] (rs ∷ told) long = absurd long
  replies_total (qs ∷ asked) [] long = absurd long
  replies_total (qs ∷ asked) (rs ∷ told) long =
      let split = total-append (λ (e : Query × Reply). cond (p e.1) 1 0) (zip qs rs) (entries asked told) in
      let here = zip_count qs rs long.0 in
      let count = total_sum (λ (r : Reply). cond (p r) 1 0) rs in
      let rest = replies_total asked told long.1 in omega (arith, split, here, count, rest)

  pub count_total : (asked : List (List Query)) (told : List (List Reply)) → IsLong asked told → sum_by (count_by p) told ≡ sums.total (λ e. cond (p e.1) 1 0) (entries asked told)
  count_total asked told long = total_sum (count_by p) told ∙ sym (replies_total asked told long)
