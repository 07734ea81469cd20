-- Every history of the soak comes to its summary.
use Rattle.std.proofs.Common.{◌≡◌, ℕ, ◌+◌, ◌/◌, ◌%◌, ◌≤◌, ◌==◌, List, [], ◌∷◌, length, refl, sym, ap, ◌∙◌, arith, Bool, true, false, cond, count_by, sum_by}
use Rattle.std.specs.List.{AllByRecursion}
use Rattle.query_rules.specs.declared.query.Query.{Query}
use Rattle.query_rules.specs.declared.query.Reply.{Reply}
use Rattle.query_rules.specs.declared.query.Total.{Total}
use Rattle.query_rules.specs.declared.query.Total.TheVariants as total
use Rattle.query_rules.specs.Maps.{no_entries}
use Rattle.query_rules.specs.Ledger.{no_accounts}
use Rattle.query_rules.specs.History.{IsHistory, entries}
use Rattle.query_rules.specs.Log.{is_counted, total_of}
use Rattle.query_rules.specs.Soak.{soak_query, soak_callers, sum_below, soak_totals, adds_to_maps, is_of_kind}
use Rattle.soak_laws.specs.Totals.{ComesTo, SoakHasOneSummary, delta_of, told_delta, gift_of, told_gift}
use Rattle.soak_laws.proofs.Sums as sums
use Rattle.soak_laws.proofs.Sums.{total_same, total_length, total_sum, all_as, below_same, below_plus, below_one}
use Rattle.soak_laws.proofs.SoakKinds.{is_fine_add, is_fine_give, is_look, IsLong, Served, long_once, soak_entries, queries_total, count_total}
use Rattle.soak_laws.proofs.MapLaws.{fit_all, fit_none, sum_all, sum_none}
use Rattle.soak_laws.proofs.LedgerLaws.{given_all, given_none}
use Rattle.soak_laws.proofs.Once.{Entry}
use Rattle.soak_laws.proofs.Served.{writes_fine, all_served, delta_total, jobs_fine, jobs_count}
use Rattle.soak_laws.proofs.Generated.{soak_total, query_add, query_look, query_give, query_delta, query_gift, look_split, callers_soak}

module _ (count : ℕ) (few : count ≤ 1000000) (told : List (List Reply)) (h : IsHistory 16 (soak_callers count) told) where
  abbrev asked : List (List Query)
  asked = soak_callers count

  abbrev all : List Entry
  all = entries asked told

  long : IsLong asked told
  long = long_once asked told h.once

  -- a sum over the entries' queries, by their numbers
  by_number : (f : Query → ℕ) (g : ℕ → ℕ) → ((j : ℕ) → f (soak_query j) ≡ g j) → sums.total (λ e. f e.0) all ≡ sum_below count g
  by_number f g each = queries_total f asked told long ∙ soak_total f count ∙ below_same count g (λ j. f (soak_query j)) (λ j near. each j)

  size : length all ≡ count
  size = sym (total_length all) ∙ by_number (λ q. 1) (λ j. 1) (λ j. refl) ∙ below_one count

  each : AllByRecursion (λ e. Served e.0 e.1) all
  each = all_served all h.legal (omega (arith, size, few)) (soak_entries asked told (callers_soak count) h.once)

  -- a count of replies that is one of queries
  counted : (p : Reply → Bool) (f : Query → Bool) (g : ℕ → ℕ) → ((e : Entry) → Served e.0 e.1 → p e.1 ≡ f e.0) → ((j : ℕ) → cond (f (soak_query j)) 1 0 ≡ g j) → sum_by (count_by p) told ≡ sum_below count g
  counted p f g same number =
      count_total p asked told long
      ∙ total_same (λ e. cond (p e.1) 1 0) (λ e. cond (f e.0) 1 0) all (all_as (λ e. Served e.0 e.1) (λ e. cond (p e.1) 1 0 ≡ cond (f e.0) 1 0) all (λ e s. ap (λ b. cond b 1 0) (same e s)) each)
      ∙ by_number (λ q. cond (f q) 1 0) g number

  queries_are : total_of total.Queries told ≡ count
  queries_are = counted (is_counted total.Queries) (λ q. true) (λ j. 1) (λ e s. refl) (λ j. refl) ∙ below_one count

  writes_are : total_of total.Writes told ≡ sum_below count (is_of_kind 1)
  writes_are = counted (is_counted total.Writes) is_fine_add (is_of_kind 1) (λ e s. s.writes) (λ j. ap (λ b. cond b 1 0) (query_add j))

  reads_are : total_of total.Reads told ≡ sum_below count (is_of_kind 0) + sum_below count (is_of_kind 2)
  reads_are =
      counted (is_counted total.Reads) is_look (λ j. is_of_kind 0 j + is_of_kind 2 j) (λ e s. s.reads) (λ j. ap (λ b. cond b 1 0) (query_look j) ∙ look_split (j / 4 % 4))
      ∙ below_plus count (is_of_kind 0) (is_of_kind 2)

  refused_are : total_of total.Refused told ≡ 0
  refused_are = counted (is_counted total.Refused) (λ q. false) (λ j. 0) (λ e s. s.refused) (λ j. refl) ∙ sums.below_none count (λ j. 0) (λ j. refl)

  jobs_are : total_of total.Jobs told ≡ sum_below count (is_of_kind 3)
  jobs_are = counted (is_counted total.Jobs) is_fine_give (is_of_kind 3) (λ e s. s.jobs) (λ j. ap (λ b. cond b 1 0) (query_give j))

  told_is : sum_by told_delta all ≡ sum_below count adds_to_maps
  told_is =
      total_sum told_delta all
      ∙ total_same told_delta (λ e. cond (is_fine_add e.0) (delta_of e.0) 0) all (all_as (λ e. Served e.0 e.1) (λ e. told_delta e ≡ cond (is_fine_add e.0) (delta_of e.0) 0) all (λ e s. ap (λ b. cond b (delta_of e.0) 0) s.writes) each)
      ∙ by_number (λ q. cond (is_fine_add q) (delta_of q) 0) adds_to_maps query_delta

  gifts_are : sum_by told_gift all ≡ sum_below count (is_of_kind 3)
  gifts_are =
      total_sum told_gift all
      ∙ total_same told_gift (λ e. cond (is_fine_give e.0) (gift_of e.0) 0) all (all_as (λ e. Served e.0 e.1) (λ e. told_gift e ≡ cond (is_fine_give e.0) (gift_of e.0) 0) all (λ e s. ap (λ b. cond b (gift_of e.0) 0) s.jobs) each)
      ∙ by_number (λ q. cond (is_fine_give q) (gift_of q) 0) (is_of_kind 3) query_gift

  pub comes_to : ComesTo 8 16 asked told h (soak_totals count)
  comes_to =
      let kinds = soak_entries asked told (callers_soak count) h.once in
      let fine = writes_fine all h.legal kinds in
      let gifts = jobs_fine all h.ledger each in
      let many : length h.ledger.jobs ≡ sum_below count (is_of_kind 3) = jobs_count all h.ledger each ∙ by_number (λ q. cond (is_fine_give q) 1 0) (is_of_kind 3) (λ j. ap (λ b. cond b 1 0) (query_give j)) in
      let most : sum_below count (is_of_kind 3) ≤ count = sums.below_most count (is_of_kind 3) (λ j. at_most (j / 4 % 4 == 3)) in
      let ledger = given_all 0 no_accounts h.ledger.jobs gifts (omega (arith, many, most, few)) given_none in
      let listed : (a b c d e : ℕ) → List (Total × ℕ) = λ a b c d e. (total.Queries, a) ∷ (total.Writes, b) ∷ (total.Reads, c) ∷ (total.Refused, d) ∷ (total.Jobs, e) ∷ [] in
      record {
        counts = ap (λ a. listed a (total_of total.Writes told) (total_of total.Reads told) (total_of total.Refused told) (total_of total.Jobs told)) queries_are
            ∙ ap (λ b. listed count b (total_of total.Reads told) (total_of total.Refused told) (total_of total.Jobs told)) writes_are
            ∙ ap (λ c. listed count (sum_below count (is_of_kind 1)) c (total_of total.Refused told) (total_of total.Jobs told)) reads_are
            ∙ ap (λ d. listed count (sum_below count (is_of_kind 1)) (sum_below count (is_of_kind 0) + sum_below count (is_of_kind 2)) d (total_of total.Jobs told)) refused_are
            ∙ ap (λ e. listed count (sum_below count (is_of_kind 1)) (sum_below count (is_of_kind 0) + sum_below count (is_of_kind 2)) 0 e) jobs_are;
        keys = (fit_all 0 no_entries h.legal.writes fine fit_none).only;
        deltas = told_is;
        gifts = gifts_are;
        sum = let a = sum_all no_entries h.legal.writes fine in let z = sum_none in
            let d = delta_total all h.legal each in
            let n = by_number (λ q. cond (is_fine_add q) (delta_of q) 0) adds_to_maps query_delta in omega (arith, a, z, d, n);
        ledger = ledger.sum ∙ omega (arith, many);
      }
    where
      at_most : (b : Bool) → cond b 1 0 ≤ 1
      at_most true = omega arith
      at_most false = omega arith

pub law : SoakHasOneSummary
law count few told h = comes_to count few told h
