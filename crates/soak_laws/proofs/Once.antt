-- The entries of a history name its writes and its jobs, each once: so there are no more of these than entries.
use Rattle.std.proofs.Common.{◌≡◌, ℕ, ◌+◌, ◌*◌, ◌/◌, ◌%◌, ◌≤◌, ◌==◌, List, length, slice_get, Some, None, Option, refl, sym, ap, ◌∙◌, arith, Bool, true, false, cond, IsTrue, IsFalse, eq-eqb, ne_eqb, eqb-true, MatchBool}
use Rattle.query_rules.specs.declared.query.Query.{Query}
use Rattle.query_rules.specs.declared.query.Said.{Said}
use Rattle.query_rules.specs.declared.query.LedgerAct.{LedgerAct}
use Rattle.query_rules.specs.declared.query.Reply.{Reply}
use Rattle.query_rules.specs.declared.query.Reply.TheVariants.{Placed, Busy, Late, Job}
use Rattle.query_rules.specs.Maps.{no_entries, is_write}
use Rattle.query_rules.specs.Ledger.{no_accounts, act_of, RunsAt, is_job_at, IsLegalLedger}
use Rattle.query_rules.specs.History.{StandsAt, is_write_at, IsLegal}
use Rattle.soak_laws.proofs.Sums as sums
use Rattle.soak_laws.proofs.Sums.{total_le, total_length, all_as}
use Rattle.soak_laws.proofs.Exchange.{own, exchange, own_none, own_one}

abbrev pub Entry : Type 0
Entry = Query × Reply

at_most : (b : Bool) → cond b 1 0 ≤ 1
at_most true = omega arith
at_most false = omega arith

-- ---- the writes are the entries with odd places
abbrev pub odd : Reply → Bool
odd (Placed place said) = place % 2 == 1
odd Busy = false
odd (Late now) = false
odd (Job at result) = false

abbrev pub write_weight : (Query → ℕ) → Entry → ℕ
write_weight f e = cond (odd e.1) (f e.0) 0

module _ (writes : List Query) (f : Query → ℕ) where
  stands_own : (q : Query) (place : ℕ) (said : Said) (b : Bool) → (place % 2 == 1) ≡ b
      → MatchBool b ((slice_get writes (place / 2) ≡ Some q) × IsTrue (is_write said)) ((place / 2 ≤ length writes) × IsFalse (is_write said))
      → own is_write_at f (q, Placed place said) 0 writes ≡ cond b (f q) 0
  stands_own q place said true is stand =
      let odd_one : place % 2 ≡ 1 = eqb-true (place % 2) 1 is in
      own_one is_write_at f (q, Placed place said) (place / 2) (eq-eqb place (2 * (place / 2) + 1) (omega (arith, odd_one)))
      (λ w ne. ne_eqb place (2 * w + 1) (λ e. ne (omega (arith, e)))) 0 (place / 2) writes q (omega arith) stand.0
  stands_own q place said false is stand =
      own_none is_write_at f (q, Placed place said) 0 writes
      (λ w h. ne_eqb place (2 * w + 1) (λ e. let one : (place % 2 == 1) ≡ true = eq-eqb (place % 2) 1 (omega (arith, e)) in absurd (cc)))

  write_own : (rows : ℕ) (e : Entry) → StandsAt rows no_entries writes e → own is_write_at f e 0 writes ≡ write_weight f e
  write_own rows (q, Placed place said) stand = stands_own q place said (place % 2 == 1) refl stand.1
  write_own rows (q, Busy) stand = own_none is_write_at f (q, Busy) 0 writes (λ w h. refl)
  write_own rows (q, Late now) stand = own_none is_write_at f (q, Late now) 0 writes (λ w h. refl)
  write_own rows (q, Job at result) stand = own_none is_write_at f (q, Job at result) 0 writes (λ w h. refl)

module _ (rows : ℕ) (all : List Entry) (legal : IsLegal rows no_entries all) where
  pub writes_total : (f : Query → ℕ) → sums.total f legal.writes ≡ sums.total (write_weight f) all
  writes_total f = exchange is_write_at f (write_weight f) all legal.writes (all_as (StandsAt rows no_entries legal.writes) _ all (write_own legal.writes f rows) legal.stand) legal.once

  pub writes_few : length legal.writes ≤ length all
  writes_few =
      let w = writes_total (λ q. 1) in
      let one = total_length legal.writes in
      let ones = total_length all in
      let le = total_le (write_weight (λ q. 1)) (λ e. 1) all (λ e. at_most (odd e.1)) in omega (arith, w, one, ones, le)

-- ---- the jobs are the entries of jobs
abbrev pub act_weight : (LedgerAct → ℕ) → Option LedgerAct → ℕ
act_weight f (Some a) = f a
act_weight f None = 0

abbrev pub job_weight : (LedgerAct → ℕ) → Entry → ℕ
job_weight f (q, Job at result) = act_weight f (act_of q)
job_weight f (q, Placed place said) = 0
job_weight f (q, Busy) = 0
job_weight f (q, Late now) = 0

job_own : (rows : ℕ) (jobs : List LedgerAct) (f : LedgerAct → ℕ) (e : Entry) → RunsAt rows no_accounts jobs e → own is_job_at f e 0 jobs ≡ job_weight f e
job_own rows jobs f (q, Job at result) runs =
    own_one is_job_at f (q, Job at result) at (eq-eqb at at refl) (λ w ne. ne_eqb at w (λ e. ne (sym e))) 0 at jobs runs.0 (omega arith) runs.2 ∙ sym (ap (act_weight f) runs.1)
job_own rows jobs f (q, Placed place said) runs = own_none is_job_at f (q, Placed place said) 0 jobs (λ w h. refl)
job_own rows jobs f (q, Busy) runs = own_none is_job_at f (q, Busy) 0 jobs (λ w h. refl)
job_own rows jobs f (q, Late now) runs = own_none is_job_at f (q, Late now) 0 jobs (λ w h. refl)

one_act : (o : Option LedgerAct) → act_weight (λ a. 1) o ≤ 1
one_act (Some a) = omega arith
one_act None = omega arith

one_job : (e : Entry) → job_weight (λ a. 1) e ≤ 1
one_job (q, Job at result) = one_act (act_of q)
one_job (q, Placed place said) = omega arith
one_job (q, Busy) = omega arith
one_job (q, Late now) = omega arith

module _ (rows : ℕ) (all : List Entry) (legal : IsLegalLedger rows no_accounts all) where
  pub jobs_total : (f : LedgerAct → ℕ) → sums.total f legal.jobs ≡ sums.total (job_weight f) all
  jobs_total f = exchange is_job_at f (job_weight f) all legal.jobs (all_as (RunsAt rows no_accounts legal.jobs) _ all (job_own rows legal.jobs f) legal.stand) (λ p h. legal.once p h)

  pub jobs_few : length legal.jobs ≤ length all
  jobs_few =
      let j = jobs_total (λ a. 1) in
      let one = total_length legal.jobs in
      let ones = total_length all in
      let le = total_le (job_weight (λ a. 1)) (λ e. 1) all one_job in omega (arith, j, one, ones, le)
