-- What an owner knows of a posted job that it may run: it is a job that is ready, and the value has room for it, also after jobs of the owner's own.
use Rattle.std.proofs.Common.{◌≡◌, ◌≢◌, ℕ, zero, suc, ◌+◌, ◌<◌, ◌≤◌, Result, List, length, refl, sym, ap, ◌∙◌, arith}
use mathlib.Core.Option.{some, none, Option as Maybe}
use mathlib.Core.Logic.{dite}
use native.Mathlib.Decide.{ℕ_discrete}
use Rattle.view_sums.specs.Sums.{term_le}
use Rattle.waiter_chain.specs.Goods.{Goods, Part, below, put, Runs, Counts}
use Rattle.waiter_chain.specs.Steps.{SoundJob, SoundNext, SoundAnswer}
use Rattle.waiter_chain.specs.declared.view.Opening.{Opening}
use Rattle.combine_job.specs.declared.parcel.Kept.{Kept}
use Rattle.combine_job.specs.declared.parcel.JobAnswer.{JobAnswer}
use Rattle.combine_job.specs.declared.parcel.Parcel.{Parcel}
use Rattle.combine_job.specs.declared.parcel.Parcel.TheVariants.{Value, Posted, Answered}
use Rattle.combine_job.specs.Parcels.{Related, Ruled, WasRun, place, places, one}
use Rattle.combine_job.specs.Below.{below-put, put-other}
use Rattle.combine_job.specs.Laws.{value-injective, runs_lead, runs_below}

module _ {V J O X : Type 0} where
  below_at : (f : ℕ → Maybe (Parcel V J O X)) (n k : ℕ) → n < k → one (f n) ≤ below one f k
  below_at f n zero low = absurd (omega arith)
  below_at f n (suc k) low = dite (ℕ_discrete n k) (λ z. omega (arith, ap (λ (i : ℕ). one (f i)) z)) (λ nz. omega (arith, below_at f n k (omega arith)))

  -- two nodes: what the one has posted is counted, and what the other has
  below_two : (f : ℕ → Maybe (Parcel V J O X)) (n m k : ℕ) → m ≢ n → n < k → m < k → one (f n) + one (f m) ≤ below one f k
  below_two f n m k apart low also =
      let g : ℕ → Maybe (Parcel V J O X) = put f n none in
      omega (arith, below-put one f n k none low, below_at g m k also, ap one (put-other f n m none apart))

  counted : (m : Maybe (Parcel V J O X)) (ran : List (Parcel V J O X × Parcel V J O X)) (count : ℕ) → Counts m ran count → count + one m ≡ length ran
  counted none ran count c = omega (arith, c)
  counted (some j) ran count c = omega (arith, c.0)

module _ {V J O X : Type 0} (rooms : V → ℕ) (means : V → J → Result O X → V → Type 0) (is_ready : J → Type 0) (o : Opening (Parcel V J O X)) where
  -- what the owner may do with a posted job, where jobs of its own made this of the value that it found
  abbrev pub MayRunOne : Parcel V J O X → Kept V → Type 0
  MayRunOne job kept = (j : J) × (job ≡ Posted j) × is_ready j × (1 ≤ rooms kept.value) × (kept.ran + 1 < 18446744073709551616)

  pub may_run_one : (y job : Parcel V J O X) (own : Part (Parcel V J O X)) (x count : ℕ) (mine : Maybe (Parcel V J O X)) (ran : List (Parcel V J O X × Parcel V J O X)) (kept : Kept V) → SoundNext (Ruled rooms means is_ready o) y own x job mine
      → x < o.nodes → own.number < o.nodes → own.number ≢ x → Runs (Related rooms means) y ran (Value kept) → Counts mine ran count → count ≤ own.quota → MayRunOne job kept
  may_run_one y job own x count mine ran kept s low also apart runs counts enough =
      let g : Goods (Parcel V J O X) = s.0 in let r : Ruled rooms means is_ready o g = s.1 in
      let l = runs_lead rooms means ran y (Value kept) r.now (sym s.2 ∙ r.is) runs in
      let same : l.0 ≡ kept = value-injective {J = J} {O = O} {X = X} l.0 kept (sym l.1) in
      let room : rooms l.0.value ≡ rooms kept.value = ap (λ (k : Kept V). rooms k.value) same in let count-now : l.0.ran ≡ kept.ran = ap (λ (k : Kept V). k.ran) same in
      let quota = term_le (λ (z : Part (Parcel V J O X)). z.quota) g.parts s.3.0 own s.3.1 in
      let posted = below_two g.posted x own.number o.nodes apart low also in let theirs = ap one s.4 in let ours = ap one s.5 in let all = counted mine ran count counts in
      let j = r.jobs x job s.4 in (j.0, j.1, j.2, omega (arith, r.room, quota, posted, theirs, ours, all, enough, l.2, room), omega (arith, r.paid, r.small, quota, posted, theirs, ours, all, enough, l.3, count-now))

  -- what an owner knows of its own posted job, which it has just taken back
  pub may_run_own : (y job : Parcel V J O X) (own : Part (Parcel V J O X)) (n : ℕ) (kept : Kept V) → SoundJob (Ruled rooms means is_ready o) y own n job → n < o.nodes → y ≡ Value kept → MayRunOne job kept × (own.quota + 1 ≤ rooms kept.value) × (kept.ran + (own.quota + 1) ≤ o.quota) × (o.quota < 18446744073709551616)
  may_run_own y job own n kept s low is =
      let g : Goods (Parcel V J O X) = s.0 in let r : Ruled rooms means is_ready o g = s.1 in
      let same : r.now ≡ kept = value-injective {J = J} {O = O} {X = X} r.now kept (sym r.is ∙ s.2 ∙ is) in
      let room : rooms r.now.value ≡ rooms kept.value = ap (λ (k : Kept V). rooms k.value) same in let count : r.now.ran ≡ kept.ran = ap (λ (k : Kept V). k.ran) same in
      let quota = term_le (λ (z : Part (Parcel V J O X)). z.quota) g.parts s.3.0 own s.3.1 in
      let posted = below_at g.posted n o.nodes low in let mine = ap one s.4 in
      let j = r.jobs n job s.4 in (
        (j.0, j.1, j.2, omega (arith, r.room, quota, posted, mine, room), omega (arith, r.paid, r.small, quota, posted, mine, count)),
        omega (arith, r.room, quota, posted, mine, room),
        omega (arith, r.paid, quota, posted, mine, count),
        r.small,
      )

  -- its own jobs that ran stand below the count of this value
  pub own_early : (y job : Parcel V J O X) (own : Part (Parcel V J O X)) (n : ℕ) (kept : Kept V) → SoundJob (Ruled rooms means is_ready o) y own n job → y ≡ Value kept → (p : ℕ) → kept.ran ≤ p → places p own.own ≡ 0
  own_early y job own n kept s is p far =
      let g : Goods (Parcel V J O X) = s.0 in let r : Ruled rooms means is_ready o g = s.1 in
      let same : r.now ≡ kept = value-injective {J = J} {O = O} {X = X} r.now kept (sym r.is ∙ s.2 ∙ is) in
      omega (arith, runs_below rooms means r.history o.first.value g.value r.first r.now r.began r.is r.runs p (omega (arith, far, ap (λ (k : Kept V). k.ran) same)), r.answers (λ z. place p z.1), term_le (λ (z : Part (Parcel V J O X)). places p z.own) g.parts s.3.0 own s.3.1)

  -- an answer that waits for a pass is the answer of its job, at a position above all that stand in its list
  pub answer_found : (own : Part (Parcel V J O X)) (job : Parcel V J O X) (answer : JobAnswer O X) → SoundAnswer (Ruled rooms means is_ready o) own job (Answered answer)
      → WasRun rooms means (job, Answered answer) × ((p : ℕ) → answer.at ≤ p → places p own.own ≡ 0)
  answer_found own job answer s = let r : Ruled rooms means is_ready o s.0 = s.1 in (r.told own.number (job, Answered answer) s.3, λ p far. r.after s.2.0 own (job, Answered answer) s.2.1 s.3 answer refl p far)
