-- A distributed lock with its four passes.
use Rattle.std.specs.Prelude.{◌≡◌, ℕ, ◌+◌, ◌<◌, ◌≤◌}
use Rattle.waiter_chain.specs.Chains.{covers}
use Rattle.combine_job.specs.declared.parcel.Kept.{Kept}
use Rattle.combine_job.specs.declared.parcel.Parcel.TheVariants.{Value}
use Rattle.dist_mutex.specs.Passes.{dist_view, nodes_of, opening_of}
use Rattle.lock_rounds.specs.declared.plan.TheConstants.{MOST_ROUNDS}
use Rattle.lock_rounds.specs.declared.jobs.Counter.{Counter}
use Rattle.lock_rounds.specs.declared.office.Office.{Office}
use Rattle.lock_rounds.specs.Clerks.{IsReady, listed}

-- Each is a pass of this lock and at rest, and together they cover all its nodes. The lock began with a value on which no job had run
pub record IsStaffed (o : Office) : Type 0 where
  pub zero : IsReady o.desk o.zero
  pub one : IsReady o.desk o.one
  pub two : IsReady o.desk o.two
  pub three : IsReady o.desk o.three
  pub covered : (n : ℕ) → n < nodes_of o.desk → 0 < covers n (dist_view o.zero) + covers n (dist_view o.one) + covers n (dist_view o.two) + covers n (dist_view o.three)
  pub first : Kept Counter
  pub begun : (opening_of o.desk).first.value ≡ Value first
  pub fresh : first.ran ≡ 0

-- each may still post a job in each round
pub record HasQuotas (o : Office) : Type 0 where
  pub zero : MOST_ROUNDS ≤ (dist_view o.zero).quota
  pub one : MOST_ROUNDS ≤ (dist_view o.one).quota
  pub two : MOST_ROUNDS ≤ (dist_view o.two).quota
  pub three : MOST_ROUNDS ≤ (dist_view o.three).quota

-- how many jobs stand in their lists
abbrev pub jobs_listed : Office → ℕ
jobs_listed o = listed o.zero + listed o.one + listed o.two + listed o.three
