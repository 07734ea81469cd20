-- What the rule of a distributed lock says between any two steps, in plain words. `proofs/Shown.antt` has the law that the rule says it.
use Rattle.std.specs.Prelude.{◌≡◌, ℕ, ◌+◌, ◌≤◌, Result, Option, Some, List}
use mathlib.Core.Option.{some, Option as Maybe}
use lib.ListN.{get_elem?}
use Rattle.atomic_table.specs.Table.{State}
use Rattle.view_sums.specs.Sums.{total}
use Rattle.waiter_chain.specs.Goods.{Runs, below}
use Rattle.waiter_chain.specs.Chains.{Filled}
use Rattle.waiter_chain.specs.Shows.{ChainShows, HasNotes, IsWaiting}
use Rattle.waiter_chain.specs.declared.view.Opening.{Opening}
use Rattle.waiter_chain.specs.declared.view.Ownership.{Ownership}
use Rattle.waiter_chain.specs.declared.view.View.{View}
use Rattle.combine_job.specs.declared.parcel.Kept.{Kept}
use Rattle.combine_job.specs.declared.parcel.Parcel.{Parcel}
use Rattle.combine_job.specs.declared.parcel.Parcel.TheVariants.{Value}
use Rattle.combine_job.specs.Parcels.{Related, EachOnce, one}

module _ {V J O X : Type 0} (rooms : V → ℕ) (means : V → J → Result O X → V → Type 0) where
  pub record LockShows (o : Opening (Parcel V J O X)) (s : State (Option (Parcel V J O X)) (View (Parcel V J O X))) : Type 0 where
    -- the owner, the two lines, and what stands in the words and slots
    pub chain : ChainShows s
    -- the value, wherever it is, but for the jobs that its owner has run for itself in its present ownership
    pub kept : Kept V
    -- the jobs that ran, each with its answer: one after another they lead from the first value to this one
    pub history : List (Parcel V J O X × Parcel V J O X)
    pub runs : Runs (Related rooms means) o.first.value history (Value kept)
    -- their answers have the positions below the count, each once
    pub once : EachOnce history kept.ran
    -- the jobs in the passes' own lists are among them, each with its answer, and no more often
    pub listed : (w : Parcel V J O X × Parcel V J O X → ℕ) → total (λ v. total w v.own) s.views ≤ total w history
    -- the job of each node that has posted one, as long as it has not run
    pub posted : ℕ → Maybe (Parcel V J O X)
    pub waits : (j b : ℕ) (v : View (Parcel V J O X)) (job : Parcel V J O X) → get_elem? s.views j ≡ some v → IsWaiting s.words v b (Some job) → posted v.number ≡ some job
    -- the value has room for all quotas and all these jobs, and with them the count stays within the quota that the lock was made with
    pub room : total (λ v. v.quota) s.views + below one posted o.nodes ≤ rooms kept.value
    pub paid : kept.ran + (total (λ v. v.quota) s.views + below one posted o.nodes) ≤ o.quota
    -- the value stands in slot 0 unless a pass has the turn
    pub stands : ((j : ℕ) (v : View (Parcel V J O X)) (k : Ownership (Parcel V J O X)) → get_elem? s.views j ≡ some v → HasNotes v k → ⊥) → Filled (get_elem? s.homes 0) (Value kept)
