-- What a pass of the distributed lock is between its rounds, and what they leave.
use Rattle.std.specs.Prelude.{◌≡◌, ℕ, ◌+◌, ◌≤◌, length}
use Rattle.combine_job.specs.declared.job.Room as room
use Rattle.combine_job.specs.declared.job.Job as job
use Rattle.dist_mutex.specs.declared.mutex.DistMutex.{DistMutex}
use Rattle.dist_mutex.specs.declared.pass.DistPass.{DistPass}
use Rattle.dist_mutex.specs.Passes.{dist_view, IsDistPassOf, IsAtRest, SameNumbers}

module _ {V J O X : Type 0} {r : room.Ghosts V} {j : job.Ghosts J V O X} where
  -- it is a pass of this lock, and is at rest
  abbrev pub IsReady : DistMutex V J O X → DistPass V J O X r j → Type 0
  IsReady desk p = IsDistPassOf desk p × IsAtRest p

  -- how many jobs stand in its list, each with its answer
  abbrev pub listed : DistPass V J O X r j → ℕ
  listed p = length (dist_view p).own

  -- and may post so many jobs
  abbrev pub MayPost : ℕ → DistMutex V J O X → DistPass V J O X r j → Type 0
  MayPost n desk p = IsReady desk p × (n ≤ (dist_view p).quota)

  -- it covers the same numbers and is at rest again, with so many more jobs in its list
  abbrev pub HasListed : ℕ → DistMutex V J O X → DistPass V J O X r j → DistPass V J O X r j → Type 0
  HasListed n desk p q = IsReady desk q × SameNumbers (dist_view p) (dist_view q) × (listed q ≡ listed p + n)
