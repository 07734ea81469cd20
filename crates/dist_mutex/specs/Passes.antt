-- What a clause reads of a lock and of a pass.
use Rattle.std.specs.Prelude.{◌≡◌, ℕ, List, []}
use Rattle.waiter_chain.specs.Steps.{SeatState}
use Rattle.waiter_chain.specs.declared.view.View.{View}
use Rattle.waiter_chain.specs.declared.view.Opening.{Opening}
use Rattle.combine_job.specs.declared.job.Room as room
use Rattle.combine_job.specs.declared.job.Job as job
use Rattle.combine_job.specs.declared.parcel.Parcel.{Parcel}
use Rattle.dist_mutex.specs.declared.mutex.DistMutex.{DistMutex}
use Rattle.dist_mutex.specs.declared.pass.DistPass.{DistPass}
use Rattle.dist_mutex.specs.Owners.{IsFree}

module _ {V J O X : Type 0} where
  -- what the lock was made with
  abbrev pub opening_of : DistMutex V J O X → Opening (Parcel V J O X)
  opening_of m = m.chain.table.shared.key

  -- how many slots its table has: two for each node, and one more
  abbrev pub slots_of : DistMutex V J O X → ℕ
  slots_of m = m.chain.table.shared.table_id.slots

  -- how many nodes it has, and its limit on combined jobs
  abbrev pub nodes_of : DistMutex V J O X → ℕ
  nodes_of m = m.chain.nodes

  abbrev pub combine_of : DistMutex V J O X → ℕ
  combine_of m = m.chain.combine

module _ {V J O X : Type 0} {r : room.Ghosts V} {j : job.Ghosts J V O X} where
  -- what the pass knows, and the slots that it has in hand
  abbrev pub dist_state : DistPass V J O X r j → SeatState (Parcel V J O X)
  dist_state p = p.pass.seat.me

  -- what the pass knows
  abbrev pub dist_view : DistPass V J O X r j → View (Parcel V J O X)
  dist_view p = p.pass.seat.me.0

  -- the jobs that it has run for itself in its present ownership, each with its answer
  abbrev pub runs_of : DistPass V J O X r j → List (Parcel V J O X × Parcel V J O X)
  runs_of p = p.runs.log.items

  -- how many of these it pays for as its ownership ends: those that it had not posted
  abbrev pub due_of : DistPass V J O X r j → ℕ
  due_of p = p.runs.count

  -- it has run no job of its own in its present ownership
  abbrev pub HasNoRuns : DistPass V J O X r j → Type 0
  HasNoRuns p = (runs_of p ≡ []) × (due_of p ≡ 0)

  abbrev pub IsDistPassOf : DistMutex V J O X → DistPass V J O X r j → Type 0
  IsDistPassOf m p = p.pass.seat.table_id ≡ m.chain.table.shared.table_id

  -- the same pass of the same lock
  abbrev pub IsSamePass : DistPass V J O X r j → DistPass V J O X r j → Type 0
  IsSamePass p q = (q.pass.seat.table_id ≡ p.pass.seat.table_id) × (q.pass.seat.id ≡ p.pass.seat.id)

  -- the pass is idle, and has run no job of its own since it was the owner
  abbrev pub IsAtRest : DistPass V J O X r j → Type 0
  IsAtRest p = IsFree p.pass.seat.me p.runs.log.items

module _ {P : Type 0} where
  -- the pass covers the same numbers
  pub record SameNumbers (v w : View P) : Type 0 where
    pub number : w.number ≡ v.number
    pub spare : w.spare ≡ v.spare
    pub past : w.past ≡ v.past
    pub gone : w.gone ≡ v.gone
