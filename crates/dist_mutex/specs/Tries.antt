-- A pass that tries to take the lock again and again.
use Rattle.std.specs.Prelude.{◌≡◌, ◌≢◌, ℕ, List, [], ◌∷◌, ◌++◌, Result, Option, Some, None, map, All, nat_eq, if◌then◌else◌}
use Rattle.waiter_chain.specs.Steps.{SeatState, entry, with_steps}
use Rattle.waiter_chain.specs.declared.view.Opening.{Opening}
use Rattle.waiter_chain.specs.declared.view.StepEntry.{StepEntry}
use Rattle.waiter_chain.specs.declared.view.StepKind.TheVariants.{TryIn}
use Rattle.waiter_chain.specs.declared.turn.Turn.{Turn}
use Rattle.waiter_chain.specs.declared.turn.DistBusy.{DistBusy}
use Rattle.combine_job.specs.declared.parcel.Kept.{Kept}
use Rattle.combine_job.specs.declared.parcel.Parcel.{Parcel}
use Rattle.dist_mutex.specs.Owners.{LockedBy}

-- what an exchange from 0 that found this word is refused with
abbrev pub fault_of : ℕ → Option DistBusy
fault_of word = if nat_eq word 0 then None else Some record { word = word }

-- what the last of these exchanges was refused with, where `before` is what the one before them was refused with
abbrev pub last_fault : Option DistBusy → List StepEntry → Option DistBusy
last_fault before [] = before
last_fault before (e ∷ es) = last_fault (fault_of e.word) es

module _ {P : Type 0} where
  -- the pass has tried once for each of these words, which it found in this order
  abbrev pub tried_state : List ℕ → SeatState P → SeatState P
  tried_state words m = (with_steps m.0 m.0.stage (m.0.steps ++ map (entry m.0 TryIn 0) words), m.1)

  -- tries were refused, the last of them with this fault, and nothing changed but the list of steps
  abbrev pub Refused : SeatState P → DistBusy → SeatState P → Type 0
  Refused m fault n = (words : List ℕ) × All (λ w. w ≢ 0) words × (fault.word ≢ 0) × (n ≡ tried_state (words ++ fault.word ∷ []) m)

module _ {V J O X : Type 0} (rooms : V → ℕ) (means : V → J → Result O X → V → Type 0) where
  -- tries were refused, and then one found the lock free
  abbrev pub LockedAtLast : Opening (Parcel V J O X) → ℕ → SeatState (Parcel V J O X) → SeatState (Parcel V J O X) → Turn → Kept V → Type 0
  LockedAtLast o slots m n t kept = (words : List ℕ) × All (λ w. w ≢ 0) words × LockedBy rooms means o slots (tried_state words m) n (entry m.0 TryIn 0 0) t kept
