-- What an owner of the lock knows and does.
use Rattle.std.specs.Prelude.{◌≡◌, ◌≢◌, ◌⊎◌, ℕ, ◌+◌, ◌-◌, ◌*◌, ◌≤◌, ◌<◌, Result, Option, Some, None, List, [], ◌∷◌, ◌++◌, length, replicate, false}
use Rattle.view_sums.specs.Sums.{total}
use Rattle.waiter_chain.specs.Goods.{Runs, Counts}
use Rattle.waiter_chain.specs.Chains.{owed}
use Rattle.waiter_chain.specs.Steps.{SeatState, ownership, entry, moved, with_steps}
use Rattle.waiter_chain.specs.Calls.{IsIdle, OwnsBy, readied_state}
use Rattle.waiter_chain.specs.declared.view.Opening.{Opening}
use Rattle.waiter_chain.specs.declared.view.StepEntry.{StepEntry}
use Rattle.waiter_chain.specs.declared.view.Ownership.{Ownership}
use Rattle.waiter_chain.specs.declared.view.StepKind.TheVariants.{SwapIn, LoadStatus}
use Rattle.waiter_chain.specs.declared.view.Stage.TheVariants.{Behind, Owns}
use Rattle.waiter_chain.specs.declared.turn.Turn.{Turn}
use Rattle.combine_job.specs.declared.parcel.Kept.{Kept}
use Rattle.combine_job.specs.declared.parcel.Parcel.{Parcel}
use Rattle.combine_job.specs.declared.parcel.Parcel.TheVariants.{Value}
use Rattle.combine_job.specs.Parcels.{Related, EachOnce}

module _ {P : Type 0} where
  -- the pass is idle, and has run no job of its own since it was the owner
  abbrev pub IsFree : SeatState P → List (P × P) → Type 0
  IsFree m ran = IsIdle m × (ran ≡ [])

  -- the pass has stored 1 in its own status, and has swapped itself in behind the word b
  abbrev pub behind_state : ℕ → SeatState P → SeatState P
  behind_state b m = (moved (readied_state false m).0 (Behind b None) (entry m.0 SwapIn 0 b), [])

  -- the pass has found this in its own status so many times
  abbrev pub polled_as : ℕ → ℕ → SeatState P → SeatState P
  polled_as word k m = (with_steps m.0 m.0.stage (m.0.steps ++ replicate k (entry m.0 LoadStatus (1 + 2 * m.0.number) word)), m.1)

  -- it was 1, so that the pass waits with no job
  abbrev pub polled_state : ℕ → SeatState P → SeatState P
  polled_state k m = polled_as 1 k m

  -- the pass is idle again: its quota has fallen by the number of jobs that were due, these jobs and their answers stand at the end of its list, and it made at most so many steps
  abbrev pub Spent : ℕ → ℕ → List (P × P) → SeatState P → SeatState P → Type 0
  Spent most due ran m n = IsIdle n × (n.0.number ≡ m.0.number) × (n.0.spare ≡ m.0.spare) × (n.0.past ≡ m.0.past) × (n.0.quota ≡ m.0.quota - due) × (n.0.own ≡ m.0.own ++ ran)
      × ((made : List StepEntry) × (n.0.steps ≡ m.0.steps ++ made) × (length made ≤ most))

module _ {V J O X : Type 0} where
  -- the pass is idle again, has paid for one job, and has it with its answer at the end of its list
  abbrev pub RanOne : SeatState (Parcel V J O X) → SeatState (Parcel V J O X) → Parcel V J O X → Parcel V J O X → Type 0
  RanOne m n job answer = IsIdle n × (n.0.number ≡ m.0.number) × (n.0.spare ≡ m.0.spare) × (n.0.past ≡ m.0.past) × (n.0.quota + 1 ≡ m.0.quota) × (n.0.own ≡ m.0.own ++ (job, answer) ∷ [])

module _ {V J O X : Type 0} (rooms : V → ℕ) (means : V → J → Result O X → V → Type 0) where
  -- what is known of the value that an owner finds, beside its own jobs and answers and its quota
  pub record Stands (o : Opening (Parcel V J O X)) (own : List (Parcel V J O X × Parcel V J O X)) (quota : ℕ) (kept : Kept V) : Type 0 where
    -- the jobs that ran, each with its answer: they lead from the first value to this one
    pub history : List (Parcel V J O X × Parcel V J O X)
    pub runs : Runs (Related rooms means) o.first.value history (Value kept)
    -- their answers have the positions below the count, each once
    pub once : EachOnce history kept.ran
    -- the pass's own jobs are among them, each with its answer
    pub mine : (w : Parcel V J O X × Parcel V J O X → ℕ) → total w own ≤ total w history
    pub room : quota ≤ rooms kept.value
    pub count : kept.ran + quota ≤ o.quota
    pub small : o.quota < 18446744073709551616

  -- the pass owns the lock by this turn, the value in its hand is what these jobs of its own made of the value that it found, and so many of them are due, to be paid for as the ownership ends; a job that it had posted is among them, and was paid for
  pub record Owning (slots : ℕ) (m : SeatState (Parcel V J O X)) (due : ℕ) (ran : List (Parcel V J O X × Parcel V J O X)) (t : Turn) (kept : Kept V) : Type 0 where
    pub notes : Ownership (Parcel V J O X)
    pub owns : OwnsBy slots t None m notes
    pub runs : Runs (Related rooms means) notes.value ran (Value kept)
    pub paid : Counts (owed notes.mine) ran due
    pub room : m.0.quota ≤ rooms kept.value + due
    pub count : kept.ran + m.0.quota < 18446744073709551616 + due
    pub small : m.0.quota < 18446744073709551616

  -- by the step e the pass has become the owner, and this is the value that it found
  abbrev pub LockedBy : Opening (Parcel V J O X) → ℕ → SeatState (Parcel V J O X) → SeatState (Parcel V J O X) → StepEntry → Turn → Kept V → Type 0
  LockedBy o slots m n e t kept = (n ≡ (moved m.0 (Owns (ownership t.first t.end t.mark false (Value kept))) e, (0, None) ∷ [])) × Stands o m.0.own m.0.quota kept × Owning slots n 0 [] t kept

  -- the pass entered and found the lock free; or it waited behind another, polled its own status until that was 4 or more, and was then the owner
  abbrev pub WonLock : Opening (Parcel V J O X) → ℕ → SeatState (Parcel V J O X) → SeatState (Parcel V J O X) → Turn → Kept V → Type 0
  WonLock o slots m n t kept = LockedBy o slots (readied_state false m) n (entry m.0 SwapIn 0 0) t kept
      ⊎ ((b : ℕ) × (k : ℕ) × (b ≢ 0) × LockedBy o slots (polled_state k (behind_state b m)) n (entry m.0 LoadStatus (1 + 2 * m.0.number) (t.end + 4)) t kept)

  -- the lock ends with a value that the whole history made, and these jobs are exactly those of the history, each with its answer
  abbrev pub Ends : Opening (Parcel V J O X) → List (Parcel V J O X × Parcel V J O X) → Option (Kept V) → Type 0
  Ends o own out = (kept : Kept V) × (history : List (Parcel V J O X × Parcel V J O X)) × (out ≡ Some kept) × Runs (Related rooms means) o.first.value history (Value kept)
      × ((w : Parcel V J O X × Parcel V J O X → ℕ) → total w own ≡ total w history) × EachOnce own kept.ran
