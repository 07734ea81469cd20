-- A pass that posts a job, and how the job is answered.
use Rattle.std.specs.Prelude.{◌≡◌, ◌≢◌, ◌⊎◌, ℕ, ◌+◌, ◌*◌, ◌≤◌, Result, Some, None, List, [], ◌∷◌, ◌++◌, replicate}
use Rattle.waiter_chain.specs.Goods.{part}
use Rattle.waiter_chain.specs.Steps.{SeatState, Ranged, SoundJob}
use Rattle.waiter_chain.specs.Calls.{IsIdle}
use Rattle.waiter_chain.specs.declared.view.Opening.{Opening}
use Rattle.waiter_chain.specs.declared.view.Ownership.{Ownership}
use Rattle.waiter_chain.specs.declared.view.OwnSlot.TheVariants.{Unrun}
use Rattle.waiter_chain.specs.declared.view.StepEntry.{StepEntry}
use Rattle.waiter_chain.specs.declared.view.StepKind.TheVariants.{SetStatus, SwapIn, LoadStatus, StoreLink}
use Rattle.waiter_chain.specs.declared.view.Stage.TheVariants.{Owns}
use Rattle.waiter_chain.specs.declared.turn.Turn.{Turn}
use Rattle.combine_job.specs.declared.parcel.JobAnswer.{JobAnswer}
use Rattle.combine_job.specs.declared.parcel.Parcel.{Parcel}
use Rattle.combine_job.specs.declared.parcel.Parcel.TheVariants.{Posted, Answered}
use Rattle.combine_job.specs.Parcels.{Ruled, WasRun, places}
use Rattle.dist_mutex.specs.Unlocks.{by, Went, Unlocked}

-- The pass n has posted a job and waits behind this word: it found its own status 2 some times, and then 3, took its answer and is idle; or it was made the owner, ran its job and gave the lock up
abbrev pub Waited : ℕ → ℕ → ℕ → List StepEntry → Type 0
Waited n limit found es = (k : ℕ) × (more : List StepEntry) × (es ≡ replicate k (by n LoadStatus (1 + 2 * n) 2) ++ more)
    × ((more ≡ by n LoadStatus (1 + 2 * n) 3 ∷ by n SetStatus (1 + 2 * n) 0 ∷ []) ⊎ ((t : Turn) × (last : List StepEntry) × (t.first ≡ found) × (t.mark ≡ 1) × (more ≡ by n LoadStatus (1 + 2 * n) (t.end + 4) ∷ last) × Unlocked n limit t last))

-- It has posted a job: its status says so before its one swap. It found the lock free, ran its job and gave the lock up; or it stored the word that it is behind, and waited
abbrev pub Combined : ℕ → ℕ → List StepEntry → Type 0
Combined n limit es = (early : ℕ) × (found : ℕ) × (more : List StepEntry) × (es ≡ by n LoadStatus (1 + 2 * n) early ∷ by n StoreLink (2 + 2 * n) 0 ∷ by n SetStatus (1 + 2 * n) 2 ∷ by n SwapIn 0 found ∷ more)
    × (((found ≡ 0) × Unlocked n limit (record { first = n + 2; end = n + 2; mark = n + 2 }) more) ⊎ ((found ≢ 0) × ((last : List StepEntry) × (more ≡ by n StoreLink (2 + 2 * n) found ∷ last) × Waited n limit found last)))

module _ {V J O X : Type 0} (rooms : V → ℕ) (means : V → J → Result O X → V → Type 0) where
  -- the owner has the value that it found and its own posted job in their slots, in its hand, and has run no job
  pub record HasPosted (is_ready : J → Type 0) (o : Opening (Parcel V J O X)) (slots : ℕ) (job : J) (t : Turn) (m : SeatState (Parcel V J O X)) : Type 0 where
    pub notes : Ownership (Parcel V J O X)
    pub owns : m.0.stage ≡ Owns notes
    pub turn : (notes.first ≡ t.first) × (notes.end ≡ t.end) × (notes.mark ≡ t.mark)
    pub next : notes.next ≡ None
    pub mine : notes.mine ≡ Unrun (Posted job)
    pub hand : m.1 ≡ (0, Some notes.value) ∷ (1 + 2 * m.0.number, Some (Posted job)) ∷ []
    pub low : Ranged slots t.first t.end
    pub sound : SoundJob (Ruled rooms means is_ready o) notes.value (part m.0.number m.0.quota m.0.own) m.0.number (Posted job)

  -- by these steps the pass is idle again: its job ran once, and stands with its answer at the end of its list, at a position above all that stood there
  pub record WasAnswered (job : J) (answer : JobAnswer O X) (es : List StepEntry) (m n : SeatState (Parcel V J O X)) : Type 0 where
    pub idle : IsIdle n
    pub went : Went 0 ((Posted job, Answered answer) ∷ []) es m n
    pub ran : WasRun rooms means (Posted job, Answered answer)
    pub rises : (p : ℕ) → answer.at ≤ p → places p m.0.own ≡ 0
