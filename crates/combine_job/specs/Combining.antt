-- A pass that posts a job, and an owner that runs the job of the next node.
use Rattle.std.specs.Prelude.{◌≡◌, ◌≢◌, ℕ, ◌+◌, ◌-◌, ◌*◌, ◌<◌, ◌≤◌, Result, Option, Some, None, List, [], ◌∷◌, ◌++◌}
use Rattle.atomic_table.specs.Table.{rest}
use Rattle.waiter_chain.specs.Goods.{Goods, Runs, Counts, part}
use Rattle.waiter_chain.specs.Chains.{owed}
use Rattle.waiter_chain.specs.Steps.{SeatState, OwnHand, SoundNext, entry, moved}
use Rattle.waiter_chain.specs.Calls.{OwnsBy, Served}
use Rattle.waiter_chain.specs.declared.view.Ownership.{Ownership}
use Rattle.waiter_chain.specs.declared.view.StepKind.TheVariants.{LoadStatus}
use Rattle.waiter_chain.specs.declared.view.Stage.TheVariants.{Holding, Owns}
use Rattle.waiter_chain.specs.declared.turn.Turn.{Turn}
use Rattle.combine_job.specs.declared.parcel.Kept.{Kept}
use Rattle.combine_job.specs.declared.parcel.JobAnswer.{JobAnswer}
use Rattle.combine_job.specs.declared.parcel.Parcel.{Parcel}
use Rattle.combine_job.specs.declared.parcel.Parcel.TheVariants.{Value, Posted, Answered}
use Rattle.combine_job.specs.Parcels.{Related}

module _ {P : Type 0} where
  -- the pass has taken its own job slot, by a load that found this word, and has put this into it
  abbrev pub held_state : ℕ → Option P → SeatState P → SeatState P
  held_state word y m = (moved m.0 Holding (entry m.0 LoadStatus (1 + 2 * m.0.number) word), (1 + 2 * m.0.number, y) ∷ [])

-- the owner has taken the slots of the next node, in which a job lies, and what these jobs of its own, of which it pays for so many, made of the value that it found stands in slot 0
pub record HasJob {P : Type 0} (relates : P → P → P → P → Type 0) (rule : Goods P → Type 0) (slots count : ℕ) (ran : List (P × P)) (t : Turn) (link : ℕ) (m : SeatState P) : Type 0 where
  pub notes : Ownership P
  pub job : P
  pub answer : Option P
  pub own : List (ℕ × Option P)
  pub now : P
  pub owns : m.0.stage ≡ Owns notes
  pub turn : (notes.first ≡ t.first) × (notes.end ≡ t.end) × (notes.mark ≡ t.mark)
  pub next : notes.next ≡ Some (record { node = t.first - 2; behind = link; job = job })
  pub mine : OwnHand notes.mine m.0.number own
  pub apart : m.0.number ≢ t.first - 2
  pub hand : m.1 ≡ (0, Some now) ∷ (own ++ (2 + 2 * (t.first - 2), answer) ∷ (1 + 2 * (t.first - 2), Some job) ∷ [])
  pub low : (1 < t.first) × (2 * t.first < slots + 3)
  pub runs : Runs relates notes.value ran now
  pub enough : count ≤ m.0.quota
  pub paid : Counts (owed notes.mine) ran count
  pub sound : SoundNext rule notes.value (part m.0.number m.0.quota m.0.own) (t.first - 2) job (owed notes.mine)

module _ {V J O X : Type 0} (rooms : V → ℕ) (means : V → J → Result O X → V → Type 0) where
  -- the owner has taken the slots of the next node, in which this job lies; slot 0 is empty, and this is what jobs of its own, of which it pays for so many, made of the value
  abbrev pub MayRun : (J → Type 0) → ℕ → ℕ → List (Parcel V J O X × Parcel V J O X) → Turn → ℕ → Kept V → SeatState (Parcel V J O X) → Type 0
  MayRun is_ready slots count ran t link kept m = (k : Ownership (Parcel V J O X)) × (job : J) × (a : Option (Parcel V J O X)) × (own : List (ℕ × Option (Parcel V J O X))) × (m.0.stage ≡ Owns k) × (k.first ≡ t.first) × (k.end ≡ t.end) × (k.mark ≡ t.mark)
      × (k.next ≡ Some (record { node = t.first - 2; behind = link; job = Posted job })) × OwnHand k.mine m.0.number own × (m.0.number ≢ t.first - 2)
      × (m.1 ≡ (0, None) ∷ (own ++ (2 + 2 * (t.first - 2), a) ∷ (1 + 2 * (t.first - 2), Some (Posted job)) ∷ [])) × (1 < t.first) × (2 * t.first < slots + 3)
      × Runs (Related rooms means) k.value ran (Value kept) × (count ≤ m.0.quota) × Counts (owed k.mine) ran count × is_ready job

  -- it has run that job once, and the node is done
  abbrev pub RanNext : ℕ → ℕ → List (Parcel V J O X × Parcel V J O X) → Turn → ℕ → Kept V → SeatState (Parcel V J O X) → SeatState (Parcel V J O X) → Turn → Kept V → Type 0
  RanNext slots count ran t link kept m n u later = (job : J) × (answer : JobAnswer O X) × (l : SeatState (Parcel V J O X)) × (s : SeatState (Parcel V J O X)) × Related rooms means (Value kept) (Posted job) (Answered answer) (Value later) × (l.0 ≡ m.0) × Served slots count ran t link l s u
      × (s.1 ≡ (0, Some (Value later)) ∷ rest s.1) × (n ≡ (s.0, (0, None) ∷ rest s.1))

module _ {V J O X : Type 0} where
  -- the pass owns the lock by this turn with this value in its hand, and has run no job of its own that isn't settled
  abbrev pub HasValue : ℕ → Turn → Kept V → SeatState (Parcel V J O X) → Type 0
  HasValue slots t kept m = (k : Ownership (Parcel V J O X)) × OwnsBy slots t None m k × (k.value ≡ Value kept) × Counts (owed k.mine) [] 0
