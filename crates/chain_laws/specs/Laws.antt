-- The statements of the laws.
use Rattle.std.specs.Prelude.{◌≡◌, ◌≢◌, ℕ, ◌+◌, ◌*◌, ◌≤◌, Result, Option, Some, List, length, false}
use mathlib.Core.Option.{some, Option as Maybe}
use lib.ListN.{get_elem?}
use Rattle.atomic_table.specs.Table.{State}
use Rattle.view_sums.specs.Sums.{total}
use Rattle.waiter_chain.specs.Goods.{Goods, Runs, below}
use Rattle.waiter_chain.specs.Chains.{Filled, Lawful}
use Rattle.waiter_chain.specs.Shows.{ChainShows, HasNotes, IsOwner, status_at}
use Rattle.waiter_chain.specs.declared.view.Opening.{Opening}
use Rattle.waiter_chain.specs.declared.view.Ownership.{Ownership}
use Rattle.waiter_chain.specs.declared.view.View.{View}
use Rattle.waiter_chain.specs.declared.view.Stage.TheVariants.{Behind, Done}
use Rattle.combine_job.specs.declared.parcel.JobAnswer.{JobAnswer}
use Rattle.combine_job.specs.declared.parcel.Kept.{Kept}
use Rattle.combine_job.specs.declared.parcel.Parcel.{Parcel}
use Rattle.combine_job.specs.declared.parcel.Parcel.TheVariants.{Value, Answered}
use Rattle.combine_job.specs.Parcels.{Related, Ruled, EachOnce, weight, place, places}
use Rattle.dist_mutex.specs.Shows.{LockShows}

module _ {P : Type 0} (rule : Opening P → Goods P → Type 0) where
  -- where the rule holds, the chain is so
  abbrev pub ShowsChain : Type 0
  ShowsChain = (o : Opening P) (s : State (Option P) (View P)) → Lawful (rule o) o.nodes s → ChainShows s

  -- no two passes own the lock
  abbrev pub HasOneOwner : Type 0
  HasOneOwner = (o : Opening P) (s : State (Option P) (View P)) → Lawful (rule o) o.nodes s
      → (i j : ℕ) (v u : View P) → j ≢ i → get_elem? s.views i ≡ some v → get_elem? s.views j ≡ some u → IsOwner s.words v → IsOwner s.words u → ⊥

module _ {V J O X : Type 0} (rooms : V → ℕ) (means : V → J → Result O X → V → Type 0) where
  -- the jobs that ran, but for those that an owner has run for itself and not settled yet, and where each of their answers is
  pub record AnswersOnce (o : Opening (Parcel V J O X)) (s : State (Option (Parcel V J O X)) (View (Parcel V J O X))) : Type 0 where
    pub kept : Kept V
    -- each with its answer: one after another they lead from the first value to this one
    pub history : List (Parcel V J O X × Parcel V J O X)
    pub runs : Runs (Related rooms means) o.first.value history (Value kept)
    -- their positions are those below the count, each once
    pub once : EachOnce history kept.ran
    -- the job of each node whose answer waits for it, with that answer
    pub waiting : ℕ → Maybe (Parcel V J O X × Parcel V J O X)
    -- those in the passes' own lists and those that wait are the history: by every weight, so each as often as there
    pub all : (w : Parcel V J O X × Parcel V J O X → ℕ) → total (λ v. total w v.own) s.views + below (weight w) waiting o.nodes ≡ total w history
    -- the answer that stands in the slot of a done node is the answer to the job that this node posted
    pub behind : (j b : ℕ) (v : View (Parcel V J O X)) (job : Parcel V J O X) → get_elem? s.views j ≡ some v → v.stage ≡ Behind b (Some job) → status_at s.words v.number ≡ 3
        → (a : Parcel V J O X) × (waiting v.number ≡ some (job, a)) × Filled (get_elem? s.homes (2 + 2 * v.number)) a
    -- and so is the one that it has taken into its hand
    pub taken : (j : ℕ) (v : View (Parcel V J O X)) (job a : Parcel V J O X) → get_elem? s.views j ≡ some v → v.gone ≡ false → v.stage ≡ Done job a → waiting v.number ≡ some (job, a)

module _ {V J O X : Type 0} where
  -- the answers in this list stand at positions below n
  abbrev pub Early : List (Parcel V J O X × Parcel V J O X) → ℕ → Type 0
  Early xs n = (p : ℕ) → n ≤ p → places p xs ≡ 0

  -- what a pass is about to list comes after all that it has listed: where its job has run, the answer that waits for it, and the one that it has taken; where it owns the lock, each job of its own, since those run from the count of the value on that it found
  pub record InOrder (s : State (Option (Parcel V J O X)) (View (Parcel V J O X))) : Type 0 where
    pub waiting : (j b : ℕ) (v : View (Parcel V J O X)) (job : Parcel V J O X) → get_elem? s.views j ≡ some v → v.stage ≡ Behind b (Some job) → status_at s.words v.number ≡ 3
        → (answer : JobAnswer O X) × Filled (get_elem? s.homes (2 + 2 * v.number)) (Answered answer) × Early v.own answer.at
    pub taken : (j : ℕ) (v : View (Parcel V J O X)) (job a : Parcel V J O X) → get_elem? s.views j ≡ some v → v.gone ≡ false → v.stage ≡ Done job a
        → (answer : JobAnswer O X) × (a ≡ Answered answer) × Early v.own answer.at
    pub found : (j : ℕ) (v : View (Parcel V J O X)) (k : Ownership (Parcel V J O X)) → get_elem? s.views j ≡ some v → HasNotes v k
        → (kept : Kept V) × (k.value ≡ Value kept) × Early v.own kept.ran

module _ {V J O X : Type 0} (rooms : V → ℕ) (means : V → J → Result O X → V → Type 0) where
  -- jobs that lead from one value to another are answered at the positions from the first one's count up to the second one's, one after another
  abbrev pub RunInOrder : Type 0
  RunInOrder = (k l : Kept V) (ran : List (Parcel V J O X × Parcel V J O X)) → Runs (Related rooms means) (Value k) ran (Value l)
      → (l.ran ≡ k.ran + length ran) × ((i : ℕ) (x : Parcel V J O X × Parcel V J O X) → get_elem? ran i ≡ some x → place (k.ran + i) x.1 ≡ 1)

module _ {V J O X : Type 0} (rooms : V → ℕ) (means : V → J → Result O X → V → Type 0) (is_ready : J → Type 0) where
  abbrev pub ShowsLock : Type 0
  ShowsLock = (o : Opening (Parcel V J O X)) (s : State (Option (Parcel V J O X)) (View (Parcel V J O X))) → Lawful (Ruled rooms means is_ready o) o.nodes s → LockShows rooms means o s

  abbrev pub AnswersEachOnce : Type 0
  AnswersEachOnce = (o : Opening (Parcel V J O X)) (s : State (Option (Parcel V J O X)) (View (Parcel V J O X))) → Lawful (Ruled rooms means is_ready o) o.nodes s → AnswersOnce rooms means o s

  abbrev pub AnswersInOrder : Type 0
  AnswersInOrder = (o : Opening (Parcel V J O X)) (s : State (Option (Parcel V J O X)) (View (Parcel V J O X))) → Lawful (Ruled rooms means is_ready o) o.nodes s → InOrder s
