-- Parcels as the freight of a chain: jobs on a value with a room, and the one history of the jobs that ran.
use Rattle.std.specs.Prelude.{◌≡◌, ℕ, ◌+◌, ◌≤◌, ◌<◌, Result, Option, Some, None, List, cond, nat_lt}
use mathlib.Core.Option.{some, none, Option as Maybe}
use lib.ListN.{get_elem?}
use Rattle.view_sums.specs.Sums.{total, same}
use Rattle.waiter_chain.specs.Goods.{Goods, Part, Runs, below}
use Rattle.waiter_chain.specs.declared.view.Opening.{Opening}
use Rattle.combine_job.specs.declared.parcel.Kept.{Kept}
use Rattle.combine_job.specs.declared.parcel.JobAnswer.{JobAnswer}
use Rattle.combine_job.specs.declared.parcel.Parcel.{Parcel}
use Rattle.combine_job.specs.declared.parcel.Parcel.TheVariants.{Value, Posted, Answered}

-- the weight of what a node has, where it has something
abbrev pub weight : {A : Type 0} → (A → ℕ) → Maybe A → ℕ
weight w none = 0
weight w (some x) = w x

module _ {V J O X : Type 0} (rooms : V → ℕ) (means : V → J → Result O X → V → Type 0) where
  -- the job runs on the first value, at its position, and leaves the second: the answer is the plain meaning of the job
  abbrev pub Related : Parcel V J O X → Parcel V J O X → Parcel V J O X → Parcel V J O X → Type 0
  Related v j a w = (k : Kept V) × (l : Kept V) × (job : J) × (answer : JobAnswer O X) × (v ≡ Value k) × (w ≡ Value l) × (j ≡ Posted job) × (a ≡ Answered answer)
      × (answer.at ≡ k.ran) × (l.ran ≡ k.ran + 1) × means k.value job answer.result l.value × (rooms k.value ≤ rooms l.value + 1)

  -- the job ran on some value, and this is its answer
  abbrev pub WasRun : Parcel V J O X × Parcel V J O X → Type 0
  WasRun x = (v : Parcel V J O X) × (w : Parcel V J O X) × Related v x.0 x.1 w

module _ {V J O X : Type 0} where
  -- a first value: no job ran on it, and it has room for the quota
  abbrev pub Admits : (V → ℕ) → Parcel V J O X → ℕ → Type 0
  Admits rooms v q = (k : Kept V) × (v ≡ Value k) × (k.ran ≡ 0) × (q ≤ rooms k.value)

  -- a job with its answer, as a pass's own list has them
  abbrev pub answer_to : J → JobAnswer O X → Parcel V J O X × Parcel V J O X
  answer_to job answer = (Posted job, Answered answer)

  abbrev pub IsJob : (J → Type 0) → Parcel V J O X → Type 0
  IsJob is_ready v = (j : J) × (v ≡ Posted j) × is_ready j

  -- the kept value, where this is one
  abbrev pub kept_in : Parcel V J O X → Option (Kept V)
  kept_in (Value k) = Some k
  kept_in (Posted j) = None
  kept_in (Answered a) = None

  -- 1 where this is an answer with the position p
  abbrev pub place : ℕ → Parcel V J O X → ℕ
  place p (Value k) = 0
  place p (Posted j) = 0
  place p (Answered a) = same a.at p

  -- how often the position p is among the answers of these jobs
  abbrev pub places : ℕ → List (Parcel V J O X × Parcel V J O X) → ℕ
  places p xs = total (λ x. place p x.1) xs

  -- where this is an answer, the answers of these jobs stand at positions below its own
  abbrev pub ComesAfter : List (Parcel V J O X × Parcel V J O X) → Parcel V J O X → Type 0
  ComesAfter xs a = (answer : JobAnswer O X) → a ≡ Answered answer → (p : ℕ) → answer.at ≤ p → places p xs ≡ 0

  -- the answer that waits for a pass comes after all in its own list
  abbrev pub AllAfter : List (Part (Parcel V J O X)) → (ℕ → Maybe (Parcel V J O X × Parcel V J O X)) → Type 0
  AllAfter ps answered = (i : ℕ) (y : Part (Parcel V J O X)) (x : Parcel V J O X × Parcel V J O X) → get_elem? ps i ≡ some y → answered y.number ≡ some x → ComesAfter y.own x.1

  -- the answers of these jobs have the positions below n, each once
  abbrev pub EachOnce : List (Parcel V J O X × Parcel V J O X) → ℕ → Type 0
  EachOnce xs n = (p : ℕ) → places p xs ≡ cond (nat_lt p n) 1 0

  abbrev pub one : Maybe (Parcel V J O X) → ℕ
  one none = 0
  one (some x) = 1

  abbrev pub quotas : List (Part (Parcel V J O X)) → ℕ
  quotas ps = total (λ x. x.quota) ps

  -- the weights of all jobs and answers in the passes' own lists
  abbrev pub all_own : (Parcel V J O X × Parcel V J O X → ℕ) → List (Part (Parcel V J O X)) → ℕ
  all_own w ps = total (λ x. total w x.own) ps

module _ {V J O X : Type 0} (rooms : V → ℕ) (means : V → J → Result O X → V → Type 0) (is_ready : J → Type 0) where
  pub record Ruled (o : Opening (Parcel V J O X)) (g : Goods (Parcel V J O X)) : Type 0 where
    pub first : Kept V
    pub now : Kept V
    -- the jobs that ran, each with its answer, the first one first
    pub history : List (Parcel V J O X × Parcel V J O X)
    pub began : o.first.value ≡ Value first
    pub none_ran : first.ran ≡ 0
    pub is : g.value ≡ Value now
    pub runs : Runs (Related rooms means) o.first.value history g.value
    -- the jobs in the passes' own lists and those whose answers wait, each with its answer, are those of the history: by every weight, so each as often as there
    pub answers : (w : Parcel V J O X × Parcel V J O X → ℕ) → all_own w g.parts + below (weight w) g.answered o.nodes ≡ total w history
    pub jobs : (n : ℕ) (x : Parcel V J O X) → g.posted n ≡ some x → IsJob is_ready x
    -- what waits for a node is a job that ran, with its answer
    pub told : (n : ℕ) (x : Parcel V J O X × Parcel V J O X) → g.answered n ≡ some x → WasRun rooms means x
    -- and its position is above all in the list of that node's pass
    pub after : AllAfter g.parts g.answered
    -- there is room for all quotas, and for the posted jobs that have not run
    pub room : quotas g.parts + below one g.posted o.nodes ≤ rooms now.value
    pub paid : now.ran + (quotas g.parts + below one g.posted o.nodes) ≤ o.quota
    pub small : o.quota < 18446744073709551616
