-- What a chain carries, as plain data, and the laws of a rule over it.
use Rattle.std.specs.Prelude.{◌≡◌, ◌≢◌, ℕ, zero, suc, ◌+◌, ◌<◌, List, [], ◌∷◌, ◌++◌, length, slice_set, nat_eq, cond}
use mathlib.Core.Option.{some, none, Option as Maybe}
use lib.ListN.{get_elem?}

-- the number of a pass, what it has left of the quota, and its own jobs that ran, each with its answer
pub record Part (P : Type 0) : Type 0 where
  pub number : ℕ
  pub quota : ℕ
  pub own : List (P × P)

-- the value, wherever it is, the job that each node has posted and that has not run, the job of each node that has run with the answer that waits for the node, and the part of each pass
pub record Goods (P : Type 0) : Type 0 where
  pub value : P
  pub posted : ℕ → Maybe P
  pub answered : ℕ → Maybe (P × P)
  pub parts : List (Part P)

module _ {A : Type 0} where
  -- no node has one
  abbrev pub nothing : ℕ → Maybe A
  nothing n = none

  -- the same, but y at k
  abbrev pub put : (ℕ → Maybe A) → ℕ → Maybe A → ℕ → Maybe A
  put f k y n = cond (nat_eq n k) y (f n)

  -- the weights of what the nodes below n have, added up
  abbrev pub below : (Maybe A → ℕ) → (ℕ → Maybe A) → ℕ → ℕ
  below w f zero = 0
  below w f (suc n) = below w f n + w (f n)

module _ {P : Type 0} where
  abbrev pub part : ℕ → ℕ → List (P × P) → Part P
  part n q xs = record { number = n; quota = q; own = xs }

  abbrev pub goods : P → (ℕ → Maybe P) → (ℕ → Maybe (P × P)) → List (Part P) → Goods P
  goods v jobs answers ps = record { value = v; posted = jobs; answered = answers; parts = ps }

  -- no job is posted, and no answer waits
  abbrev pub resting : P → List (Part P) → Goods P
  resting v ps = goods v nothing nothing ps

  abbrev pub opened : P → ℕ → Goods P
  opened v q = resting v (part 0 q [] ∷ [])

module _ {P : Type 0} where
  -- what these jobs cost: a job that the owner had posted was paid for when it was posted, and is among them
  abbrev pub Pays : Maybe P → List (P × P) → ℕ → ℕ → Type 0
  Pays none ran before after = before ≡ after + length ran
  Pays (some j) ran before after = (before + 1 ≡ after + length ran) × ((k : ℕ) × (a : P) × (get_elem? ran k ≡ some (j, a)))

  -- so many of these jobs are to be paid for as the ownership ends: all, but for the one that the owner had posted, which is among them
  abbrev pub Counts : Maybe P → List (P × P) → ℕ → Type 0
  Counts none ran count = count ≡ length ran
  Counts (some j) ran count = (count + 1 ≡ length ran) × ((k : ℕ) × (a : P) × (get_elem? ran k ≡ some (j, a)))

module _ {P : Type 0} (relates : P → P → P → P → Type 0) where
  -- these jobs, one after another and each with its answer, lead from one value to the other
  abbrev pub Runs : P → List (P × P) → P → Type 0
  Runs v [] w = v ≡ w
  Runs v (x ∷ xs) w = (u : P) × relates v x.0 x.1 u × Runs u xs w

-- a rule keeps holding where a chain of so many nodes makes a step that changes what it carries
module _ {P : Type 0} (rule : Goods P → Type 0) (nodes : ℕ) where
  -- a node posts a job, and pays for it
  abbrev pub Posts : (P → Type 0) → Type 0
  Posts is_job = (g : Goods P) (i q n : ℕ) (xs : List (P × P)) (job : P)
      → rule g → n < nodes → get_elem? g.parts i ≡ some (part n (q + 1) xs) → is_job job → g.posted n ≡ none → g.answered n ≡ none
      → rule (goods g.value (put g.posted n (some job)) g.answered (slice_set g.parts i (part n q xs)))

  -- the owner, with the number n, puts a value back after jobs of its own
  abbrev pub Ends : (P → P → P → P → Type 0) → Type 0
  Ends relates = (g : Goods P) (i n before after : ℕ) (xs : List (P × P)) (ran : List (P × P)) (w : P)
      → rule g → n < nodes → get_elem? g.parts i ≡ some (part n before xs) → Runs relates g.value ran w → Pays (g.posted n) ran before after → g.answered n ≡ none
      → rule (goods w (put g.posted n none) g.answered (slice_set g.parts i (part n after (xs ++ ran))))

  -- the job of the node n was run on the value
  abbrev pub Serves : (P → P → P → P → Type 0) → Type 0
  Serves relates = (g : Goods P) (n : ℕ) (job answer w : P)
      → rule g → n < nodes → g.posted n ≡ some job → g.answered n ≡ none → relates g.value job answer w
      → rule (goods w (put g.posted n none) (put g.answered n (some (job, answer))) g.parts)

  -- a node takes its job and the answer into its own list
  abbrev pub Collects : Type 0
  Collects = (g : Goods P) (i q n : ℕ) (xs : List (P × P)) (job answer : P)
      → rule g → n < nodes → get_elem? g.parts i ≡ some (part n q xs) → g.answered n ≡ some (job, answer)
      → rule (goods g.value g.posted (put g.answered n none) (slice_set g.parts i (part n q (xs ++ (job, answer) ∷ []))))

module _ {P : Type 0} (rule : Goods P → Type 0) where
  -- a pass is cut in two, of which the second gets the number m
  abbrev pub Cuts : Type 0
  Cuts = (g : Goods P) (i n m q r : ℕ) (xs : List (P × P))
      → rule g → get_elem? g.parts i ≡ some (part n (q + r) xs)
      → rule (goods g.value g.posted g.answered (slice_set g.parts i (part n q xs) ++ part m r [] ∷ []))

  -- a pass for which no answer waits takes in another
  abbrev pub Merges : Type 0
  Merges = (g : Goods P) (i j n m q r : ℕ) (xs ys : List (P × P))
      → rule g → g.answered n ≡ none → j ≢ i → get_elem? g.parts i ≡ some (part n q xs) → get_elem? g.parts j ≡ some (part m r ys)
      → rule (goods g.value g.posted g.answered (slice_set (slice_set g.parts i (part n (q + r) (xs ++ ys))) j (part 0 0 [])))
