-- The steps of an unlock, one after another.
use Rattle.std.specs.Prelude.{◌≡◌, ◌≢◌, ◌⊎◌, ℕ, zero, suc, ◌+◌, ◌-◌, ◌*◌, ◌<◌, ◌≤◌, List, [], ◌∷◌, ◌++◌, true}
use Rattle.waiter_chain.specs.Goods.{Goods}
use Rattle.waiter_chain.specs.Steps.{SeatState}
use Rattle.waiter_chain.specs.Calls.{IsIdle, HasTurn, MayEnd}
use Rattle.waiter_chain.specs.declared.view.StepEntry.{StepEntry}
use Rattle.waiter_chain.specs.declared.view.StepKind.{StepKind}
use Rattle.waiter_chain.specs.declared.view.StepKind.TheVariants.{Free, TakeChain, Grant, LoadKind, LoadLink, Serve}
use Rattle.waiter_chain.specs.declared.view.Ownership.{Ownership}
use Rattle.waiter_chain.specs.declared.view.Stage.TheVariants.{Owns}
use Rattle.waiter_chain.specs.declared.turn.Turn.{Turn}
use Rattle.combine_job.specs.Combining.{HasJob}
use Rattle.dist_mutex.specs.declared.owner.Next.{Next}
use Rattle.dist_mutex.specs.declared.owner.Next.TheVariants as next

-- one step of the pass n
abbrev pub by : ℕ → StepKind → ℕ → ℕ → StepEntry
by n k place word = record { number = n; kind = k; place = place; word = word }

-- it loads the status of the node x, or its link; it tells the node that its job has run, or makes it the owner of a chain that ends at e
abbrev pub loads_kind : ℕ → ℕ → ℕ → StepEntry
loads_kind n x word = by n LoadKind (1 + 2 * x) word

abbrev pub loads_link : ℕ → ℕ → ℕ → StepEntry
loads_link n x word = by n LoadLink (2 + 2 * x) word

abbrev pub serves : ℕ → ℕ → StepEntry
serves n x = by n Serve (1 + 2 * x) 3

abbrev pub grants : ℕ → ℕ → ℕ → StepEntry
grants n x e = by n Grant (1 + 2 * x) (e + 4)

-- The owner n with the turn t goes on with the turn u, whose chain is not empty: with its own; or, where its own is empty and the central word was another than its mark, with the newest chain, which it takes
abbrev pub Comes : ℕ → Turn → List StepEntry → Turn → Type 0
Comes n t es u = (u.first ≢ u.end) × (((t.first ≢ t.end) × (u ≡ t) × (es ≡ [])) ⊎ ((t.first ≡ t.end) × (u.end ≡ t.mark) × (u.mark ≡ 1)
    × ((es ≡ by n TakeChain 0 u.first ∷ []) ⊎ ((w : ℕ) × (w ≢ t.mark) × (es ≡ by n Free 0 w ∷ by n TakeChain 0 u.first ∷ [])))))

-- One round: the next node was found to wait with a job, and to be behind the word b; its job was run, and the owner goes on with the turn s, which begins at b
abbrev pub Round : ℕ → Turn → List StepEntry → Turn → Type 0
Round n t es s = (front : List StepEntry) × (u : Turn) × (b : ℕ) × Comes n t front u × (b ≢ 0) × (s.first ≡ b) × (s.end ≡ u.end) × (s.mark ≡ u.mark)
    × (es ≡ front ++ loads_kind n (u.first - 2) 2 ∷ loads_link n (u.first - 2) b ∷ serves n (u.first - 2) ∷ [])

abbrev pub Rounds : ℕ → Turn → ℕ → List StepEntry → Turn → Type 0
Rounds n t zero es s = (es ≡ []) × (s ≡ t)
Rounds n t (suc k) es s = (early : List StepEntry) × (late : List StepEntry) × (mid : Turn) × Rounds n t k early mid × Round n mid late s × (es ≡ early ++ late)

-- How it ends after k rounds: the exchange that frees the lock found the owner's mark; or the next node is made the owner. It was found to wait for the lock itself; or with a job, where the limit is reached, or where it is not and the node's link was found to be 0
abbrev pub Closes : ℕ → ℕ → ℕ → Turn → List StepEntry → Next → Type 0
Closes n limit k t es next.Free = (t.first ≡ t.end) × (es ≡ by n Free 0 t.mark ∷ [])
Closes n limit k t es (next.Plain x) = (front : List StepEntry) × (u : Turn) × Comes n t front u × (u.first ≡ x + 2) × (es ≡ front ++ loads_kind n x 1 ∷ grants n x u.end ∷ [])
Closes n limit k t es (next.Spent x) = (front : List StepEntry) × (u : Turn) × Comes n t front u × (u.first ≡ x + 2) × (k ≡ limit) × (es ≡ front ++ loads_kind n x 2 ∷ grants n x u.end ∷ [])
Closes n limit k t es (next.Unlinked x) = (front : List StepEntry) × (u : Turn) × Comes n t front u × (u.first ≡ x + 2) × (k < limit) × (es ≡ front ++ loads_kind n x 2 ∷ loads_link n x 0 ∷ grants n x u.end ∷ [])

-- an unlock by the owner n with the turn t, which ran the jobs of k other nodes, at most so many, and ended so
abbrev pub Unlocks : ℕ → ℕ → Turn → ℕ → List StepEntry → Next → Type 0
Unlocks n limit t k es x = (k ≤ limit) × ((early : List StepEntry) × (late : List StepEntry) × (mid : Turn) × Rounds n t k early mid × Closes n limit k mid late x × (es ≡ early ++ late))

abbrev pub Unlocked : ℕ → ℕ → Turn → List StepEntry → Type 0
Unlocked n limit t es = (k : ℕ) × (x : Next) × Unlocks n limit t k es x

module _ {P : Type 0} where
  -- the pass made these steps; so much of its quota was paid, and these jobs of its own entered its list
  pub record Went (due : ℕ) (ran : List (P × P)) (es : List StepEntry) (m n : SeatState P) : Type 0 where
    pub number : n.0.number ≡ m.0.number
    pub spare : n.0.spare ≡ m.0.spare
    pub past : n.0.past ≡ m.0.past
    pub quota : n.0.quota ≡ m.0.quota - due
    pub own : n.0.own ≡ m.0.own ++ ran
    pub steps : n.0.steps ≡ m.0.steps ++ es

  -- the owner has seen that the next node waits with a job
  abbrev pub IsSeen : SeatState P → Type 0
  IsSeen m = (k : Ownership P) × (m.0.stage ≡ Owns k) × (k.job_waits ≡ true)

  -- the owner goes on with a turn whose next node waits with a job
  abbrev pub JobWaits : (P → P → P → P → Type 0) → ℕ → ℕ → List (P × P) → Turn → SeatState P → SeatState P → Turn → Type 0
  JobWaits relates slots due ran t m n u = HasTurn slots u n × MayEnd relates due ran n × IsSeen n
      × ((front : List StepEntry) × Comes m.0.number t front u × Went 0 [] (front ++ loads_kind m.0.number (u.first - 2) 2 ∷ []) m n)

  -- it has given the lock up, to nobody or to a node that waits for the lock itself
  abbrev pub EndsSoon : ℕ → List (P × P) → Turn → SeatState P → SeatState P → Next → Type 0
  EndsSoon due ran t m n x = IsIdle n × ((es : List StepEntry) × Went due ran es m n × ((limit k : ℕ) → Closes m.0.number limit k t es x))

  -- it has taken the slots of the next node, by one load of the link
  abbrev pub TookJob : (P → P → P → P → Type 0) → (Goods P → Type 0) → ℕ → ℕ → List (P × P) → Turn → SeatState P → SeatState P → Turn → ℕ → Type 0
  TookJob relates rule slots due ran t m n u link = (u ≡ t) × (link ≢ 0) × HasJob relates rule slots due ran u link n × Went 0 [] (loads_link m.0.number (t.first - 2) link ∷ []) m n

  -- it found that the next node has not linked, and made it the owner
  abbrev pub NotLinked : ℕ → List (P × P) → Turn → SeatState P → SeatState P → Next → Type 0
  NotLinked due ran t m n x = IsIdle n × (x ≡ next.Unlinked (t.first - 2)) × Went due ran (loads_link m.0.number (t.first - 2) 0 ∷ grants m.0.number (t.first - 2) t.end ∷ []) m n

  -- the job of the next node was run
  abbrev pub RanRound : (P → P → P → P → Type 0) → ℕ → ℕ → List (P × P) → Turn → SeatState P → SeatState P → Turn → Type 0
  RanRound relates slots due ran t m n u = HasTurn slots u n × MayEnd relates 0 [] n × ((es : List StepEntry) × Round m.0.number t es u × Went due ran es m n)

  -- the lock was given up before the limit was reached
  abbrev pub EndsEarly : ℕ → List (P × P) → Turn → SeatState P → SeatState P → Next → Type 0
  EndsEarly due ran t m n x = IsIdle n × ((es : List StepEntry) × Went due ran es m n × ((limit k : ℕ) → k < limit → Closes m.0.number limit k t es x))

  -- or as it was reached
  abbrev pub StopsAs : ℕ → List (P × P) → Turn → SeatState P → SeatState P → Next → Type 0
  StopsAs due ran t m n x = IsIdle n × ((es : List StepEntry) × Went due ran es m n × ((limit : ℕ) → Closes m.0.number limit limit t es x))
