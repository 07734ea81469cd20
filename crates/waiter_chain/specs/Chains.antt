-- The rule of a chain's table of N nodes. Word 0 is central, word 1 + 2 n the status of node n, word 2 + 2 n its link. Slot 0 has the value, slot 1 + 2 n the job of node n, slot 2 + 2 n its answer.
use Rattle.std.specs.Prelude.{◌≡◌, ◌≢◌, ◌⊎◌, ℕ, ◌+◌, ◌*◌, ◌<◌, List, [], ◌∷◌, map, length, slice_index, cond, nat_lt, Bool, true, false, Option, Some, None}
use mathlib.Core.Option.{some, none, Option as Maybe}
use lib.ListN.{get_elem?}
use Rattle.atomic_table.specs.Table.{State}
use Rattle.view_sums.specs.Sums.{total, same}
use Rattle.waiter_chain.specs.Goods.{Goods, Part, part, goods}
use Rattle.waiter_chain.specs.declared.view.View.{View}
use Rattle.waiter_chain.specs.declared.view.Next.{Next}
use Rattle.waiter_chain.specs.declared.view.OwnSlot.{OwnSlot}
use Rattle.waiter_chain.specs.declared.view.OwnSlot.TheVariants.{Unused, InHand, Unrun}
use Rattle.waiter_chain.specs.declared.view.Ownership.{Ownership}
use Rattle.waiter_chain.specs.declared.view.Stage.{Stage}
use Rattle.waiter_chain.specs.declared.view.Stage.TheVariants.{Idle, Holding, Cleared, Ready, Behind, Owns, Done}

-- A waiting node: its number, the word that its swap found, and the job that it has posted, where it has posted one
abbrev pub Waiter : Type 0 → Type 0
Waiter P = ℕ × ℕ × Option P

module _ {P : Type 0} where
  -- A line of waiting nodes, from the word v down to the word w
  abbrev pub Line : ℕ → List (Waiter P) → ℕ → Type 0
  Line v [] w = v ≡ w
  Line v (x ∷ xs) w = (v ≡ x.0 + 2) × Line x.1 xs w

  -- how often the word v names a node of the line
  abbrev pub named : ℕ → List (Waiter P) → ℕ
  named v xs = total (λ x. same (x.0 + 2) v) xs

  -- the status of a node that waits with a job, or without one
  abbrev pub kind : Option P → ℕ
  kind None = 1
  kind (Some j) = 2

  -- where the owner has seen a job, the first node of the line has posted one
  abbrev pub HasSeen : Bool → List (Waiter P) → Type 0
  HasSeen false xs = Unit {0}
  HasSeen true [] = ⊥
  HasSeen true (x ∷ xs) = (j : P) × (x.2 ≡ Some j)

-- the status of a node that is about to enter with a job, or without one
abbrev pub entering : Bool → ℕ
entering with_job = cond with_job 2 1

-- whether n is a number of this range: its first number, and how many come after it
abbrev pub within : ℕ → ℕ × ℕ → ℕ
within n x = cond (nat_lt n x.0) 0 (cond (nat_lt (x.0 + x.1) n) 0 1)

module _ {P : Type 0} where
  -- how often the pass covers the number n
  abbrev pub covers : ℕ → View P → ℕ
  covers n v = cond v.gone 0 (within n (v.number, v.spare) + total (within n) v.past)

  abbrev pub part_of : View P → Part P
  part_of v = part v.number v.quota v.own

-- all that the table has of one node: its two words, its two slots, the job that it has posted and that has not run, and its job that ran with the answer that waits for it
pub record Desk (P : Type 0) : Type 0 where
  pub status : ℕ
  pub link : ℕ
  pub job : Maybe (Maybe (Option P))
  pub answer : Maybe (Maybe (Option P))
  pub posted : Maybe P
  pub answered : Maybe (P × P)

-- who has the lock: nobody, the pass of a number, or a node that was granted and has not polled since, with what its swap found, the job that it has posted, where it has posted one, and the end of its line
pub data Owner (P : Type 0) : Type 0 where
  nobody : Owner P
  turn : ℕ → Ownership P → Owner P
  granted : ℕ → ℕ → Option P → ℕ → Owner P

module _ {P : Type 0} where
  abbrev pub desk : List ℕ → List (Maybe (Option P)) → (ℕ → Maybe P) → (ℕ → Maybe (P × P)) → ℕ → Desk P
  desk words homes posted answered n =
      record { status = slice_index words (1 + 2 * n); link = slice_index words (2 + 2 * n); job = get_elem? homes (1 + 2 * n); answer = get_elem? homes (2 + 2 * n); posted = posted n; answered = answered n }

  -- a slot is at home, with whatever it has
  abbrev pub Home : Maybe (Maybe (Option P)) → Type 0
  Home h = (y : Option P) × (h ≡ some (some y))

  abbrev pub Filled : Maybe (Maybe (Option P)) → P → Type 0
  Filled h y = h ≡ some (some (Some y))

  -- a slot is with a pass
  abbrev pub IsOut : Maybe (Maybe (Option P)) → Type 0
  IsOut h = h ≡ some none

  -- the node has posted nothing, and no answer waits for it
  abbrev pub Clear : Desk P → Type 0
  Clear d = Home d.answer × (d.posted ≡ none) × (d.answered ≡ none)

  abbrev pub AtRest : Desk P → Type 0
  AtRest d = Home d.job × Clear d

  -- the job slot of a node that enters with a job is with that node, and else at home
  abbrev pub JobAt : Bool → Desk P → Type 0
  JobAt true d = IsOut d.job
  JobAt false d = Home d.job

  -- a job that was posted lies in its slot
  abbrev pub Keeps : Option P → Desk P → Type 0
  Keeps (Some j) d = Filled d.job j × (d.posted ≡ some j)
  Keeps None d = Home d.job × (d.posted ≡ none)

  -- the node waits: its status says how, and its link is what its swap found, or not stored yet
  abbrev pub Waits : ℕ → Option P → Desk P → Type 0
  Waits behind job d = ((d.link ≡ 0) ⊎ (d.link ≡ behind)) × (d.status ≡ kind job) × Home d.answer × (d.answered ≡ none) × Keeps job d

  -- the owner has taken the node's two slots, and is to run its job; the node has stored what it is behind in its link
  abbrev pub Taken : ℕ → P → Desk P → Type 0
  Taken behind j d = (d.status ≡ 2) × IsOut d.job × IsOut d.answer × (d.posted ≡ some j) × (d.answered ≡ none) × (d.link ≡ behind)

  -- the node's job has run, and its answer lies in its slot
  abbrev pub Finished : P → Desk P → Type 0
  Finished j d = (d.status ≡ 3) × Home d.job × ((a : P) × Filled d.answer a × (d.answered ≡ some (j, a))) × (d.posted ≡ none)

  -- the node was made the owner: its chain ends at the word e
  abbrev pub Granted : Option P → ℕ → Desk P → Type 0
  Granted job e d = (d.status ≡ e + 4) × Home d.answer × (d.answered ≡ none) × Keeps job d

  -- the owner's posted job that has not run
  abbrev pub owed : OwnSlot P → Maybe P
  owed Unused = none
  owed InHand = none
  owed (Unrun j) = some j

  -- the owner's own job slot, and what it has posted
  abbrev pub Mine : OwnSlot P → Desk P → Type 0
  Mine Unused d = Home d.job × (d.posted ≡ none)
  Mine InHand d = IsOut d.job × (d.posted ≡ none)
  Mine (Unrun j) d = IsOut d.job × (d.posted ≡ some j)

  -- the job that a node has posted either has not run, or its answer waits
  abbrev pub Noted : Option P → Desk P → Type 0
  Noted None d = Unit {0}
  Noted (Some j) d = (d.posted ≡ some j) ⊎ ((a : P) × (d.answered ≡ some (j, a)))

  -- what is so of a pass's own node, by where the pass stands
  abbrev pub Seated : Stage P → Desk P → Type 0
  Seated Idle d = AtRest d
  Seated Holding d = IsOut d.job × Clear d
  Seated (Cleared with_job) d = JobAt with_job d × Clear d × (d.link ≡ 0)
  Seated (Ready with_job) d = JobAt with_job d × Clear d × (d.link ≡ 0) × (d.status ≡ entering with_job)
  Seated (Behind b job) d = Noted job d
  Seated (Owns r) d = Mine r.mine d × Home d.answer × (d.answered ≡ none)
  Seated (Done j a) d = Home d.job × IsOut d.answer × (d.posted ≡ none) × (d.answered ≡ some (j, a))

  abbrev pub AllWait : (ℕ → Desk P) → List (Waiter P) → Type 0
  AllWait at [] = Unit {0}
  AllWait at (x ∷ xs) = Waits x.1 x.2 (at x.0) × AllWait at xs

  abbrev pub AllDone : (ℕ → Desk P) → List (Waiter P) → Type 0
  AllDone at [] = Unit {0}
  AllDone at (x ∷ xs) = ((j : P) × (x.2 ≡ Some j) × Finished j (at x.0)) × AllDone at xs

  -- the older line, with the node whose slots the owner has taken
  abbrev pub front : Option (Next P) → List (Waiter P) → List (Waiter P)
  front None xs = xs
  front (Some x) xs = (x.node, x.behind, Some x.job) ∷ xs

  abbrev pub HasTaken : (ℕ → Desk P) → Option (Next P) → Type 0
  HasTaken at None = Unit {0}
  HasTaken at (Some x) = Taken x.behind x.job (at x.node)

  abbrev pub AtHome : List (Maybe (Option P)) → P → Type 0
  AtHome homes value = get_elem? homes 0 ≡ some (some (Some value))

-- of a number and a stage
abbrev pub Weight : Type 0 → Type 0
Weight P = ℕ → Stage P → ℕ

module _ {P : Type 0} (g : Weight P) where
  abbrev pub weigh : View P → ℕ
  weigh v = g v.number v.stage

  abbrev pub line_weight : List (Waiter P) → ℕ
  line_weight xs = total (λ x. g x.0 (Behind x.1 x.2)) xs

  -- only a pass that waits or owns counts
  abbrev pub Waking : Type 0
  Waking = (n : ℕ) → (g n Idle ≡ 0) × (g n Holding ≡ 0) × ((j : Bool) → g n (Cleared j) ≡ 0) × ((j : Bool) → g n (Ready j) ≡ 0) × ((j a : P) → g n (Done j a) ≡ 0)

  abbrev pub owner_weight : Owner P → ℕ
  owner_weight nobody = 0
  owner_weight (turn n r) = g n (Owns r) + line_weight (front r.next [])
  owner_weight (granted n b j e) = g n (Behind b j)

-- the older line, which the owner took, and the newer one, from central down to the mark
pub record Queued {P : Type 0} (nodes : ℕ) (words : List ℕ) (older newer : List (Waiter P)) (first end mark : ℕ) : Type 0 where
  pub old_line : Line first older end
  pub new_line : Line (slice_index words 0) newer mark
  pub marked : 0 < mark
  pub low_end : end < nodes + 2
  pub low_mark : mark < nodes + 2
  pub past_end : named end older ≡ 0
  pub past_mark : named mark newer ≡ 0
  pub taken : 0 < length older → mark ≡ 1

module _ {P : Type 0} where
  abbrev pub Held : ℕ → List ℕ → List (Maybe (Option P)) → (ℕ → Desk P) → List (Waiter P) → List (Waiter P) → P → Owner P → Type 0
  Held nodes words homes at older newer value nobody = (slice_index words 0 ≡ 0) × (older ≡ []) × (newer ≡ []) × AtHome homes value
  Held nodes words homes at older newer value (turn n r) =
      Queued nodes words (front r.next older) newer r.first r.end r.mark × ((r.mark ≡ 1) ⊎ (r.mark ≡ n + 2)) × (r.others_came ≡ true → 0 < length newer) × (get_elem? homes 0 ≡ some none) × (r.value ≡ value)
      × HasTaken at r.next × HasSeen r.job_waits older
  Held nodes words homes at older newer value (granted n b j e) = Queued nodes words older newer b e 1 × Granted j e (at n) × AtHome homes value

module _ {P : Type 0} (rule : Goods P → Type 0) where
  pub record Lawful (nodes : ℕ) (s : State (Option P) (View P)) : Type 0 where
    pub owner : Owner P
    pub older : List (Waiter P)
    pub newer : List (Waiter P)
    -- the nodes whose jobs have run, and that have not polled since
    pub done : List (Waiter P)
    pub value : P
    pub posted : ℕ → Maybe P
    pub answered : ℕ → Maybe (P × P)
    pub wide : length s.words ≡ 1 + 2 * nodes
    pub long : length s.homes ≡ 1 + 2 * nodes
    -- each number below N is covered by one pass
    pub covered : (n : ℕ) → total (covers n) s.views ≡ cond (nat_lt n nodes) 1 0
    -- the passes that wait or own are those of the two lines, those that are done, the owner, and the node whose slots it has taken
    pub standing : (g : Weight P) → Waking g → total (weigh g) s.views ≡ line_weight g older + line_weight g newer + line_weight g done + owner_weight g owner
    -- a pass that was taken in is idle, and has nothing left
    pub asleep : (j : ℕ) (v : View P) → get_elem? s.views j ≡ some v → v.gone ≡ true → (v.stage ≡ Idle) × (part_of v ≡ part 0 0 [])
    pub owned : (j : ℕ) (v : View P) (k : Ownership P) → get_elem? s.views j ≡ some v → v.stage ≡ Owns k → owner ≡ turn v.number k
    pub seated : (j : ℕ) (v : View P) → get_elem? s.views j ≡ some v → v.gone ≡ false → Seated v.stage (desk s.words s.homes posted answered v.number)
    -- a number that a pass covers beside its own is at rest
    pub unused : (j : ℕ) (v : View P) (n : ℕ) → get_elem? s.views j ≡ some v → v.gone ≡ false → 0 < covers n v → n ≢ v.number → AtRest (desk s.words s.homes posted answered n)
    pub unlinked : (j : ℕ) (v : View P) (n : ℕ) → get_elem? s.views j ≡ some v → v.gone ≡ false → v.linked ≡ false → 0 < covers n v → slice_index s.words (2 + 2 * n) ≡ 0
    pub old_waits : AllWait (desk s.words s.homes posted answered) older
    pub new_waits : AllWait (desk s.words s.homes posted answered) newer
    pub finished : AllDone (desk s.words s.homes posted answered) done
    pub held : Held nodes s.words s.homes (desk s.words s.homes posted answered) older newer value owner
    -- all quotas together fit in a word
    pub funded : total (λ v. v.quota) s.views < 18446744073709551616
    pub goods_rule : rule (goods value posted answered (map part_of s.views))

module _ {P : Type 0} (rule : Goods P → Type 0) (nodes : ℕ) where
  -- a pass that covers every number closes on a value that meets the rule, where no job is posted and no answer waits, beside its own part and others that have nothing left
  abbrev pub Closes : View P → Option P → Type 0
  Closes v out = ((n : ℕ) → n < nodes → 0 < covers n v)
      → (g : Goods P) × rule g × (out ≡ Some g.value) × ((n : ℕ) → n < nodes → (g.posted n ≡ none) × (g.answered n ≡ none)) × ((w : Part P → ℕ) → w (part 0 0 []) ≡ 0 → total w g.parts ≡ w (part_of v))
