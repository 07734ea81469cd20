-- What the rule of a chain says between any two steps, in plain words. `proofs/Shown.antt` has the law that the rule says it.
use Rattle.std.specs.Prelude.{◌≡◌, ◌≢◌, ◌⊎◌, ℕ, ◌+◌, ◌-◌, ◌*◌, ◌≤◌, List, [], slice_index, Option, Some}
use mathlib.Core.Option.{some}
use lib.ListN.{get_elem?}
use Rattle.atomic_table.specs.Table.{State}
use Rattle.view_sums.specs.Sums.{total, same}
use Rattle.waiter_chain.specs.declared.view.View.{View}
use Rattle.waiter_chain.specs.declared.view.Ownership.{Ownership}
use Rattle.waiter_chain.specs.declared.view.Stage.TheVariants.{Behind, Owns}
use Rattle.waiter_chain.specs.Chains.{Waiter, Line, kind, Filled, IsOut}

-- how often the line has the node n
abbrev pub has : {P : Type 0} → ℕ → List (Waiter P) → ℕ
has n xs = total (λ x. same x.0 n) xs

-- the status word of the node n, and its link
abbrev pub status_at : List ℕ → ℕ → ℕ
status_at words n = slice_index words (1 + 2 * n)

abbrev pub link_at : List ℕ → ℕ → ℕ
link_at words n = slice_index words (2 + 2 * n)

module _ {P : Type 0} where
  -- the pass has the turn, with these notes
  abbrev pub HasNotes : View P → Ownership P → Type 0
  HasNotes v k = v.stage ≡ Owns k

  -- the pass was made the owner, behind the word b, and has not polled since
  abbrev pub IsGranted : List ℕ → View P → ℕ → Type 0
  IsGranted words v b = (h : Option P) × (v.stage ≡ Behind b h) × (4 ≤ status_at words v.number)

  abbrev pub IsOwner : List ℕ → View P → Type 0
  IsOwner words v = ((k : Ownership P) × HasNotes v k) ⊎ ((b : ℕ) × IsGranted words v b)

  -- the pass waits behind the word b, with this job or with none, and its status says which
  abbrev pub IsWaiting : List ℕ → View P → ℕ → Option P → Type 0
  IsWaiting words v b h = (v.stage ≡ Behind b h) × (status_at words v.number ≡ kind h)

  -- the node stands in one of the two lines, behind the word b
  abbrev pub StandsIn : List (Waiter P) → List (Waiter P) → ℕ → ℕ → Type 0
  StandsIn older newer n b = (i : ℕ) × (x : Waiter P) × ((get_elem? older i ≡ some x) ⊎ (get_elem? newer i ≡ some x)) × (x.0 ≡ n) × (x.1 ≡ b)

  -- The older line is the owner's, the newer one begins at the central word
  pub record ChainShows (s : State (Option P) (View P)) : Type 0 where
    pub older : List (Waiter P)
    pub newer : List (Waiter P)
    -- no node stands twice, in one line or in both
    pub once : (n : ℕ) → has n older + has n newer ≤ 1
    -- who waits stands in one of them, behind the word that its swap found
    pub waiting : (j b : ℕ) (v : View P) (h : Option P) → get_elem? s.views j ≡ some v → IsWaiting s.words v b h → StandsIn older newer v.number b
    -- and who stands there waits
    pub listed : (i : ℕ) (x : Waiter P) → (get_elem? older i ≡ some x) ⊎ (get_elem? newer i ≡ some x) → (j : ℕ) × (v : View P) × (h : Option P) × (get_elem? s.views j ≡ some v) × (v.number ≡ x.0) × IsWaiting s.words v x.1 h
    -- there is at most one owner
    pub alone : (i j : ℕ) (v u : View P) → j ≢ i → get_elem? s.views i ≡ some v → get_elem? s.views j ≡ some u → IsOwner s.words v → IsOwner s.words u → ⊥
    -- the central word is 0 exactly where there is none; then nobody waits
    pub free : slice_index s.words 0 ≡ 0 → (older ≡ []) × (newer ≡ []) × ((j : ℕ) (v : View P) → get_elem? s.views j ≡ some v → IsOwner s.words v → ⊥)
    pub owned : slice_index s.words 0 ≢ 0 → (j : ℕ) × (v : View P) × (get_elem? s.views j ≡ some v) × IsOwner s.words v
    -- the lines run from word to word: the owner's from its first word to its end, the newer one from the central word to the owner's mark
    pub turn_lines : (j : ℕ) (v : View P) (k : Ownership P) → get_elem? s.views j ≡ some v → HasNotes v k → Line k.first older k.end × Line (slice_index s.words 0) newer k.mark
    pub granted_lines : (j b : ℕ) (v : View P) → get_elem? s.views j ≡ some v → IsGranted s.words v b → Line b older (status_at s.words v.number - 4) × Line (slice_index s.words 0) newer 1
    -- a waiting node's link is 0 or the word that its swap found
    pub links : (j b : ℕ) (v : View P) (h : Option P) → get_elem? s.views j ≡ some v → IsWaiting s.words v b h → (link_at s.words v.number ≡ 0) ⊎ (link_at s.words v.number ≡ b)
    -- the value stands in slot 0 unless a pass has the turn
    pub value : ((j : ℕ) (v : View P) (k : Ownership P) → get_elem? s.views j ≡ some v → HasNotes v k → ⊥) → (y : P) × Filled (get_elem? s.homes 0) y
    -- the job of a node that waits with one stands in its job slot, unless the owner has taken it
    pub jobs : (j b : ℕ) (v : View P) (job : P) → get_elem? s.views j ≡ some v → IsWaiting s.words v b (Some job) → Filled (get_elem? s.homes (1 + 2 * v.number)) job ⊎ IsOut (get_elem? s.homes (1 + 2 * v.number))
    -- where the status of a node behind another is 3, it had posted a job, and an answer stands in its answer slot
    pub answers : (j b : ℕ) (v : View P) (h : Option P) → get_elem? s.views j ≡ some v → v.stage ≡ Behind b h → status_at s.words v.number ≡ 3 → ((job : P) × (h ≡ Some job)) × ((a : P) × Filled (get_elem? s.homes (2 + 2 * v.number)) a)
