-- Lists of wants, each a lock and a mode, by position.
use Rattle.std.specs.Prelude.{◌≡◌, ℕ, ◌<◌, ◌≤◌, List, [], ◌∷◌, length, slice_index_or}
use Rattle.lock_model.specs.declared.model.Mode.{Mode}
use Rattle.lock_model.specs.declared.model.Mode.TheVariants as modes
use Rattle.lock_model.specs.Locks.{Has}
use Rattle.acquire_many.specs.declared.guards.How.{How}
use Rattle.acquire_many.specs.declared.guards.How.TheVariants as hows

-- a lock and the mode in which it is wanted
abbrev pub Want : Type 0
Want = ℕ × Mode

-- a lock and how it is held, and the want that it meets
abbrev pub Hold : Type 0
Hold = ℕ × How

abbrev pub mode_in : How → Mode
mode_in (hows.Shared form) = modes.Shared
mode_in hows.Upgrade = modes.Upgrade
mode_in hows.Exclusive = modes.Exclusive

abbrev pub want_of : Hold → Want
want_of x = (x.0, mode_in x.1)

abbrev pub want_at : List Want → ℕ → Want
want_at wants k = slice_index_or wants k (0, modes.Shared)

abbrev pub lock_at : List Want → ℕ → ℕ
lock_at wants k = (want_at wants k).0

-- the lock of the want at a position stands earlier in the list
abbrev pub StandsBefore : List Want → ℕ → Type 0
StandsBefore wants k = (j : ℕ) × (j < k) × (lock_at wants j ≡ lock_at wants k)

-- this is the first such position
abbrev pub IsFirstTwice : List Want → ℕ → Type 0
IsFirstTwice wants k = (k < length wants) × StandsBefore wants k × ((i : ℕ) → i < k → StandsBefore wants i → ⊥)

-- no two wants name one lock
abbrev pub AreApart : List Want → Type 0
AreApart wants = (k : ℕ) → k < length wants → StandsBefore wants k → ⊥

-- the want at a position has the least lock from `from` on
abbrev pub IsLeast : List Want → ℕ → ℕ → Type 0
IsLeast wants from k = (k < length wants) × (from ≤ lock_at wants k) × ((j : ℕ) → j < length wants → from ≤ lock_at wants j → lock_at wants k ≤ lock_at wants j)

-- no want has a lock from `from` on
abbrev pub AllBelow : List Want → ℕ → Type 0
AllBelow wants from = (j : ℕ) → j < length wants → lock_at wants j < from

-- positions whose locks fall
abbrev pub Falls : List Want → List ℕ → Type 0
Falls wants [] = Unit {0}
Falls wants (k ∷ ks) = ((j : ℕ) → Has ks j → lock_at wants j < lock_at wants k) × Falls wants ks

-- These are the positions of the wants with locks below `from`, once each, the greatest lock first
pub record InOrderBelow (wants : List Want) (from : ℕ) (order : List ℕ) : Type 0 where
  pub here : (k : ℕ) → k < length wants → lock_at wants k < from → Has order k
  pub there : (k : ℕ) → Has order k → (k < length wants) × (lock_at wants k < from)
  pub falls : Falls wants order

-- the positions of all wants, once each, the greatest lock first
pub record InOrder (wants : List Want) (order : List ℕ) : Type 0 where
  pub here : (k : ℕ) → k < length wants → Has order k
  pub there : (k : ℕ) → Has order k → k < length wants
  pub falls : Falls wants order
