-- What the calls leave to their pass: wants that were met one after the other, and holds that were given back.
use Rattle.std.specs.Prelude.{◌≡◌, ◌≢◌, ℕ, zero, suc, ◌<◌, ◌≤◌, true, List, [], ◌∷◌, length, slice_index_or, Option, Some, None}
use Rattle.lock_model.specs.declared.model.Mode.TheVariants as modes
use Rattle.hall.specs.declared.cargo.CargoRule.{Ghosts}
use Rattle.hall.specs.declared.guards.Form.{Form}
use Rattle.hall.specs.declared.guards.TryFault.{TryFault}
use Rattle.hall.specs.declared.view.Footprint.{Footprint}
use Rattle.hall.specs.declared.view.Shape.{Shape}
use Rattle.hall.specs.declared.view.Standing.{Standing}
use Rattle.hall.specs.declared.view.Standing.TheVariants as stand
use Rattle.hall.specs.declared.view.View.{View}
use Rattle.hall.specs.Fitting.{IsFormOf, stands_by}
use Rattle.hall.specs.Plays.{Releases}
use Rattle.hall.specs.Upgrading.{LeavesUpgrade}
use Rattle.hall.specs.Views.{standing}
use Rattle.shared_mutex.specs.Acquiring.{EntersBy, LeavesShared, RefusesExclusive, RefusesShared, TakesExclusive}
use Rattle.shared_mutex.specs.Tries.{AddsSteps, IsPatientTry, WinsAtLast, WritesAtLast}
use Rattle.upgrade_mode.specs.Holding.{EntersUpgrade, RefusesUpgrade}
use Rattle.upgrade_mode.specs.Tries.{EntersUpgradeAtLast}
use Rattle.acquire_many.specs.declared.guards.How.{How}
use Rattle.acquire_many.specs.declared.guards.How.TheVariants as hows
use Rattle.acquire_many.specs.Wants.{Hold, Want, lock_at, want_at, want_of}

-- how a pass stands at a lock that it holds so
abbrev pub stands_for : How → Standing
stands_for (hows.Shared form) = stands_by form
stands_for hows.Upgrade = stand.Upgrade
stands_for hows.Exclusive = stand.Exclusive

-- a reader's slot is one of so many
abbrev pub IsFormIn : ℕ → How → Type 0
IsFormIn slots (hows.Shared form) = IsFormOf slots form
IsFormIn slots hows.Upgrade = Unit {0}
IsFormIn slots hows.Exclusive = Unit {0}

-- a pass of a hall of this shape stands at a lock as a guard says
abbrev pub HoldFits : {P : Type 0} → Shape → View P → Hold → Type 0
HoldFits shape v x = (x.0 < shape.locks) × (standing v x.0 ≡ stands_for x.1) × IsFormIn shape.slots x.1

-- a footprint at a lock, and a strong one only where it is wanted in a stronger mode than shared
abbrev pub IsFor : Want → Footprint → Type 0
IsFor want m = (m.lock ≡ want.0) × (m.strong ≡ true → want.1 ≢ modes.Shared)

-- a footprint for one of the wants
abbrev pub IsForAny : List Want → Footprint → Type 0
IsForAny wants m = (k : ℕ) × (k < length wants) × IsFor (want_at wants k) m

module _ {C P : Type 0} (g : Ghosts C P) where
  -- after tries that were refused a reader entered, and its hold has this form
  abbrev pub EntersAtLastBy : View P → ℕ → Form → List TryFault → View P → Type 0
  EntersAtLastBy v lock form faults w = WinsAtLast (λ v w fault. RefusesShared g v lock w fault) (λ u w. EntersBy g u lock form w) v lock faults w

  -- after tries that were refused the lock was taken, and is held so
  abbrev pub Meets : View P → Hold → View P → Type 0
  Meets v (lock, hows.Shared form) w = (faults : List TryFault) × EntersAtLastBy v lock form faults w
  Meets v (lock, hows.Upgrade) w = (faults : List TryFault) × EntersUpgradeAtLast g v lock faults w
  Meets v (lock, hows.Exclusive) w = (faults : List TryFault) × (misses : List TryFault) × WritesAtLast g v lock faults misses w

  -- and so by a pass that was away from the lock, each of whose steps on the way was a patient waiter's: it was for the lock, with no mode held there, and took no announcement back
  abbrev pub MeetsPatiently : View P → Hold → View P → Type 0
  MeetsPatiently v x w = (standing v x.0 ≡ stand.Away) × Meets v x w × AddsSteps (IsPatientTry v x.0) v w

  -- one try took the lock, which is held so
  abbrev pub Takes : View P → Hold → View P → Type 0
  Takes v (lock, hows.Shared form) w = EntersBy g v lock form w
  Takes v (lock, hows.Upgrade) w = EntersUpgrade g v lock w
  Takes v (lock, hows.Exclusive) w = TakesExclusive g v lock w

  -- one try was refused with this fault
  abbrev pub Refuses : View P → Want → View P → TryFault → Type 0
  Refuses v (lock, modes.Shared) w fault = RefusesShared g v lock w fault
  Refuses v (lock, modes.Upgrade) w fault = RefusesUpgrade g v lock w fault
  Refuses v (lock, modes.Exclusive) w fault = RefusesExclusive g v lock w fault

  -- a hold was given back: by one step from the lock's word, and by at most two from a slot
  abbrev pub Returns : View P → Hold → View P → Type 0
  Returns v (lock, hows.Shared form) w = LeavesShared g v lock form w
  Returns v (lock, hows.Upgrade) w = (found : ℕ) × LeavesUpgrade g v lock found w
  Returns v (lock, hows.Exclusive) w = Releases g v lock 8 w

  -- and so by a pass that held the lock as the hold says
  abbrev pub ReturnsHeld : View P → Hold → View P → Type 0
  ReturnsHeld v x w = (standing v x.0 ≡ stands_for x.1) × Returns v x w

-- the holds at these positions were gained one after the other, each in this way; the position that was met last stands first
abbrev pub InTurn : {V : Type 0} → (V → Hold → V → Type 0) → List (Option Hold) → V → List ℕ → V → Type 0
InTurn meets holds v [] w = w ≡ v
InTurn {V} meets holds v (k ∷ ks) w = (u : V) × InTurn meets holds v ks u × ((x : Hold) × (slice_index_or holds k None ≡ Some x) × meets u x w)

-- what was done at a position, if there is something
abbrev pub IfThere : {V : Type 0} → (V → Hold → V → Type 0) → V → Option Hold → V → Type 0
IfThere returns v None w = w ≡ v
IfThere returns v (Some hold) w = returns v hold w

-- so it was done at the first n positions, in their order
abbrev pub AtFirst : {V : Type 0} → (V → Hold → V → Type 0) → List (Option Hold) → V → ℕ → V → Type 0
AtFirst returns holds v zero w = w ≡ v
AtFirst {V} returns holds v (suc n) w = (u : V) × AtFirst returns holds v n u × IfThere returns u (slice_index_or holds n None) w

-- what stands at a position is a hold that meets a want
abbrev pub IsHeld : Want → Option Hold → Type 0
IsHeld want o = (x : Hold) × (o ≡ Some x) × (want_of x ≡ want)

-- the wants with locks below `from` are held, by their positions, and no others
pub record HeldBelow (wants : List Want) (from : ℕ) (holds : List (Option Hold)) : Type 0 where
  pub held : (k : ℕ) → k < length wants → lock_at wants k < from → IsHeld (want_at wants k) (slice_index_or holds k None)
  pub others : (k : ℕ) → (k < length wants → from ≤ lock_at wants k) → slice_index_or holds k None ≡ None

-- all wants are held, by their positions
pub record HeldAll (wants : List Want) (holds : List (Option Hold)) : Type 0 where
  pub held : (k : ℕ) → k < length wants → IsHeld (want_at wants k) (slice_index_or holds k None)
  pub none : (k : ℕ) → length wants ≤ k → slice_index_or holds k None ≡ None

module _ {C P : Type 0} (g : Ghosts C P) where
  -- the pass learnt what the lock guards
  abbrev pub Learns : ℕ → View P → View P → Type 0
  Learns lock v w = (words : List ℕ) × g.gains lock words v.part w.part
