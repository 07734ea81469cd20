-- What a pass has after wants were met.
use Rattle.std.specs.Prelude.{◌≡◌, ◌≢◌, ℕ, ◌<◌, List, length, slice_index_or, Option, Some, None}
use Rattle.hall.specs.declared.cargo.CargoRule.{Ghosts}
use Rattle.hall.specs.declared.guards.TryFault.{TryFault}
use Rattle.hall.specs.declared.view.Footprint.{Footprint}
use Rattle.hall.specs.declared.view.Standing.TheVariants as stand
use Rattle.hall.specs.declared.view.Shape.{Shape}
use Rattle.hall.specs.declared.view.View.{View}
use Rattle.hall.specs.Treading.{Treads}
use Rattle.hall.specs.Views.{mode_of, standing}
use Rattle.acquire_many.specs.declared.guards.TheConstants.{MANY}
use Rattle.acquire_many.specs.declared.many.ManyFault.{ManyFault}
use Rattle.acquire_many.specs.declared.many.ManyFault.TheVariants as faults
use Rattle.acquire_many.specs.Met.{AtFirst, HeldAll, HeldBelow, HoldFits, InTurn, IsFor, IsForAny, Refuses, ReturnsHeld, Takes}
use Rattle.acquire_many.specs.Wants.{Hold, InOrder, InOrderBelow, IsFirstTwice, Want, lock_at, want_at, want_of}

module _ {C P : Type 0} (g : Ghosts C P) (meets : View P → Hold → View P → Type 0) (wants : List Want) where
  -- the wants with locks below `from` were met, those with lower locks first
  pub record TookBelow (shape : Shape) (from : ℕ) (v : View P) (holds : List (Option Hold)) (w : View P) : Type 0 where
    pub order : List ℕ
    pub sorted : InOrderBelow wants from order
    pub met : InTurn meets holds v order w
    pub held : HeldBelow wants from holds
    pub stands : (k : ℕ) (x : Hold) → slice_index_or holds k None ≡ Some x → HoldFits shape w x
    pub elsewhere : (lock : ℕ) → ((k : ℕ) → k < length wants → lock_at wants k < from → lock_at wants k ≢ lock) → standing w lock ≡ standing v lock
    pub trail : Treads (IsForAny wants) v w
    pub settled : (k : ℕ) → k < length wants → lock_at wants k < from → g.settled (lock_at wants k) w.part
    pub others : (lock : ℕ) → ((k : ℕ) → k < length wants → lock_at wants k ≢ lock) → g.settled lock v.part → g.settled lock w.part

  -- All wants were met, those with lower locks first. The guards stand by the positions of the wants; the pass holds each lock in the mode in which it was wanted, and stands elsewhere as before; its part is settled for each lock, and for the others where it was. Only for wants in stronger modes than shared are there strong footprints
  pub record TookAll (v : View P) (holds : List (Option Hold)) (w : View P) : Type 0 where
    pub order : List ℕ
    pub sorted : InOrder wants order
    pub met : InTurn meets holds v order w
    pub held : HeldAll wants holds
    pub stands : (k : ℕ) → k < length wants → mode_of (standing w (lock_at wants k)) ≡ Some (want_at wants k).1
    pub elsewhere : (lock : ℕ) → ((k : ℕ) → k < length wants → lock_at wants k ≢ lock) → standing w lock ≡ standing v lock
    pub trail : Treads (IsForAny wants) v w
    pub settled : (k : ℕ) → k < length wants → g.settled (lock_at wants k) w.part
    pub others : (lock : ℕ) → ((k : ℕ) → k < length wants → lock_at wants k ≢ lock) → g.settled lock v.part → g.settled lock w.part

module _ {C P : Type 0} (g : Ghosts C P) (holds : List (Option Hold)) where
  -- no hold is of this lock
  abbrev pub IsAside : ℕ → Type 0
  IsAside lock = (k : ℕ) (x : Hold) → slice_index_or holds k None ≡ Some x → x.0 ≢ lock

  -- a footprint for one of the holds
  abbrev pub IsForHeld : Footprint → Type 0
  IsForHeld m = (k : ℕ) × (x : Hold) × (slice_index_or holds k None ≡ Some x) × IsFor (want_of x) m

  -- the holds at the first n positions were given back, in their order
  pub record GaveFirst (v : View P) (n : ℕ) (w : View P) : Type 0 where
    pub returned : AtFirst (ReturnsHeld g) holds v n w
    pub away : (k : ℕ) (x : Hold) → k < n → slice_index_or holds k None ≡ Some x → standing w x.0 ≡ stand.Away
    pub elsewhere : (lock : ℕ) → ((k : ℕ) (x : Hold) → k < n → slice_index_or holds k None ≡ Some x → x.0 ≢ lock) → standing w lock ≡ standing v lock
    pub trail : Treads IsForHeld v w
    pub others : (lock : ℕ) → ((k : ℕ) (x : Hold) → k < n → slice_index_or holds k None ≡ Some x → x.0 ≢ lock) → g.settled lock v.part → g.settled lock w.part

module _ {C P : Type 0} (g : Ghosts C P) (wants : List Want) where
  -- The wants with lower locks than this one were taken in the order of their locks, then the one try for this one was refused, and then all that was taken was given back. The pass is away from each of the locks, and stands elsewhere as before
  pub record GaveUp (v : View P) (index : ℕ) (fault : TryFault) (w : View P) : Type 0 where
    pub near : index < length wants
    pub order : List ℕ
    pub sorted : InOrderBelow wants (lock_at wants index) order
    pub holds : List (Option Hold)
    pub held : HeldBelow wants (lock_at wants index) holds
    pub before : View P
    pub taken : InTurn (Takes g) holds v order before
    pub after : View P
    pub refused : Refuses g before (want_at wants index) after fault
    pub returned : AtFirst (ReturnsHeld g) holds after MANY w
    pub away : (k : ℕ) → k < length wants → standing w (lock_at wants k) ≡ stand.Away
    pub elsewhere : (lock : ℕ) → ((k : ℕ) → k < length wants → lock_at wants k ≢ lock) → standing w lock ≡ standing v lock
    pub trail : Treads (IsForAny wants) v w
    pub others : (lock : ℕ) → ((k : ℕ) → k < length wants → lock_at wants k ≢ lock) → g.settled lock v.part → g.settled lock w.part

  -- why nothing was taken
  abbrev pub TookNone : View P → ManyFault → View P → Type 0
  TookNone v (faults.Same index) w = IsFirstTwice wants index × (w ≡ v)
  TookNone v (faults.Refused index fault) w = GaveUp v index fault w
