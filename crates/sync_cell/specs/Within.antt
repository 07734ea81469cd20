-- What is done while a cell is held.
use Rattle.std.specs.Prelude.{◌≡◌, ◌≢◌, ℕ, List}
use Rattle.std.specs.Borrow.{Bor, MutBor}
use Rattle.std.specs.Fn.{Once}
use Rattle.hall.specs.declared.guards.Form.{Form}
use Rattle.hall.specs.declared.guards.TryFault.{TryFault}
use Rattle.hall.specs.declared.hall.Hall.{Hall}
use Rattle.hall.specs.declared.hall.Pass.{Pass}
use Rattle.hall.specs.declared.view.Standing.{Standing}
use Rattle.hall.specs.declared.view.Standing.TheVariants.{Upgrade, Exclusive}
use Rattle.hall.specs.declared.view.View.{View}
use Rattle.hall.specs.Fitting.{SharedFits}
use Rattle.hall.specs.Passes.{view, IsPassOf, shape_of}
use Rattle.hall.specs.Views.{mode_of, standing}
use Rattle.map_cargo.specs.declared.entry.Part.{Part}
use Rattle.map_cargo.specs.declared.size.MapCargo.{MapCargo}
use Rattle.shared_mutex.specs.Acquiring.{ElsewhereSame}
use Rattle.sync_cell.specs.Attempts.{ReadsAtLast}
use Rattle.sync_cell.specs.Cells.{maps}
use Rattle.sync_cell.specs.declared.pointers.ReadPtr.{ReadPtr}
use Rattle.sync_cell.specs.declared.pointers.UpgradePtr.{UpgradePtr}
use Rattle.sync_cell.specs.declared.pointers.WritePtr.{WritePtr}
use Rattle.shared_mutex.specs.Tries.{WritesAtLast}
use Rattle.upgrade_mode.specs.Tries.{EntersUpgradeAtLast}

module _ {P : Type 0} where
  -- at each lock the pass holds the mode that it held before
  abbrev pub KeepsModes : View P → View P → Type 0
  KeepsModes v w = (k : ℕ) → mode_of (standing w k) ≡ mode_of (standing v k)

  -- and so at each lock but one
  abbrev pub KeepsModesElsewhere : View P → View P → ℕ → Type 0
  KeepsModesElsewhere v w lock = (k : ℕ) → k ≢ lock → mode_of (standing w k) ≡ mode_of (standing v k)

-- the pointer to a cell that is held for reading, in upgrade mode, and for writing
abbrev pub reads_at : ℕ → Form → ReadPtr
reads_at cell form = record { guard = record { lock = cell; form = form } }

abbrev pub upgrades_at : ℕ → UpgradePtr
upgrades_at cell = record { guard = record { lock = cell } }

abbrev pub writes_at : ℕ → WritePtr
writes_at cell = record { guard = record { lock = cell } }

-- a pass of the hall has just taken the cell for reading, in this form, with this view before
abbrev pub TookToRead : Hall MapCargo Part → View Part → ℕ → Form → Pass MapCargo Part maps → Type 0
TookToRead h v cell form held = IsPassOf h held × SharedFits (shape_of h) (view held) (record { lock = cell; form = form }) × ElsewhereSame v (view held) cell × ((faults : List TryFault) × ReadsAtLast maps v cell form faults (view held))

-- or in upgrade mode
abbrev pub TookToUpgrade : Hall MapCargo Part → View Part → ℕ → Pass MapCargo Part maps → Type 0
TookToUpgrade h v cell held = IsPassOf h held × (standing (view held) cell ≡ Upgrade) × ElsewhereSame v (view held) cell × ((faults : List TryFault) × EntersUpgradeAtLast maps v cell faults (view held))

-- or for writing
abbrev pub TookToWrite : Hall MapCargo Part → View Part → ℕ → Pass MapCargo Part maps → Type 0
TookToWrite h v cell held = IsPassOf h held × (standing (view held) cell ≡ Exclusive) × ElsewhereSame v (view held) cell × ((faults : List TryFault) × (misses : List TryFault) × WritesAtLast maps v cell faults misses (view held))

-- it is still a pass of the hall, stands at the cell as it did, and holds the same modes
abbrev pub StillHolds : Hall MapCargo Part → ℕ → Standing → Pass MapCargo Part maps → Pass MapCargo Part maps → Type 0
StillHolds h cell y held done = IsPassOf h done × (standing (view done) cell ≡ y) × KeepsModes (view held) (view done)

module _ {F H P X R : Type 0} (g : Once F (Bor H × (MutBor P × (Bor X × Unit {0}))) (R × (MutBor P × Unit {0}))) (f : F) where
  -- f may be called with this hall, this pass and this pointer
  abbrev pub MayTake : H → P → X → Type 0
  MayTake hall pass ptr = (h : Bor H) (p : MutBor P) (x : Bor X) → h.now ≡ hall → p.now ≡ pass → x.now ≡ ptr → g.pre f (h, (p, (x, tt)))

  -- such a call may answer so and leave this pass
  pub record Answers (hall : H) (pass : P) (ptr : X) (answer : R) (after : P) : Type 0 where
    pub h : Bor H
    pub p : MutBor P
    pub x : Bor X
    pub shows : (h.now ≡ hall) × (p.now ≡ pass) × (x.now ≡ ptr)
    pub left : MutBor P
    pub met : g.post f (h, (p, (x, tt))) (answer, (left, tt))
    pub leaves : left.now ≡ after
