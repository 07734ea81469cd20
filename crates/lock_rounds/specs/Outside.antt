-- Where a pass stands between two rounds at the shared lock, which is the lock 0 of its hall, and what a round did there.
use Rattle.std.specs.Prelude.{◌≡◌, ◌<◌, Bool, true, false}
use Rattle.hall.specs.declared.cargo.CargoRule.{Ghosts}
use Rattle.hall.specs.declared.guards.Form.{Form}
use Rattle.hall.specs.declared.hall.Hall.{Hall}
use Rattle.hall.specs.declared.hall.Pass.{Pass}
use Rattle.hall.specs.declared.view.View.{View}
use Rattle.hall.specs.declared.view.Standing.TheVariants.{Away}
use Rattle.hall.specs.Fitting.{stands_by}
use Rattle.hall.specs.Passes.{view, IsPassOf, shape_of}
use Rattle.hall.specs.Plays.{Releases}
use Rattle.hall.specs.Slotting.{HasNonePending}
use Rattle.hall.specs.Views.{standing}
use Rattle.lock_rounds.specs.declared.plan.Act.{Act}
use Rattle.lock_rounds.specs.declared.plan.Act.TheVariants.{Read, Write, Raise}
use Rattle.shared_mutex.specs.Acquiring.{Finishes, LeavesShared}

module _ {C P : Type 0} {g : Ghosts C P} where
  -- it is a pass of this hall, and is away from the lock, with no token undecided and no unit owed anywhere
  abbrev pub IsOutside : Hall C P → Pass C P g → Type 0
  IsOutside h p = IsPassOf h p × (0 < (shape_of h).locks) × (standing (view p) 0 ≡ Away) × HasNonePending (view p)

  -- with its last steps it gave back a shared hold of this form
  abbrev pub HasRead : Form → Pass C P g → Type 0
  HasRead form p = (v : View P) × (standing v 0 ≡ stands_by form) × LeavesShared g v 0 form (view p)

  -- with its last step it took the lock as an announced writer, from upgrade or from outside
  abbrev pub FinishedBy : Bool → Pass C P g → Type 0
  FinishedBy from_upgrade p = (v : View P) × Finishes g from_upgrade v 0 (view p)

  -- with its last two steps it did so, and gave the lock back
  abbrev pub HasWritten : Bool → Pass C P g → Type 0
  HasWritten from_upgrade p = (v : View P) × (w : View P) × Finishes g from_upgrade v 0 w × Releases g w 0 8 (view p)

  -- with its last steps it did what a round of this kind does
  abbrev pub HasDone : Act → Pass C P g → Type 0
  HasDone Read p = (form : Form) × HasRead form p
  HasDone Write p = HasWritten false p
  HasDone Raise p = HasWritten true p
