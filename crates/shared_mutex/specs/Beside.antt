-- Which standing at lock 0 shows a role, of a reader whose hold has a form: for the tests, some of them beside the plain model.
use Rattle.std.specs.Prelude.{◌≡◌, ℕ}
use Rattle.lock_model.specs.declared.model.Mode.{Mode}
use Rattle.lock_model.specs.declared.model.Mode.TheVariants as modes
use Rattle.lock_model.specs.declared.model.Role.{Role}
use Rattle.lock_model.specs.declared.model.Role.TheVariants.{Outside, Holds, Announces}
use Rattle.hall.specs.declared.cargo.CargoRule.{Ghosts}
use Rattle.hall.specs.declared.guards.Form.{Form}
use Rattle.hall.specs.declared.hall.Hall.{Hall}
use Rattle.hall.specs.declared.hall.Pass.{Pass}
use Rattle.hall.specs.declared.view.Standing.{Standing}
use Rattle.hall.specs.declared.view.Standing.TheVariants.{Away, Upgrade, Exclusive, Announcing}
use Rattle.hall.specs.Fitting.{IsFormOf, stands_by}
use Rattle.hall.specs.Passes.{view, IsPassOf, shape_of}
use Rattle.hall.specs.Slotting.{HasNonePending}
use Rattle.hall.specs.Views.{standing}

abbrev pub standing_with : Mode → Form → Standing
standing_with modes.Shared form = stands_by form
standing_with modes.Upgrade form = Upgrade
standing_with modes.Exclusive form = Exclusive

-- an announced writer has swept all of so many slots
abbrev pub standing_of : ℕ → Role → Form → Standing
standing_of slots Outside form = Away
standing_of slots (Holds mode) form = standing_with mode form
standing_of slots (Announces from_upgrade) form = Announcing slots 0 from_upgrade

module _ {C P : Type 0} {g : Ghosts C P} where
  -- the pass is one of the hall that may read, and has this role at lock 0; where that is a reader's, by this form
  abbrev pub HasRole : Hall C P → Pass C P g → Role → Form → Type 0
  HasRole hall pass role form = IsPassOf hall pass × HasNonePending (view pass) × (standing (view pass) 0 ≡ standing_of (shape_of hall).slots role form) × IsFormOf (shape_of hall).slots form

  -- the pass is one of the hall, is away from lock 0, and may read
  abbrev pub IsIdle : Hall C P → Pass C P g → Type 0
  IsIdle hall pass = IsPassOf hall pass × (standing (view pass) 0 ≡ Away) × HasNonePending (view pass)
