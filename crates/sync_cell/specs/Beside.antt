-- What a pass has at cell 0 in a role: for the test beside the plain model.
use Rattle.std.specs.Prelude.{◌≡◌, ℕ}
use Rattle.lock_model.specs.declared.model.Mode.TheVariants as modes
use Rattle.lock_model.specs.declared.model.Role.{Role}
use Rattle.lock_model.specs.declared.model.Role.TheVariants.{Outside, Holds, Announces}
use Rattle.hall.specs.declared.guards.Form.{Form}
use Rattle.hall.specs.declared.hall.Hall.{Hall}
use Rattle.hall.specs.declared.hall.Pass.{Pass}
use Rattle.hall.specs.Passes.{view}
use Rattle.map_cargo.specs.declared.entry.Part.{Part}
use Rattle.map_cargo.specs.declared.size.MapCargo.{MapCargo}
use Rattle.map_cargo.specs.History.{IsSettled}
use Rattle.shared_mutex.specs.Beside.{HasRole}
use Rattle.sync_cell.specs.Cells.{maps}

-- who may write, or may go on to write, knows the words of the cell
abbrev pub IsSettledFor : Role → Part → Type 0
IsSettledFor Outside part = Unit {0}
IsSettledFor (Holds modes.Shared) part = Unit {0}
IsSettledFor (Holds modes.Upgrade) part = IsSettled 0 part
IsSettledFor (Holds modes.Exclusive) part = IsSettled 0 part
IsSettledFor (Announces from_upgrade) part = Unit {0}

-- the pass is one of the hall, and has this role at cell 0; where that is a reader's, by this form
abbrev pub HasCell : Hall MapCargo Part → Pass MapCargo Part maps → Role → Form → Type 0
HasCell hall pass role form = HasRole hall pass role form × IsSettledFor role (view pass).part
