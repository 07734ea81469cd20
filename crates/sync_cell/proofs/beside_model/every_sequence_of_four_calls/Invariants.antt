use Rattle.std.proofs.Common.{◌≡◌, ◌<◌}
use Rattle.hall.specs.declared.guards.Form.TheVariants.{Lowered}
use Rattle.hall.specs.Passes.{shape_of}
use Rattle.lock_model.specs.declared.model.Role.TheVariants.{Outside}
use Rattle.sync_cell.specs.Beside.{HasCell}
use Rattle.sync_cell.proofs.beside_model.every_sequence_of_four_calls.Given as goal

abbrev pub invariant-loop-code : goal.invariant-loop-code
invariant-loop-code g l = (0 < (shape_of l.hall).locks) × HasCell l.hall l.one Outside Lowered × HasCell l.hall l.two Outside Lowered × HasCell l.hall l.three Outside Lowered
