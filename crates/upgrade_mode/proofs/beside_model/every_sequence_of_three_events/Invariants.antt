use Rattle.std.proofs.Common.{◌<◌}
use Rattle.hall.specs.Passes.{shape_of}
use Rattle.shared_mutex.specs.Beside.{IsIdle}
use Rattle.upgrade_mode.proofs.beside_model.every_sequence_of_three_events.Given as goal

abbrev pub invariant-loop-code : goal.invariant-loop-code
invariant-loop-code g l = (0 < (shape_of l.hall).locks) × IsIdle l.hall l.one × IsIdle l.hall l.two × IsIdle l.hall l.three
