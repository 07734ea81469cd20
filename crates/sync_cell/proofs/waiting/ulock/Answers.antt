use Rattle.std.proofs.Common.{ap, rules}
use Rattle.hall.specs.Passes.{view}
use Rattle.sync_cell.specs.Cells.{maps}
use Rattle.sync_cell.proofs.Acquired.{patient_upgrader}
use Rattle.hall.specs.SlotLaws.{none_pending_at}
use Rattle.hall.specs.Views.{pending}
use Rattle.sync_cell.proofs.waiting.ulock.Goals as goal

pub returns-clause-steps : goal.returns-clause-steps
returns-clause-steps g c = let taken = c.wait-guard.ensures.gives.5.2 in
    let steps = patient_upgrader maps (view c.args.pass.now) c.args.cell c.requires.away taken.0 (view c.wait-guard.new.attempt.pass.now) taken.1 in search rules

pub returns-clause-clear : goal.returns-clause-clear
returns-clause-clear g c = let taken = c.wait-guard.ensures.gives.5 in
    let clear = none_pending_at (view c.args.pass.now) (view c.wait-guard.new.attempt.pass.now) c.args.cell taken.1 (ap pending taken.0) in search rules
