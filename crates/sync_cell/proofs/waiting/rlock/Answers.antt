use Rattle.std.proofs.Common.{rules}
use Rattle.hall.specs.Passes.{view}
use Rattle.sync_cell.specs.Cells.{maps}
use Rattle.sync_cell.proofs.Acquired.{patient_reader}
use Rattle.sync_cell.proofs.waiting.rlock.Goals as goal

pub returns-clause-steps : goal.returns-clause-steps
returns-clause-steps g c = let taken = c.wait-guard.ensures.gives.7.2 in
    let steps = patient_reader maps (view c.args.pass.now) c.args.cell c.requires.away taken.0 c.wait-guard.result.form (view c.wait-guard.new.attempt.pass.now) taken.1 in search rules
