use Rattle.std.proofs.Common.{◌≡◌, false}
use Rattle.hall.specs.Passes.{view}
use Rattle.sync_cell.specs.Cells.{maps}
use Rattle.sync_cell.specs.Gains.{refuses_reader}
use Rattle.sync_cell.specs.GainLaws.{plain_tries, reader_took, reader_tried}
use Rattle.sync_cell.proofs.trying.try_rlock.Goals as goal

pub returns-in-Ok-clause-tries : goal.returns-in-Ok-clause-tries
returns-in-Ok-clause-tries c =
    let v = view c.args.pass.now in let w = view c.try_lock_shared.new.pass in
    plain_tries (λ e. refuses_reader (view c.args.pass.now).shape.policy e ≡ false) v w c.args.cell (reader_took maps v c.args.cell c.requires.away c.in-Ok.guard.form w c.in-Ok.ensures.step.1)

pub returns-in-Err-clause-tries : goal.returns-in-Err-clause-tries
returns-in-Err-clause-tries c = reader_tried maps (view c.args.pass.now) c.args.cell (view c.try_lock_shared.new.pass) c.in-Err.fault c.requires.away c.in-Err.ensures.step
