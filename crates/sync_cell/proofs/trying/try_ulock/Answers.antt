use Rattle.std.proofs.Common.{◌≡◌, false}
use Rattle.hall.specs.Passes.{view}
use Rattle.sync_cell.specs.Cells.{maps}
use Rattle.sync_cell.specs.GainLaws.{plain_tries, upgrader_took, upgrader_tried}
use Rattle.sync_cell.specs.Gains.{refuses_writer}
use Rattle.sync_cell.proofs.trying.try_ulock.Goals as goal

pub returns-in-Ok-clause-tries : goal.returns-in-Ok-clause-tries
returns-in-Ok-clause-tries c =
    let v = view c.args.pass.now in let w = view c.try_lock_upgrade.new.pass in
    plain_tries (λ e. refuses_writer e ≡ false) v w c.args.cell (upgrader_took maps v w c.args.cell c.requires.away c.in-Ok.ensures.step.1)

pub returns-in-Err-clause-tries : goal.returns-in-Err-clause-tries
returns-in-Err-clause-tries c = upgrader_tried maps (view c.args.pass.now) (view c.try_lock_upgrade.new.pass) c.args.cell c.requires.away c.in-Err.fault c.in-Err.ensures.step
