use Rattle.std.proofs.Common.{ap}
use Rattle.hall.specs.Passes.{view, shape_of}
use Rattle.hall.specs.Views.{pending}
use Rattle.map_cargo.specs.Sharing.{fits_shared, gained_shared}
use Rattle.map_cargo.specs.contracts.words.MapCargoCargoRule.TheImpl.{ghosts}
use Rattle.map_cargo.proofs.tests.shared.Goals as goal

pub try_lock_shared-requires-clause-clear : goal.try_lock_shared-requires-clause-clear
try_lock_shared-requires-clause-clear g c κs k = ap pending (c.requires.idle.0 k)

pub returns-clause-mode : goal.returns-clause-mode
returns-clause-mode g c = fits_shared (shape_of c.args.hall.now) (view c.try_lock_shared.new.pass) c.in-Ok.guard c.args.cell c.in-Ok.ensures.step.0 c.in-Ok.ensures.fits

pub returns-clause-gained : goal.returns-clause-gained
returns-clause-gained g c = gained_shared ghosts c.args.cell (view c.args.pass.now) (view c.try_lock_shared.new.pass) (λ ws p q learns. learns) (c.requires.idle.0 c.args.cell) c.in-Ok.guard.form c.in-Ok.ensures.step.1
