use Rattle.std.proofs.Common.{◌≡◌, ◌<◌, ap}
use Rattle.hall.specs.Passes.{view, shape_of}
use Rattle.hall.specs.Views.{pending, standing}
use Rattle.hall.specs.declared.view.Standing.TheVariants.{Away}
use Rattle.query_cells.proofs.TakingTwo.{each_want, took_two}
use Rattle.query_cells.proofs.two.take_two.Goals as goal

pub lock_many-requires-clause-locks : goal.lock_many-requires-clause-locks
lock_many-requires-clause-locks g c = λ _ _. each_want (λ lock. lock < (shape_of c.args.hall.now).locks) c.args.one c.args.other c.args.mode c.requires.cells.0 c.requires.cells.1

pub lock_many-requires-clause-away : goal.lock_many-requires-clause-away
lock_many-requires-clause-away g c = λ _ _. each_want (λ lock. standing (view c.args.pass.now) lock ≡ Away) c.args.one c.args.other c.args.mode (c.requires.idle.0 c.args.one) (c.requires.idle.0 c.args.other)

pub returns-clause-took : goal.returns-clause-took
returns-clause-took g c = took_two (shape_of c.args.hall.now) c.args.one c.args.other c.args.mode (view c.args.pass.now) (view c.lock_many.new.pass) c.requires.idle c.lock_many.result c.lock_many.ensures.took c.lock_many.ensures.fits

pub lock_many-requires-clause-clear : goal.lock_many-requires-clause-clear
lock_many-requires-clause-clear g c = λ _ _ k. ap pending (c.requires.idle.0 k)
