use Rattle.std.proofs.Common.{◌≡◌, ◌<◌, arith}
use Rattle.lock_model.specs.declared.model.Mode.TheVariants as modes
use Rattle.hall.specs.Passes.{view, shape_of}
use Rattle.hall.specs.Views.{standing}
use Rattle.hall.specs.declared.view.Standing.TheVariants.{Away}
use Rattle.acquire_many.proofs.Pairs.{each_of_two}
use Rattle.acquire_many.proofs.tests.in_falling_order.Goals as goal

pub lock_many-requires-clause-locks : goal.lock_many-requires-clause-locks
lock_many-requires-clause-locks g c = λ _ _. each_of_two (λ lock. lock < (shape_of c.args.hall.now).locks) (1, modes.Shared) (0, modes.Exclusive) c.requires.pass.1 (omega (arith, c.requires.pass.1))

pub lock_many-requires-clause-away : goal.lock_many-requires-clause-away
lock_many-requires-clause-away g c = λ _ _. each_of_two (λ lock. standing (view c.args.pass.now) lock ≡ Away) (1, modes.Shared) (0, modes.Exclusive) c.requires.away.1 c.requires.away.0
