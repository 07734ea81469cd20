use Rattle.std.proofs.Common.{◌≡◌, ◌<◌, arith}
use Rattle.lock_model.specs.declared.model.Mode.TheVariants as modes
use Rattle.hall.specs.Passes.{view, shape_of}
use Rattle.hall.specs.Views.{standing}
use Rattle.hall.specs.declared.view.Standing.TheVariants.{Away}
use Rattle.acquire_many.proofs.Pairs.{each_of_two}
use Rattle.acquire_many.proofs.tests.behind_a_writer.Goals as goal

pub try_many-requires-clause-locks : goal.try_many-requires-clause-locks
try_many-requires-clause-locks g c = λ _. each_of_two (λ lock. lock < (shape_of c.args.hall.now).locks) (0, modes.Exclusive) (1, modes.Exclusive) (omega (arith, c.requires.pass.1)) c.requires.pass.1

pub try_many-requires-clause-away : goal.try_many-requires-clause-away
try_many-requires-clause-away g c = λ _. each_of_two (λ lock. standing (view c.args.pass.now) lock ≡ Away) (0, modes.Exclusive) (1, modes.Exclusive) c.requires.away.0 c.requires.away.1
