use Rattle.std.proofs.Common.{refl}
use Rattle.hall.specs.Passes.{view}
use Rattle.map_cargo.specs.Sharing.{left_shared}
use Rattle.map_cargo.specs.contracts.words.MapCargoCargoRule.TheImpl.{ghosts}
use Rattle.map_cargo.proofs.tests.leave_shared.Goals as goal

pub returns-clause-left : goal.returns-clause-left
returns-clause-left c = left_shared ghosts c.args.guard.lock (view c.args.pass.now) (view c.unlock_shared.new.pass) (λ held p. refl) c.args.guard.form c.unlock_shared.ensures.step
