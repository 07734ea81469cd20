use Rattle.waiter_chain.specs.Steps.{entry}
use Rattle.waiter_chain.specs.declared.view.StepKind.TheVariants as step_kind
use Rattle.dist_mutex.proofs.mutex.DistMutex.try_lock.Goals as goal

pub returns-clause-answer : goal.returns-clause-answer
returns-clause-answer g c = let m = c.args.pass.now.pass.seat.me in c.take.ensures.locked m (entry m.0 step_kind.TryIn 0 0) c.in_ok-turn.ensures.answer.0
