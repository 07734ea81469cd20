use Rattle.std.proofs.Common.{false, inl}
use Rattle.waiter_chain.specs.Steps.{entry}
use Rattle.waiter_chain.specs.Calls.{readied_state}
use Rattle.waiter_chain.specs.declared.view.StepKind.TheVariants as step_kind
use Rattle.dist_mutex.proofs.mutex.DistMutex.lock.Goals as goal

pub returns-in-Owner-clause-owner : goal.returns-in-Owner-clause-owner
returns-in-Owner-clause-owner g c = let m = c.args.pass.now.pass.seat.me in inl (c.take.ensures.locked (readied_state false m) (entry m.0 step_kind.SwapIn 0 0) c.in-Owner.ensures.answer.0)
