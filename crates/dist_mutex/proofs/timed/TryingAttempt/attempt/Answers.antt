use Rattle.dist_mutex.proofs.Faults.{fault_told}
use Rattle.dist_mutex.proofs.timed.TryingAttempt.attempt.Goals as goal

pub returns-clause-fault : goal.returns-clause-fault
returns-clause-fault g c = fault_told g.V.Room.rooms g.J.Job.means _ _ c.args.self.now.pass.now.pass.seat.me c.try_lock.new.pass.pass.seat.me c.try_lock.result c.try_lock.ensures.answer
