use Rattle.std.proofs.Common.{◌≡◌, length}
use Rattle.lock_model.specs.Locks.{is_free}
use Rattle.lock_model.proofs.model.ModelLock.is_free.Given as goal

abbrev pub invariant-loop-rest : goal.invariant-loop-rest
invariant-loop-rest l = is_free l.self.policy l.event.act l.event.seat l.self.seats ≡ is_free l.self.policy l.event.act l.event.seat l.rest

abbrev pub decreases-loop-rest : goal.decreases-loop-rest
decreases-loop-rest l = length l.rest
