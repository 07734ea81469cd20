use Rattle.std.proofs.Common.{◌≡◌, length}
use Rattle.lock_model.specs.Locks.{role_in}
use Rattle.lock_model.proofs.model.ModelLock.role.Given as goal

abbrev pub invariant-loop-rest : goal.invariant-loop-rest
invariant-loop-rest l = role_in l.self.seats l.seat ≡ role_in l.rest l.seat

abbrev pub decreases-loop-rest : goal.decreases-loop-rest
decreases-loop-rest l = length l.rest
