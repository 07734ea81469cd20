use Rattle.lock_model.specs.Moves.{NotBefore}
use Rattle.lock_model.proofs.model.ModelLock.place.Given as goal

abbrev pub invariant-loop-place : goal.invariant-loop-place
invariant-loop-place l = NotBefore l.self.seats l.place l.seat
