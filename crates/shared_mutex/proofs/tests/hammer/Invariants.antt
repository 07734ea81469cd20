use Rattle.shared_mutex.specs.Beside.{IsIdle}
use Rattle.shared_mutex.proofs.tests.hammer.Given as goal

abbrev pub invariant-loop : goal.invariant-loop
invariant-loop l = IsIdle l.hall l.pass
