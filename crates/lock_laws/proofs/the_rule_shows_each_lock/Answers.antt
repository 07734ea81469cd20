use Rattle.lock_laws.proofs.Shown.{shows_locks}
use Rattle.lock_laws.proofs.the_rule_shows_each_lock.Goals as goal

pub returns : goal.returns
returns g c = shows_locks g.C.CargoRule
