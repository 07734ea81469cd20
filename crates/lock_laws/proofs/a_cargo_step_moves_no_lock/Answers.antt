use Rattle.lock_laws.proofs.Shown.{moves_no_lock}
use Rattle.lock_laws.proofs.a_cargo_step_moves_no_lock.Goals as goal

pub returns : goal.returns
returns g c = moves_no_lock g.C.CargoRule
