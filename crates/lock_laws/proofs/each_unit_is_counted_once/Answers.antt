use Rattle.lock_laws.proofs.Shown.{units_once}
use Rattle.lock_laws.proofs.each_unit_is_counted_once.Goals as goal

pub returns : goal.returns
returns g c = units_once g.C.CargoRule
