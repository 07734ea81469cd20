use Rattle.lock_laws.proofs.Shown.{alone_there}
use Rattle.lock_laws.proofs.an_exclusive_holder_is_alone.Goals as goal

pub returns : goal.returns
returns g c = alone_there g.C.CargoRule
