use Rattle.lock_laws.proofs.Shown.{enters_past_nobody}
use Rattle.lock_laws.proofs.no_reader_enters_past_a_writer.Goals as goal

pub returns : goal.returns
returns g c = enters_past_nobody g.C.CargoRule
