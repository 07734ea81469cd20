use Rattle.lock_laws.proofs.Shown.{sets_fields}
use Rattle.lock_laws.proofs.each_change_sets_its_fields.Goals as goal

pub returns : goal.returns
returns c = sets_fields
