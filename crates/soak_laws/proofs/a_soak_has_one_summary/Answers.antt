use Rattle.soak_laws.proofs.Law.{law}
use Rattle.soak_laws.proofs.a_soak_has_one_summary.Goals as goal

pub returns : goal.returns
returns c = law
