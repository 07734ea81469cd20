use Rattle.shared_mutex.specs.Beside.{HasRole}
use Rattle.upgrade_mode.proofs.beside_model.sequence.Given as goal

abbrev pub invariant-loop : goal.invariant-loop
invariant-loop g l = HasRole l.hall l.one l.stands.0.role l.stands.0.form × HasRole l.hall l.two l.stands.1.role l.stands.1.form × HasRole l.hall l.three l.stands.2.role l.stands.2.form
