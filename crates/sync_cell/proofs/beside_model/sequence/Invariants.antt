use Rattle.sync_cell.specs.Beside.{HasCell}
use Rattle.sync_cell.proofs.beside_model.sequence.Given as goal

abbrev pub invariant-loop : goal.invariant-loop
invariant-loop g l = HasCell l.hall l.one l.stands.0.role l.stands.0.form × HasCell l.hall l.two l.stands.1.role l.stands.1.form × HasCell l.hall l.three l.stands.2.role l.stands.2.form
