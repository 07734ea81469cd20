use Rattle.std.proofs.Common.{ap, sym, subst}
use Rattle.map_cargo.specs.History.{IsSettled}
use Rattle.sync_cell.proofs.beside_model.fall.Goals as goal

pub returns-clause-settled : goal.returns-clause-settled
returns-clause-settled c = subst (λ p. IsSettled 0 p) (sym (ap (λ v. v.part) c.move_from_write_to_upgrade.ensures.step.1)) c.requires.role.1
