use Rattle.std.proofs.Common.{sym, subst}
use Rattle.map_cargo.specs.History.{IsSettled}
use Rattle.sync_cell.proofs.beside_model.rise.Goals as goal

pub returns-clause-settled : goal.returns-clause-settled
returns-clause-settled g c = subst (λ p. IsSettled 0 p) (sym c.move_from_upgrade_to_write.ensures.part) c.requires.role.1
