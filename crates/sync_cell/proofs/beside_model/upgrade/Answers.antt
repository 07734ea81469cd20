use Rattle.hall.specs.declared.view.StepKind.TheVariants as kinds
use Rattle.hall.specs.declared.view.Standing.TheVariants.{Upgrade}
use Rattle.hall.specs.Passes.{view}
use Rattle.map_cargo.specs.Gaining.{gained_by}
use Rattle.sync_cell.proofs.beside_model.upgrade.Goals as goal

pub returns-in-Ok-clause-settled : goal.returns-in-Ok-clause-settled
returns-in-Ok-clause-settled c = let s = c.in-Ok.ensures.step.1 in (gained_by kinds.UpgradeIn Upgrade _ 0 s.0 (view c.try_ulock.new.pass) s.2.0).settled
