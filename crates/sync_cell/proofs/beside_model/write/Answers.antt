use Rattle.hall.specs.declared.view.StepKind.TheVariants as kinds
use Rattle.hall.specs.declared.view.Standing.TheVariants.{Exclusive}
use Rattle.hall.specs.Passes.{view}
use Rattle.map_cargo.specs.Gaining.{gained_by}
use Rattle.sync_cell.proofs.beside_model.write.Goals as goal

pub returns-in-Ok-clause-settled : goal.returns-in-Ok-clause-settled
returns-in-Ok-clause-settled c = let s = c.in-Ok.ensures.step.1 in (gained_by kinds.Hold Exclusive s.2 0 4 (view c.try_wlock.new.pass) s.5.0).settled

pub returns-in-Ok-clause-role : goal.returns-in-Ok-clause-role
returns-in-Ok-clause-role c = let was = c.requires.role.0 in (c.in-Ok.ensures.pass, c.in-Ok.ensures.clear was.1, c.in-Ok.ensures.stands, was.3)
