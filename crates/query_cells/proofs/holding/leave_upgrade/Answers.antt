use Rattle.std.proofs.Common.{◌<◌, ap, refl, subst, sym, true}
use Rattle.hall.specs.declared.view.StepKind.TheVariants.{UpgradeOut}
use Rattle.hall.specs.declared.view.Shape.{Shape}
use Rattle.hall.specs.declared.view.View.{View}
use Rattle.hall.specs.Passes.{view, cargo_of}
use Rattle.map_cargo.specs.declared.entry.Part.{Part}
use Rattle.query_cells.proofs.Placing.{leads_once}
use Rattle.sync_cell.specs.TrailLaws.{leaves_upgrade_treads}
use Rattle.query_cells.proofs.holding.leave_upgrade.Goals as goal

pub returns-clause-back : goal.returns-clause-back
returns-clause-back c =
    let lock = c.args.ptr.guard.lock in let step = c.unlock_upgrade_ptr.ensures.step in let is = step.1.0 in
    leads_once (cargo_of c.args.hall.now) (view c.args.pass.now) (view c.unlock_upgrade_ptr.new.pass) UpgradeOut lock step.0 true refl (subst (λ (s : Shape). lock < s.locks) (sym c.requires.pass.1) c.requires.cell)
    (ap (λ (z : View Part). z.shape) is) c.unlock_upgrade_ptr.ensures.elsewhere (ap (λ (z : View Part). z.steps) is)

pub returns-clause-trail : goal.returns-clause-trail
returns-clause-trail c = let s = c.unlock_upgrade_ptr.ensures.step in leaves_upgrade_treads _ (view c.args.pass.now) (view c.unlock_upgrade_ptr.new.pass) c.args.ptr.guard.lock s.0 s.1
