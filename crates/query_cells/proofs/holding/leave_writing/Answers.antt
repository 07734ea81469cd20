use Rattle.std.proofs.Common.{◌<◌, ap, refl, subst, sym, true}
use Rattle.hall.specs.declared.view.StepKind.TheVariants.{Release}
use Rattle.hall.specs.declared.view.Shape.{Shape}
use Rattle.hall.specs.declared.view.View.{View}
use Rattle.hall.specs.Passes.{view, cargo_of}
use Rattle.hall.specs.Views.{entry_of}
use Rattle.map_cargo.specs.declared.entry.Part.{Part}
use Rattle.query_cells.proofs.Placing.{leads_once}
use Rattle.shared_mutex.specs.TrailLaws.{releases_treads}
use Rattle.query_cells.proofs.Quiet.{quiet_once}
use Rattle.query_cells.proofs.holding.leave_writing.Goals as goal

pub returns-clause-back : goal.returns-clause-back
returns-clause-back c =
    let lock = c.args.ptr.guard.lock in let step = c.unlock_write.ensures.step in let is = step.1 in
    leads_once (cargo_of c.args.hall.now) (view c.args.pass.now) (view c.unlock_write.new.pass) Release lock 8 true refl (subst (λ (s : Shape). lock < s.locks) (sym c.requires.pass.1) c.requires.cell)
    (ap (λ (z : View Part). z.shape) is) c.unlock_write.ensures.elsewhere (ap (λ (z : View Part). z.steps) is)

pub returns-clause-trail : goal.returns-clause-trail
returns-clause-trail c = releases_treads _ (view c.args.pass.now) (view c.unlock_write.new.pass) c.args.ptr.guard.lock c.unlock_write.ensures.step

pub returns-clause-quiet : goal.returns-clause-quiet
returns-clause-quiet c =
    let v = view c.args.pass.now in let is = c.unlock_write.ensures.step.1 in
    quiet_once v (view c.unlock_write.new.pass) (entry_of v Release c.args.ptr.guard.lock 8 true) (refl, refl) (ap (λ (z : View Part). z.steps) is)
