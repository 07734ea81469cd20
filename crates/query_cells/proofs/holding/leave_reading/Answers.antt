use Rattle.std.proofs.Common.{◌<◌, refl, subst, sym}
use Rattle.hall.specs.declared.view.Shape.{Shape}
use Rattle.hall.specs.Fitting.{IsFormOf}
use Rattle.hall.specs.Passes.{view, cargo_of}
use Rattle.shared_mutex.specs.TrailLaws.{leaves_shared_treads}
use Rattle.map_cargo.specs.Sharing.{left_shared}
use Rattle.sync_cell.specs.Cells.{maps}
use Rattle.query_cells.proofs.Placing.{leads_left}
use Rattle.query_cells.proofs.Quiet.{quiet_left}
use Rattle.query_cells.proofs.holding.leave_reading.Goals as goal

pub returns-clause-left : goal.returns-clause-left
returns-clause-left c = left_shared maps c.args.ptr.guard.lock (view c.args.pass.now) (view c.unlock_read.new.pass) (λ held p. refl) c.args.ptr.guard.form c.unlock_read.ensures.step

pub returns-clause-back : goal.returns-clause-back
returns-clause-back c =
    let lock = c.args.ptr.guard.lock in let form = c.args.ptr.guard.form in let of = sym c.requires.pass.1 in
    leads_left maps (cargo_of c.args.hall.now) (view c.args.pass.now) (view c.unlock_read.new.pass) lock (subst (λ (s : Shape). lock < s.locks) of c.requires.fits.0) c.unlock_read.ensures.elsewhere
    form (subst (λ (s : Shape). IsFormOf s.slots form) of c.requires.fits.2) c.unlock_read.ensures.step

pub returns-clause-trail : goal.returns-clause-trail
returns-clause-trail c =
    let lock = c.args.ptr.guard.lock in
    leaves_shared_treads maps (view c.args.pass.now) (view c.unlock_read.new.pass) lock c.args.ptr.guard.form (subst (λ n. lock < n) (sym c.requires.pass.2) c.requires.fits.0) c.requires.fits.1 c.unlock_read.ensures.step

pub returns-clause-quiet : goal.returns-clause-quiet
returns-clause-quiet c = quiet_left maps (view c.args.pass.now) (view c.unlock_read.new.pass) c.args.ptr.guard.lock c.args.ptr.guard.form c.unlock_read.ensures.step
