use Rattle.std.proofs.Common.{◌∙◌}
use Rattle.hall.specs.Passes.{view}
use Rattle.shared_mutex.specs.Tries.{IsPatientTry, IsTry}
use Rattle.shared_mutex.specs.TrailLaws.{enters_treads}
use Rattle.shared_mutex.specs.TryLaws.{adds_as, stands_still}
use Rattle.sync_cell.specs.Cells.{maps}
use Rattle.sync_cell.specs.Gains.{AnyStep}
use Rattle.sync_cell.specs.GainLaws.{any_tries, reader_gained}
use Rattle.sync_cell.specs.WithinLaws.{gained_to_read}
use Rattle.query_cells.proofs.holding.hold_for_reading.Goals as goal

pub returns-clause-gained : goal.returns-clause-gained
returns-clause-gained g c = let s = c.rlock.ensures.step in gained_to_read (view c.args.pass.now) c.args.cell c.rlock.result.guard.form s.0 (view c.rlock.new.pass) c.requires.away s.1

pub returns-clause-trail : goal.returns-clause-trail
returns-clause-trail g c =
    let s = c.rlock.ensures.step in let e = s.1 in
    enters_treads maps (view c.args.pass.now) (view c.rlock.new.pass) c.args.cell s.0 c.requires.away (e.0, e.1, e.2, (c.rlock.result.guard.form, e.3))

pub returns-clause-tries : goal.returns-clause-tries
returns-clause-tries g c =
    let e = c.rlock.ensures.step.1 in let v = view c.args.pass.now in let w = view c.rlock.new.pass in let cell = c.args.cell in
    reader_gained maps e.0 cell (stands_still v e.0 cell e.2 ∙ c.requires.away) AnyStep v (e.2.steps.0, e.2.steps.1) c.rlock.result.guard.form w e.3
    (any_tries v w cell (adds_as (IsPatientTry v cell) (IsTry v cell) v w (λ x p. p.0) c.rlock.ensures.steps))
