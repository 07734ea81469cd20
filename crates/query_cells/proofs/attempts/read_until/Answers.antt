use Rattle.std.proofs.Common.{◌+◌, length, refl}
use Rattle.shared_mutex.specs.Tries.{IsPatientTry, IsTry}
use Rattle.shared_mutex.specs.TryLaws.{adds_as}
use Rattle.hall.specs.Passes.{view}
use Rattle.sync_cell.specs.Cells.{maps}
use Rattle.sync_cell.specs.Refused.{reader_late}
use Rattle.sync_cell.specs.WithinLaws.{gained_to_read}
use Rattle.query_cells.proofs.Taking.{late_reads, turned_away, unchanged_look, unchanged_none}
use Rattle.shared_mutex.specs.TrailLaws.{enters_treads, looked_weak}
use Rattle.query_cells.proofs.attempts.read_until.Goals as goal

pub returns-in-Ok-clause-taken : goal.returns-in-Ok-clause-taken
returns-in-Ok-clause-taken g c =
    let e = c.in-Ok.ensures in (
      e.cell,
      record { stands = e.stands; elsewhere = e.elsewhere; gained = gained_to_read (view c.args.pass.now) c.args.cell c.in-Ok.ptr.guard.form e.step.0 (view c.rlock_until.new.pass) c.requires.away e.step.1 },
    )

pub returns-in-Err-clause-reads : goal.returns-in-Err-clause-reads
returns-in-Err-clause-reads g c =
    let s = c.in-Err.ensures.step in let v = view c.args.pass.now in let w = view c.rlock_until.new.pass in
    late_reads v w c.args.cell c.in-Err.late.fault (reader_late _ v c.args.cell w c.in-Err.late.fault s.0 c.requires.away s.1)

pub returns-in-Ok-clause-trail : goal.returns-in-Ok-clause-trail
returns-in-Ok-clause-trail g c = let s = c.in-Ok.ensures.step in let e = s.1 in
    enters_treads maps (view c.args.pass.now) (view c.rlock_until.new.pass) c.args.cell s.0 c.requires.away (e.0, e.1, e.2, (c.in-Ok.ptr.guard.form, e.3))

pub returns-in-Err-clause-trail : goal.returns-in-Err-clause-trail
returns-in-Err-clause-trail g c = looked_weak (view c.args.pass.now) (view c.rlock_until.new.pass) c.args.cell c.requires.away c.in-Err.ensures.step.2

pub returns-in-Err-clause-taken : goal.returns-in-Err-clause-taken
returns-in-Err-clause-taken g c =
    let e = c.in-Err.ensures in let v = view c.args.pass.now in let w = view c.rlock_until.new.pass in
    turned_away v v w c.args.cell (unchanged_none v) (unchanged_look v w c.args.cell e.step.2) (λ k ne. refl) e.elsewhere e.stands (adds_as (IsPatientTry v c.args.cell) (IsTry v c.args.cell) v w (λ x p. p.0) e.steps)

pub returns-in-Ok-clause-clock : goal.returns-in-Ok-clause-clock
returns-in-Ok-clause-clock g c = let s = c.in-Ok.ensures.step in (length s.0, s.2)

pub returns-in-Err-clause-clock : goal.returns-in-Err-clause-clock
returns-in-Err-clause-clock g c = let s = c.in-Err.ensures.step in (length s.0 + 1, s.3)
