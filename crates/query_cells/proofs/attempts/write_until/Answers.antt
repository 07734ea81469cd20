use Rattle.std.proofs.Common.{◌+◌, ⊎_elim, length, refl}
use Rattle.hall.specs.Passes.{view}
use Rattle.sync_cell.specs.Refused.{writer_late}
use Rattle.map_cargo.specs.Gaining.{gained_by}
use Rattle.query_cells.proofs.Taking.{announced_at_last, gained_later, late_unchanged, late_writes, turned_away, unchanged_look, unchanged_none, unchanged_then}
use Rattle.shared_mutex.specs.TrailLaws.{writes_treads}
use Rattle.sync_cell.specs.TrailLaws.{gave_up_treads}
use Rattle.query_cells.proofs.attempts.write_until.Goals as goal

pub returns-in-Ok-clause-taken : goal.returns-in-Ok-clause-taken
returns-in-Ok-clause-taken g c =
    let e = c.in-Ok.ensures in let s = e.step.2 in let last = s.2 in let v = view c.args.pass.now in (
      e.cell,
      record {
        stands = e.stands;
        elsewhere = e.elsewhere;
        gained = gained_later c.args.cell v last.0 (view c.wlock_until.new.pass)
            (unchanged_then v s.0 last.0 (announced_at_last _ v c.args.cell e.step.0 s.0 s.1) (unchanged_look s.0 last.0 c.args.cell last.2)) (gained_by _ _ _ _ _ _ last.3.0);
      },
    )

pub returns-in-Err-clause-reads : goal.returns-in-Err-clause-reads
returns-in-Err-clause-reads g c =
    let v = view c.args.pass.now in let w = view c.wlock_until.new.pass in let late = c.in-Err.late in
    late_writes v w c.args.cell late.fault (writer_late _ _ _ c.args.deadline c.args.cell v w _ _ late.fault late.now c.requires.away c.in-Err.ensures.step)

pub returns-in-Err-clause-taken : goal.returns-in-Err-clause-taken
returns-in-Err-clause-taken g c =
    let v = view c.args.pass.now in let w = view c.wlock_until.new.pass in let late = c.in-Err.late in let e = c.in-Err.ensures in
    turned_away v v w c.args.cell (unchanged_none v) (late_unchanged _ _ _ c.args.deadline c.args.cell v w _ _ late.fault late.now e.step) (λ k ne. refl) e.elsewhere e.stands e.steps

pub returns-in-Ok-clause-trail : goal.returns-in-Ok-clause-trail
returns-in-Ok-clause-trail g c = let s = c.in-Ok.ensures.step in writes_treads _ (view c.args.pass.now) (view c.wlock_until.new.pass) c.args.cell s.0 s.1 s.2

pub returns-in-Err-clause-trail : goal.returns-in-Err-clause-trail
returns-in-Err-clause-trail g c = gave_up_treads _ (view c.args.pass.now) (view c.wlock_until.new.pass) c.args.cell _ _ c.args.deadline _ _ c.in-Err.late.fault c.in-Err.late.now c.in-Err.ensures.step

pub returns-in-Ok-clause-clock : goal.returns-in-Ok-clause-clock
returns-in-Ok-clause-clock g c = let s = c.in-Ok.ensures.step in (length s.0 + length s.1, s.3)

pub returns-in-Err-clause-clock : goal.returns-in-Err-clause-clock
returns-in-Err-clause-clock g c = ⊎_elim (λ t. (length t.0 + 1, t.3)) (λ t. (length t.0 + (length t.1 + 1), t.3)) c.in-Err.ensures.step
