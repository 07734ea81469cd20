use Rattle.std.proofs.Common.{◌≡◌, ◌∙◌, false, rules}
use Rattle.hall.specs.Passes.{view}
use Rattle.shared_mutex.specs.Refused.{reader_refused}
use Rattle.map_cargo.specs.Sharing.{gained_shared}
use Rattle.query_cells.proofs.Taking.{busy_reads, gained_later, reader_unchanged, turned_away, unchanged_then}
use Rattle.hall.specs.Treading.{IsWeakAt, treads_then}
use Rattle.shared_mutex.specs.TrailLaws.{takes_shared_treads, refuses_shared_treads}
use Rattle.sync_cell.specs.Cells.{maps}
use Rattle.sync_cell.specs.Gains.{refuses_reader}
use Rattle.sync_cell.specs.GainLaws.{plain_tries, reader_gained, reader_took}
use Rattle.query_cells.proofs.Tries.{plain_then, raced_read, reads_more}
use Rattle.query_cells.proofs.attempts.try_to_read.Goals as goal

pub returns-in-Ok-clause-taken : goal.returns-in-Ok-clause-taken
returns-in-Ok-clause-taken g c =
    let e = c.in-Ok.ensures in let s = e.step in let v = view c.loop.pass in (
      s.0,
      record {
        stands = e.stands;
        elsewhere = λ k ne. e.elsewhere k ne ∙ c.loop.invariant.elsewhere k ne;
        gained = gained_later c.args.cell (view c.args.pass.now) v (view c.try_rlock.new.pass) c.loop.invariant.quiet (gained_shared maps c.args.cell v (view c.try_rlock.new.pass) (λ ws p q learns. learns) c.loop.invariant.away c.in-Ok.ptr.guard.form s.1);
      },
    )

pub returns-in-Err-Busy-clause-busy : goal.returns-in-Err-Busy-clause-busy
returns-in-Err-Busy-clause-busy g c =
    let e = c.in-Err-Busy in let u = view c.loop.pass in let w = view c.try_rlock.new.pass in
    busy_reads (view c.args.pass.now) u w c.args.cell e.field-0 _ e.field-0-is c.loop.invariant.quiet (reader_refused _ u c.args.cell w e.field-0 c.loop.invariant.away e.ensures.step)

pub returns-in-Err-Busy-clause-taken : goal.returns-in-Err-Busy-clause-taken
returns-in-Err-Busy-clause-taken g c =
    let e = c.in-Err-Busy in let so_far = c.loop.invariant in let v = view c.args.pass.now in let u = view c.loop.pass in let w = view c.try_rlock.new.pass in
    turned_away v u w c.args.cell so_far.quiet (reader_unchanged _ u c.args.cell w e.field-0 e.ensures.step) so_far.elsewhere e.ensures.elsewhere e.ensures.stands
    (plain_then v u w c.args.cell so_far.quiet.goes_on.number (plain_tries (λ e. refuses_reader v.shape.policy e ≡ false) v u c.args.cell so_far.tries) e.ensures.tries)

pub loop-preserved : goal.loop-preserved
loop-preserved g c =
    let e = c.in-Err-Raced in let u = view c.loop.pass in record {
      next = search rules;
      goes_on = search rules;
      pass = search rules;
      away = search rules;
      clear = e.ensures.clear;
      quiet = unchanged_then (view c.args.pass.now) u (view c.try_rlock.new.pass) c.loop.invariant.quiet (reader_unchanged _ u c.args.cell (view c.try_rlock.new.pass) e.field-0 e.ensures.step);
      elsewhere = search rules;
      trail = treads_then (IsWeakAt c.args.cell) (view c.args.pass.now) u (view c.try_rlock.new.pass) c.loop.invariant.trail (refuses_shared_treads _ u (view c.try_rlock.new.pass) c.args.cell e.field-0 c.loop.invariant.away e.ensures.step);
      tries = reads_more (view c.args.pass.now) u (view c.try_rlock.new.pass) c.args.cell c.loop.invariant.quiet.goes_on.number c.loop.invariant.quiet.goes_on.shape c.loop.invariant.tries (raced_read _ u (view c.try_rlock.new.pass) c.args.cell c.loop.invariant.away e.field-0 _ _ e.field-0-is e.ensures.step);
    }

pub returns-in-Ok-clause-trail : goal.returns-in-Ok-clause-trail
returns-in-Ok-clause-trail g c =
    let u = view c.loop.pass in let w = view c.try_rlock.new.pass in
    treads_then (IsWeakAt c.args.cell) (view c.args.pass.now) u w c.loop.invariant.trail (takes_shared_treads maps u w c.args.cell c.loop.invariant.away (c.in-Ok.ptr.guard.form, c.in-Ok.ensures.step.1))

pub returns-in-Err-Busy-clause-trail : goal.returns-in-Err-Busy-clause-trail
returns-in-Err-Busy-clause-trail g c =
    let e = c.in-Err-Busy in let u = view c.loop.pass in let w = view c.try_rlock.new.pass in
    treads_then (IsWeakAt c.args.cell) (view c.args.pass.now) u w c.loop.invariant.trail (refuses_shared_treads _ u w c.args.cell e.field-0 c.loop.invariant.away e.ensures.step)

pub returns-in-Ok-clause-tries : goal.returns-in-Ok-clause-tries
returns-in-Ok-clause-tries g c =
    let so_far = c.loop.invariant in let s = c.in-Ok.ensures.step in let form = c.in-Ok.ptr.guard.form in let v = view c.args.pass.now in let u = view c.loop.pass in let w = view c.try_rlock.new.pass in
    reader_gained maps u c.args.cell so_far.away (λ e. refuses_reader v.shape.policy e ≡ false) v so_far.quiet.goes_on.more form w s.1
    (reads_more v u w c.args.cell so_far.quiet.goes_on.number so_far.quiet.goes_on.shape so_far.tries (reader_took maps u c.args.cell so_far.away form w s.1))
