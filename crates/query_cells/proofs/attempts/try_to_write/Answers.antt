use Rattle.std.proofs.Common.{◌≡◌, ◌∙◌, ap, false, refl, rules, true}
use Rattle.hall.specs.declared.view.StepKind.TheVariants as kinds
use Rattle.hall.specs.declared.view.View.{View}
use Rattle.hall.specs.Views.{entry_of}
use Rattle.hall.specs.Passes.{view}
use Rattle.shared_mutex.specs.Refused.{exclusive_refused}
use Rattle.map_cargo.specs.Gaining.{gained_by}
use Rattle.query_cells.proofs.Taking.{announced, busy_writes, gained_later, swept, turned_away, unchanged_then, writer_unchanged}
use Rattle.hall.specs.Treading.{IsAt, treads_then}
use Rattle.shared_mutex.specs.TrailLaws.{takes_exclusive_treads, refuses_exclusive_treads}
use Rattle.sync_cell.specs.Gains.{refuses_writer}
use Rattle.sync_cell.specs.GainLaws.{gained_last, plain_tries, tries_then, writer_took}
use Rattle.query_cells.proofs.Tries.{plain_then, raced_write}
use Rattle.query_cells.proofs.attempts.try_to_write.Goals as goal

pub returns-in-Ok-clause-taken : goal.returns-in-Ok-clause-taken
returns-in-Ok-clause-taken g c =
    let e = c.in-Ok.ensures in let s = e.step in let u = s.1.0 in let z = s.1.2 in let v = view c.loop.pass in (
      s.0,
      record {
        stands = e.stands;
        elsewhere = λ k ne. e.elsewhere k ne ∙ c.loop.invariant.elsewhere k ne;
        gained = gained_later c.args.cell (view c.args.pass.now) z (view c.try_wlock.new.pass) (unchanged_then (view c.args.pass.now) u z (unchanged_then (view c.args.pass.now) v u c.loop.invariant.quiet (announced _ v u c.args.cell s.1.1)) (swept _ c.args.cell v.shape.slots s.1.3 u z s.1.4)) (gained_by _ _ _ _ _ _ s.1.5.0);
      },
    )

pub returns-in-Err-Busy-clause-busy : goal.returns-in-Err-Busy-clause-busy
returns-in-Err-Busy-clause-busy g c =
    let e = c.in-Err-Busy in let u = view c.loop.pass in let w = view c.try_wlock.new.pass in
    busy_writes (view c.args.pass.now) u w c.args.cell e.field-0 _ e.field-0-is c.loop.invariant.quiet (exclusive_refused _ u c.args.cell w e.field-0 c.loop.invariant.away e.ensures.step)

pub returns-in-Err-Busy-clause-taken : goal.returns-in-Err-Busy-clause-taken
returns-in-Err-Busy-clause-taken g c =
    let e = c.in-Err-Busy in let so_far = c.loop.invariant in let v = view c.args.pass.now in let u = view c.loop.pass in let w = view c.try_wlock.new.pass in
    turned_away v u w c.args.cell so_far.quiet (writer_unchanged _ u c.args.cell w e.field-0 e.ensures.step) so_far.elsewhere e.ensures.elsewhere e.ensures.stands
    (plain_then v u w c.args.cell so_far.quiet.goes_on.number (plain_tries (λ e. refuses_writer e ≡ false) v u c.args.cell so_far.tries) e.ensures.tries)

pub loop-preserved : goal.loop-preserved
loop-preserved g c =
    let e = c.in-Err-Raced in let u = view c.loop.pass in record {
      next = search rules;
      goes_on = search rules;
      pass = search rules;
      away = search rules;
      quiet = unchanged_then (view c.args.pass.now) u (view c.try_wlock.new.pass) c.loop.invariant.quiet (writer_unchanged _ u c.args.cell (view c.try_wlock.new.pass) e.field-0 e.ensures.step);
      elsewhere = search rules;
      trail = treads_then (IsAt c.args.cell) (view c.args.pass.now) u (view c.try_wlock.new.pass) c.loop.invariant.trail (refuses_exclusive_treads _ u (view c.try_wlock.new.pass) c.args.cell e.field-0 e.ensures.step);
      tries = tries_then (λ e. refuses_writer e ≡ false) (view c.args.pass.now) u (view c.try_wlock.new.pass) c.args.cell c.loop.invariant.quiet.goes_on.number c.loop.invariant.tries (raced_write _ u (view c.try_wlock.new.pass) c.args.cell c.loop.invariant.away e.field-0 _ _ e.field-0-is e.ensures.step);
    }

pub returns-in-Ok-clause-trail : goal.returns-in-Ok-clause-trail
returns-in-Ok-clause-trail g c =
    let u = view c.loop.pass in let w = view c.try_wlock.new.pass in
    treads_then (IsAt c.args.cell) (view c.args.pass.now) u w c.loop.invariant.trail (takes_exclusive_treads _ u w c.args.cell c.in-Ok.ensures.step.1)

pub returns-in-Err-Busy-clause-trail : goal.returns-in-Err-Busy-clause-trail
returns-in-Err-Busy-clause-trail g c =
    let e = c.in-Err-Busy in let u = view c.loop.pass in let w = view c.try_wlock.new.pass in
    treads_then (IsAt c.args.cell) (view c.args.pass.now) u w c.loop.invariant.trail (refuses_exclusive_treads _ u w c.args.cell e.field-0 e.ensures.step)

pub returns-in-Ok-clause-tries : goal.returns-in-Ok-clause-tries
returns-in-Ok-clause-tries g c =
    let so_far = c.loop.invariant in let s = c.in-Ok.ensures.step in let a = s.1.0 in let z = s.1.2 in let v = view c.args.pass.now in let u = view c.loop.pass in let w = view c.try_wlock.new.pass in
    gained_last (λ e. refuses_writer e ≡ false) v z w c.args.cell (entry_of z kinds.Hold c.args.cell 4 true)
    (tries_then (λ e. refuses_writer e ≡ false) v u w c.args.cell so_far.quiet.goes_on.number so_far.tries (writer_took _ u w c.args.cell so_far.away s.1))
    (unchanged_then v a z (unchanged_then v u a so_far.quiet (announced _ u a c.args.cell s.1.1)) (swept _ c.args.cell u.shape.slots s.1.3 a z s.1.4)).goes_on.more (ap (λ (x : View _). x.steps) s.1.5.0.3) refl
