use Rattle.std.proofs.Common.{◌<◌, ◌∙◌, ap, refl, subst, sym, true}
use Rattle.hall.specs.declared.view.StepKind.TheVariants.{ExclusiveShared}
use Rattle.hall.specs.declared.view.Shape.{Shape}
use Rattle.hall.specs.declared.view.View.{View}
use Rattle.hall.specs.Passes.{view, cargo_of}
use Rattle.hall.specs.Treading.{IsAt, IsWeakAt, Treads, treads_as, treads_then}
use Rattle.map_cargo.specs.declared.entry.Part.{Part}
use Rattle.hall.specs.Views.{entry_of}
use Rattle.query_cells.proofs.Placing.{leads_once, leads_then}
use Rattle.query_cells.proofs.Quiet.{quiet_once, quiet_then}
use Rattle.sync_cell.specs.TrailLaws.{lowers_treads}
use Rattle.query_cells.proofs.holding.leave_lowered.Goals as goal

pub returns-clause-back : goal.returns-clause-back
returns-clause-back c =
    let lock = c.args.ptr.guard.lock in let v = view c.args.pass.now in let u = view c.move_from_write_to_read-ptr.new.pass in let lowered = c.move_from_write_to_read-ptr.ensures in
    leads_then (cargo_of c.args.hall.now) v u (view c.leave_reading.new.pass)
    (leads_once (cargo_of c.args.hall.now) v u ExclusiveShared lock 8 true refl (subst (λ (s : Shape). lock < s.locks) (sym c.requires.pass.1) c.requires.cell)
    (ap (λ (z : View Part). z.shape) lowered.step.1) lowered.elsewhere (ap (λ (z : View Part). z.steps) lowered.step.1)) c.leave_reading.ensures.back

pub returns-clause-left : goal.returns-clause-left
returns-clause-left c =
    let is = c.move_from_write_to_read-ptr.ensures.step.1 in let left = c.leave_reading.ensures.left in record {
      part = left.part ∙ ap (λ (z : View Part). z.part) is;
      number = left.number ∙ ap (λ (z : View Part). z.number) is;
      quota = left.quota ∙ ap (λ (z : View Part). z.quota) is;
      span = left.span ∙ ap (λ (z : View Part). z.span) is;
      taken = left.taken ∙ ap (λ (z : View Part). z.taken) is;
    }

pub returns-clause-trail : goal.returns-clause-trail
returns-clause-trail c =
    let lock = c.args.ptr.guard.lock in let v = view c.args.pass.now in let u = view c.move_from_write_to_read-ptr.new.pass in let w = view c.leave_reading.new.pass in let read = c.move_from_write_to_read-ptr.ensures.cell in
    treads_then (IsAt lock) v u w (lowers_treads _ v u lock c.move_from_write_to_read-ptr.ensures.step)
    (treads_as (IsWeakAt lock) (IsAt lock) u w (λ m p. p.0) (subst (λ l. Treads (IsWeakAt l) u w) read.0 c.leave_reading.ensures.trail))

pub returns-clause-elsewhere : goal.returns-clause-elsewhere
returns-clause-elsewhere c = let read = c.move_from_write_to_read-ptr.ensures in λ k ne. c.leave_reading.ensures.elsewhere k (λ at. ne (at ∙ read.cell.0)) ∙ read.elsewhere k ne

pub returns-clause-quiet : goal.returns-clause-quiet
returns-clause-quiet c =
    let v = view c.args.pass.now in let u = view c.move_from_write_to_read-ptr.new.pass in let is = c.move_from_write_to_read-ptr.ensures.step.1 in
    quiet_then v u (view c.leave_reading.new.pass) (quiet_once v u (entry_of v ExclusiveShared c.args.ptr.guard.lock 8 true) (refl, refl) (ap (λ (z : View Part). z.steps) is)) c.leave_reading.ensures.quiet
