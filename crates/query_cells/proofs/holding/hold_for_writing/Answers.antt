use Rattle.std.proofs.Common.{ap, refl, true}
use Rattle.hall.specs.declared.view.View.{View}
use Rattle.shared_mutex.specs.Tries.{IsPatientTry, IsTry}
use Rattle.shared_mutex.specs.TryLaws.{adds_as}
use Rattle.sync_cell.specs.Gains.{AnyStep}
use Rattle.sync_cell.specs.GainLaws.{any_tries, gained_last}
use Rattle.hall.specs.declared.view.StepKind.TheVariants as kinds
use Rattle.hall.specs.Views.{entry_of}
use Rattle.hall.specs.Passes.{view}
use Rattle.map_cargo.specs.Gaining.{gained_by}
use Rattle.query_cells.proofs.Taking.{announced_at_last, gained_later, unchanged_look, unchanged_then}
use Rattle.shared_mutex.specs.TrailLaws.{writes_treads}
use Rattle.query_cells.proofs.holding.hold_for_writing.Goals as goal

pub returns-clause-gained : goal.returns-clause-gained
returns-clause-gained g c =
    let step = c.wlock.ensures.step in let s = step.2 in let last = s.2 in let v = view c.args.pass.now in
    gained_later c.args.cell v last.0 (view c.wlock.new.pass)
    (unchanged_then v s.0 last.0 (announced_at_last _ v c.args.cell step.0 s.0 s.1) (unchanged_look s.0 last.0 c.args.cell last.2)) (gained_by _ _ _ _ _ _ last.3.0)

pub returns-clause-trail : goal.returns-clause-trail
returns-clause-trail g c = let s = c.wlock.ensures.step in writes_treads _ (view c.args.pass.now) (view c.wlock.new.pass) c.args.cell s.0 s.1 s.2

pub returns-clause-tries : goal.returns-clause-tries
returns-clause-tries g c =
    let step = c.wlock.ensures.step in let s = step.2 in let last = s.2 in let v = view c.args.pass.now in let w = view c.wlock.new.pass in
    gained_last AnyStep v last.0 w c.args.cell (entry_of last.0 kinds.Hold c.args.cell 4 true) (any_tries v w c.args.cell (adds_as (IsPatientTry v c.args.cell) (IsTry v c.args.cell) v w (λ e p. p.0) c.wlock.ensures.steps))
    (unchanged_then v s.0 last.0 (announced_at_last _ v c.args.cell step.0 s.0 s.1) (unchanged_look s.0 last.0 c.args.cell last.2)).goes_on.more (ap (λ (x : View _). x.steps) last.3.0.3) refl
