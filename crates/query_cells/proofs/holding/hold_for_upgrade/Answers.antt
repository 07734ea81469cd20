use Rattle.std.proofs.Common.{ap, refl, true}
use Rattle.hall.specs.declared.view.View.{View}
use Rattle.shared_mutex.specs.Tries.{IsPatientTry, IsTry}
use Rattle.shared_mutex.specs.TryLaws.{adds_as}
use Rattle.sync_cell.specs.Gains.{AnyStep}
use Rattle.sync_cell.specs.GainLaws.{any_tries, gained_last}
use Rattle.hall.specs.declared.view.StepKind.TheVariants as kinds
use Rattle.hall.specs.Passes.{view}
use Rattle.hall.specs.Views.{after_look, entry_of}
use Rattle.map_cargo.specs.Gaining.{gained_by}
use Rattle.query_cells.proofs.Taking.{gained_later, unchanged_look, unchanged_once, unchanged_then}
use Rattle.sync_cell.specs.TrailLaws.{upgrades_treads}
use Rattle.query_cells.proofs.holding.hold_for_upgrade.Goals as goal

pub returns-clause-gained : goal.returns-clause-gained
returns-clause-gained g c =
    let s = c.ulock.ensures.step.1 in let v = view c.args.pass.now in let seen = s.3.0 in let u = after_look s.0 kinds.Load c.args.cell seen in
    gained_later c.args.cell v u (view c.ulock.new.pass) (unchanged_then v s.0 u (unchanged_look v s.0 c.args.cell s.2) (unchanged_once s.0 kinds.Load c.args.cell seen)) (gained_by _ _ _ _ _ _ s.3.2.0)

pub returns-clause-trail : goal.returns-clause-trail
returns-clause-trail g c = let s = c.ulock.ensures.step in upgrades_treads _ (view c.args.pass.now) (view c.ulock.new.pass) c.args.cell s.0 s.1

pub returns-clause-tries : goal.returns-clause-tries
returns-clause-tries g c =
    let s = c.ulock.ensures.step.1 in let v = view c.args.pass.now in let w = view c.ulock.new.pass in let seen = s.3.0 in let u = after_look s.0 kinds.Load c.args.cell seen in
    gained_last AnyStep v u w c.args.cell (entry_of u kinds.UpgradeIn c.args.cell seen true) (any_tries v w c.args.cell (adds_as (IsPatientTry v c.args.cell) (IsTry v c.args.cell) v w (λ e p. p.0) c.ulock.ensures.steps))
    (unchanged_then v s.0 u (unchanged_look v s.0 c.args.cell s.2) (unchanged_once s.0 kinds.Load c.args.cell seen)).goes_on.more (ap (λ (x : View _). x.steps) s.3.2.0.3) refl
