use Rattle.std.proofs.Common.{◌≡◌, ◌+◌, ◌∷◌, List, length, refl, ap, arith, rules}
use Rattle.hall.specs.declared.guards.TryFault.{TryFault}
use Rattle.hall.specs.Passes.{view}
use Rattle.hall.specs.Views.{mode_of, pending}
use Rattle.shared_mutex.specs.TryLaws.{still_elsewhere}
use Rattle.sync_cell.specs.Cells.{maps}
use Rattle.shared_mutex.specs.Tries.{StaysAsItWas}
use Rattle.upgrade_mode.specs.Tries.{EntersUpgradeAtLast, UpgradersRefused, upgraders_looked}
use Rattle.sync_cell.specs.Waits.{AskedInTime, AskedTooLate}
use Rattle.sync_cell.proofs.Acquired.{patient_looks, patient_upgrader}
use Rattle.sync_cell.proofs.Counted.{in_time, loads, too_late, upgraded_counted, upgraders_counted}
use Rattle.hall.specs.SlotLaws.{none_pending_at, none_pending_same}
use Rattle.sync_cell.proofs.timed.ulock_until.Goals as goal

pub returns-in-Ok-clause-step : goal.returns-in-Ok-clause-step
returns-in-Ok-clause-step g c = let e = c.in-Ok.ensures in let v = view c.args.pass.now in let w = view c.wait_until.new.attempt.pass.now in let entered = e.gives.5.2 in
    let step : (faults : List TryFault) × EntersUpgradeAtLast maps v c.args.cell faults w × AskedInTime g.T.Clock.last g.T.Clock.answers c.args.deadline (length faults) c.args.clock.now c.wait_until.new.clock =
    (entered.0, entered.1, in_time g.T.Clock.last g.T.Clock.answers c.args.deadline (length entered.0) (loads v) (loads w) c.args.clock.now c.wait_until.new.clock e.in_time e.at_once e.early (upgraded_counted maps c.args.cell v w entered.0 entered.1)) in
    search rules

pub returns-in-Ok-clause-steps : goal.returns-in-Ok-clause-steps
returns-in-Ok-clause-steps g c = let entered = c.in-Ok.ensures.gives.5.2 in
    let steps = patient_upgrader maps (view c.args.pass.now) c.args.cell c.requires.away entered.0 (view c.wait_until.new.attempt.pass.now) entered.1 in search rules

pub returns-in-Err-clause-elsewhere : goal.returns-in-Err-clause-elsewhere
returns-in-Err-clause-elsewhere g c = let r = c.in-Err.ensures.refuses.3 in let v = view c.args.pass.now in let w = view c.wait_until.new.attempt.pass.now in
    let same = still_elsewhere v w w c.args.cell (upgraders_looked maps v c.args.cell w (c.in-Err.late.fault ∷ r.0) r.1) (λ k ne. refl) in search rules

pub returns-in-Err-clause-step : goal.returns-in-Err-clause-step
returns-in-Err-clause-step g c = let e = c.in-Err.ensures in let r = e.refuses.3 in let late = c.in-Err.late in let v = view c.args.pass.now in let w = view c.wait_until.new.attempt.pass.now in
    let fs : List TryFault = late.fault ∷ r.0 in
    let counted : loads w ≡ loads v + (length r.0 + 1) = omega (arith, upgraders_counted maps c.args.cell v w fs r.1) in
    let step : (faults : List TryFault) × UpgradersRefused maps c.args.cell v (late.fault ∷ faults) w × StaysAsItWas v c.args.cell w × AskedTooLate g.T.Clock.last g.T.Clock.answers c.args.deadline (length faults + 1) c.args.clock.now c.wait_until.new.clock late.now =
    (r.0, r.1, upgraders_looked maps v c.args.cell w fs r.1, too_late g.T.Clock.last g.T.Clock.answers c.args.deadline (length r.0 + 1) (loads v) (loads w) c.args.clock.now c.wait_until.new.clock late.now e.too_late e.late e.now counted) in
    search rules

pub returns-in-Err-clause-steps : goal.returns-in-Err-clause-steps
returns-in-Err-clause-steps g c = let r = c.in-Err.ensures.refuses.3 in let v = view c.args.pass.now in let w = view c.wait_until.new.attempt.pass.now in
    let steps = patient_looks v w c.args.cell (ap mode_of c.requires.away) (upgraders_looked maps v c.args.cell w (c.in-Err.late.fault ∷ r.0) r.1) in search rules

pub returns-in-Ok-clause-clear : goal.returns-in-Ok-clause-clear
returns-in-Ok-clause-clear g c = let taken = c.in-Ok.ensures.gives.5 in
    let clear = none_pending_at (view c.args.pass.now) (view c.wait_until.new.attempt.pass.now) c.args.cell taken.1 (ap pending taken.0) in search rules

pub returns-in-Err-clause-clear : goal.returns-in-Err-clause-clear
returns-in-Err-clause-clear g c = let r = c.in-Err.ensures.refuses.3 in let v = view c.args.pass.now in let w = view c.wait_until.new.attempt.pass.now in
    let clear = none_pending_same v w (upgraders_looked maps v c.args.cell w (c.in-Err.late.fault ∷ r.0) r.1).standings in search rules
