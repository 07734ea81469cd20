use Rattle.std.proofs.Common.{refl}
use Rattle.std.proofs.lemmas.Result.{MatchResult-weaker}
use Rattle.hall.specs.declared.view.Standing.TheVariants.{Upgrade}
use Rattle.hall.specs.Passes.{view}
use Rattle.upgrade_mode.specs.Holding.{EntersUpgrade, RefusesUpgrade}
use Rattle.sync_cell.specs.Cells.{maps}
use Rattle.sync_cell.proofs.Tried.{tried_refused, tried_won, upgraded_fault, upgraded_once}
use Rattle.sync_cell.proofs.attempts.UpgradeAttemptAttempt.attempt.Goals as goal

pub returns-clause-tries : goal.returns-clause-tries
returns-clause-tries c = let v = view c.args.self.now.pass.now in let w = view c.try_lock_upgrade.new.pass in
    upgraded_once maps v c.args.self.now.cell w _ c.try_lock_upgrade.result c.try_lock_upgrade.ensures.step

pub returns-clause-fault : goal.returns-clause-fault
returns-clause-fault c = let v = view c.args.self.now.pass.now in let w = view c.try_lock_upgrade.new.pass in
    upgraded_fault maps v c.args.self.now.cell w _ c.try_lock_upgrade.result c.try_lock_upgrade.ensures.step

pub returns-clause-gives : goal.returns-clause-gives
returns-clause-gives c = let v = view c.args.self.now.pass.now in let w = view c.try_lock_upgrade.new.pass in let e = c.try_lock_upgrade.ensures in let cell = c.args.self.now.cell in
    MatchResult-weaker c.try_lock_upgrade.result (tried_won (λ v w f. RefusesUpgrade maps v cell w f) (λ v w. EntersUpgrade maps v cell w) v w _ Upgrade cell c.try_lock_upgrade.result e.step e.stands e.elsewhere) (λ guard t. (refl, refl, refl, e.pass, t.0, t.1)) (λ f t. tt)

pub returns-clause-refuses : goal.returns-clause-refuses
returns-clause-refuses c = let v = view c.args.self.now.pass.now in let w = view c.try_lock_upgrade.new.pass in let e = c.try_lock_upgrade.ensures in let cell = c.args.self.now.cell in
    MatchResult-weaker c.try_lock_upgrade.result (tried_refused (λ v w f. RefusesUpgrade maps v cell w f) (λ v w. EntersUpgrade maps v cell w) v w _ c.try_lock_upgrade.result e.step) (λ guard t. tt) (λ f t. (refl, refl, refl, t))
