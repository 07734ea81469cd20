use Rattle.std.proofs.Common.{◌≡◌, ℕ, ◌+◌, true, refl, sym, ap, arith}
use Rattle.hall.specs.declared.view.Shape.{Shape}
use Rattle.hall.specs.Passes.{view, shape_of}
use Rattle.upgrade_mode.specs.Holding.{BeginsUpgrade}
use Rattle.upgrade_mode.specs.Tries.{MissesBeginning}
use Rattle.sync_cell.specs.Cells.{maps}
use Rattle.sync_cell.proofs.Counted.{loads, swept_loads}
use Rattle.sync_cell.proofs.Swept.{swept_won}
use Rattle.sync_cell.proofs.attempts.BeginAttemptAttempt.attempt.Goals as goal

pub returns-in-Ok-clause-gives : goal.returns-in-Ok-clause-gives
returns-in-Ok-clause-gives c =
    let starts = c.in-Ok.ensures.step in let v = view c.args.self.now.pass.now in let a = view c.begin_upgrade.new.pass in let w = view c.scan.new.pass in let cell : ℕ = c.args.self.now.cell in
    (refl, refl, refl, c.scan.ensures.pass, swept_won maps v a w cell (shape_of c.args.self.now.hall.now).slots c.scan.result true c.in-Ok.announced _ starts.0 starts.2 (ap (λ (z : Shape). z.slots) (sym c.requires.0.1)) c.scan.ensures.announced c.scan.ensures.sweep c.scan.ensures.fits.1 (λ v w fault. MissesBeginning maps v cell w fault) (λ v a. BeginsUpgrade maps v cell a) starts.3 c.in-Ok.ensures.elsewhere c.scan.ensures.elsewhere)

pub returns-in-Ok-clause-tries : goal.returns-in-Ok-clause-tries
returns-in-Ok-clause-tries c =
    let starts = c.in-Ok.ensures.step in let v = view c.args.self.now.pass.now in let a = view c.begin_upgrade.new.pass in let w = view c.scan.new.pass in
    let e : loads a ≡ 0 + (1 + loads v) = ap loads starts.3.2.0 in
    omega (arith, e, swept_loads maps c.in-Ok.announced.lock (shape_of c.args.self.now.hall.now).slots c.scan.result a w c.scan.ensures.sweep)
