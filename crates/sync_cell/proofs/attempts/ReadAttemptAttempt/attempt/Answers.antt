use Rattle.std.proofs.Common.{refl, sym, ◌∙◌}
use Rattle.std.proofs.lemmas.Result.{MatchResult-weaker}
use Rattle.hall.specs.Passes.{view}
use Rattle.sync_cell.specs.Cells.{maps}
use Rattle.sync_cell.proofs.Entering.{entered_fault, entered_not, entered_once, entered_won, with_fits}
use Rattle.sync_cell.proofs.attempts.ReadAttemptAttempt.attempt.Goals as goal

pub returns-clause-tries : goal.returns-clause-tries
returns-clause-tries c = entered_once maps (view c.args.self.now.pass.now) c.args.self.now.cell (view c.try_lock_shared.new.pass) c.try_lock_shared.result c.try_lock_shared.ensures.step

pub returns-clause-fault : goal.returns-clause-fault
returns-clause-fault c = let e = c.try_lock_shared.ensures in
    entered_fault maps (view c.args.self.now.pass.now) c.args.self.now.cell (view c.try_lock_shared.new.pass) c.try_lock_shared.result (e.pass.1 ∙ sym c.requires.0.1) e.step

pub returns-clause-gives : goal.returns-clause-gives
returns-clause-gives c = let v = view c.args.self.now.pass.now in let w = view c.try_lock_shared.new.pass in let e = c.try_lock_shared.ensures in let cell = c.args.self.now.cell in
    MatchResult-weaker c.try_lock_shared.result (with_fits maps v cell w c.try_lock_shared.result _ e.fits (entered_won maps v cell w c.try_lock_shared.result e.step e.stands e.elsewhere)) (λ guard t. (refl, refl, refl, e.pass, t.1, t.0, e.clear, t.2)) (λ f t. tt)

pub returns-clause-refuses : goal.returns-clause-refuses
returns-clause-refuses c = let v = view c.args.self.now.pass.now in let w = view c.try_lock_shared.new.pass in let e = c.try_lock_shared.ensures in
    MatchResult-weaker c.try_lock_shared.result (entered_not maps v c.args.self.now.cell w c.try_lock_shared.result e.step) (λ guard t. tt) (λ f t. (refl, refl, refl, t))
