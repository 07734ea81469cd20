use Rattle.std.proofs.Common.{refl, []}
use Rattle.hall.specs.Passes.{view}
use Rattle.shared_mutex.specs.TryLaws.{looked_none}
use Rattle.sync_cell.proofs.attempts.FinishAttemptAttempt.attempt.Goals as goal

pub returns-in-Ok-clause-gives : goal.returns-in-Ok-clause-gives
returns-in-Ok-clause-gives c = let taken = c.in-Ok.ensures in let v = view c.args.self.now.pass.now in
    (refl, refl, refl, refl, taken.pass, taken.step.0, (taken.stands, taken.elsewhere, ([], (v, refl, looked_none v v c.args.self.now.cell refl, taken.step.1))))

pub returns-in-Err-clause-refuses : goal.returns-in-Err-clause-refuses
returns-in-Err-clause-refuses c = let met = c.in-Err.ensures in let v = view c.args.self.now.pass.now in
    (refl, refl, refl, refl, ([], (v, refl, (met.step.1, met.step.2))))
