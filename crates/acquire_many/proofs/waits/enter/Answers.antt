use Rattle.std.proofs.Common.{rules, ◌∷◌}
use Rattle.hall.specs.Passes.{view}
use Rattle.shared_mutex.specs.TryLaws.{readers_looked}
use Rattle.acquire_many.proofs.Patience.{patient_reader}
use Rattle.acquire_many.proofs.waits.enter.Goals as goal

pub returns-in-Ok-clause-step : goal.returns-in-Ok-clause-step
returns-in-Ok-clause-step g c = let so_far = c.loop.invariant.refused in let u = view c.loop.pass in (so_far.0, (u, so_far.1, readers_looked _ (view c.args.pass.now) c.args.lock u so_far.0 so_far.1, c.in-Ok.ensures.step.1))

pub returns-in-Ok-clause-patient : goal.returns-in-Ok-clause-patient
returns-in-Ok-clause-patient g c =
    let so_far = c.loop.invariant.refused in let v = view c.args.pass.now in let u = view c.loop.pass in
    patient_reader g.C.CargoRule v (view c.try_lock_shared.new.pass) c.args.lock c.requires.away so_far.0 c.in-Ok.guard.form (u, so_far.1, readers_looked _ v c.args.lock u so_far.0 so_far.1, c.in-Ok.ensures.step.1)

pub loop-preserved : goal.loop-preserved
loop-preserved g c =
    let so_far = c.loop.invariant.refused in record {
      next = search rules;
      goes_on = search rules;
      pass = search rules;
      clear = search rules;
      stands = search rules;
      elsewhere = search rules;
      refused = (c.in-Err.field-0 ∷ so_far.0, (view c.loop.pass, so_far.1, c.in-Err.ensures.step));
    }
