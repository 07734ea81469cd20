use Rattle.std.proofs.Common.{rules, ◌∷◌}
use Rattle.hall.specs.declared.guards.TryFault.TheVariants.{Busy}
use Rattle.hall.specs.Passes.{view}
use Rattle.shared_mutex.specs.TryLaws.{meetings_looked}
use Rattle.acquire_many.proofs.waits.finish_at_last.Goals as goal

pub returns-in-Ok-clause-step : goal.returns-in-Ok-clause-step
returns-in-Ok-clause-step g c = let so_far = c.loop.invariant.refused in let u = view c.loop.pass in (so_far.0, (u, so_far.1, meetings_looked _ (view c.args.pass.now) c.args.lock u so_far.0 so_far.1, c.in-Ok.ensures.step.1))

pub loop-preserved : goal.loop-preserved
loop-preserved g c =
    let so_far = c.loop.invariant.refused in let word = c.in-Err.field-0-1 in record {
      next = search rules;
      goes_on = search rules;
      pass = search rules;
      stands = search rules;
      elsewhere = search rules;
      refused = (Busy word ∷ so_far.0, (view c.loop.pass, so_far.1, (c.in-Err.ensures.step.1, c.in-Err.ensures.step.2)));
    }
