use Rattle.std.proofs.Common.{rules, ◌∷◌, subst}
use Rattle.hall.specs.declared.view.Shape.{Shape}
use Rattle.hall.specs.Passes.{view}
use Rattle.shared_mutex.specs.Tries.{AnnouncesAndSweeps}
use Rattle.shared_mutex.specs.TryLaws.{writers_looked}
use Rattle.acquire_many.proofs.waits.announce_at_last.Goals as goal

pub returns-in-Ok-clause-step : goal.returns-in-Ok-clause-step
returns-in-Ok-clause-step g c =
    let so_far = c.loop.invariant.refused in let v = view c.args.pass.now in let u = view c.loop.pass in
    let looked = writers_looked _ v c.args.lock u so_far.0 so_far.1 in
    (so_far.0, (u, so_far.1, looked, subst (λ (s : Shape). AnnouncesAndSweeps g.C.CargoRule s.slots u c.args.lock (view c.announce_and_sweep.new.pass)) looked.shape c.in-Ok.ensures.step.3))

pub loop-preserved : goal.loop-preserved
loop-preserved g c =
    let so_far = c.loop.invariant.refused in record {
      next = search rules;
      goes_on = search rules;
      pass = search rules;
      stands = search rules;
      elsewhere = search rules;
      refused = (c.in-Err.field-0 ∷ so_far.0, (view c.loop.pass, so_far.1, c.in-Err.ensures.step));
    }
