use Rattle.std.proofs.Common.{◌+◌, ◌∙◌, ap}
use Rattle.hall.specs.Passes.{view, cargo_of}
use Rattle.map_cargo.specs.declared.entry.Part.{Part}
use Rattle.map_cargo.specs.StepLaws.{alike_then, one_store_more}
use Rattle.map_cargo.specs.Steps.{logged}
use Rattle.map_cargo.proofs.history.log_row.Goals as goal

pub loop-index-preserved : goal.loop-index-preserved
loop-index-preserved c =
    let v = view c.args.pass.now in let u = view c.loop-index.pass in let x = view c.log.new.pass in let so_far = c.loop-index.invariant in let e = c.log.ensures in
    record {
      pass = e.pass.0;
      alike = alike_then v u x so_far.alike e.pass.1;
      part = e.part ∙ ap (λ (p : Part). logged p (c.loop-index.index + 1)) so_far.part;
      steps = one_store_more v u x (cargo_of c.args.hall.now) c.args.number c.loop-index.index c.args.entry.now so_far.alike.number so_far.alike.shape so_far.steps e.step;
    }
