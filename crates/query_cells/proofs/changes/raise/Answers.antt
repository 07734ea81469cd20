use Rattle.hall.specs.Passes.{view, cargo_of}
use Rattle.query_cells.proofs.Quiet.{quiet_inside, quiet_then}
use Rattle.query_cells.proofs.changes.raise.Goals as goal

pub returns-in_default-clause-quiet : goal.returns-in_default-clause-quiet
returns-in_default-clause-quiet c = quiet_inside (cargo_of c.args.hall.now) c.args.cell (view c.args.pass.now) (view c.get-had.new.pass) c.get-had.ensures.inside

pub returns-in-Ok-clause-quiet : goal.returns-in-Ok-clause-quiet
returns-in-Ok-clause-quiet c =
    let v = view c.args.pass.now in let u = view c.get-had.new.pass in let w = view c.put.new.pass in let m = cargo_of c.args.hall.now in
    quiet_then v u w (quiet_inside m c.args.cell v u c.get-had.ensures.inside) (quiet_inside m c.args.cell u w c.in-Ok.ensures.inside)

pub returns-in-Err-clause-quiet : goal.returns-in-Err-clause-quiet
returns-in-Err-clause-quiet c =
    let v = view c.args.pass.now in let u = view c.get-had.new.pass in let w = view c.put.new.pass in let m = cargo_of c.args.hall.now in
    quiet_then v u w (quiet_inside m c.args.cell v u c.get-had.ensures.inside) (quiet_inside m c.args.cell u w c.in-Err.ensures.inside)
