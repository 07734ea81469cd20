use Rattle.std.proofs.Common.{sym, subst, ◌∙◌}
use Rattle.hall.specs.Passes.{view, cargo_of}
use Rattle.query_rules.specs.Maps.{PlainMap}
use Rattle.map_cargo.specs.declared.entry.Part.{Part}
use Rattle.map_cargo.specs.Cells.{Means}
use Rattle.map_cargo.specs.History.{words_of, plain_of}
use Rattle.query_cells.proofs.Counting.{counted_old, counted_new}
use Rattle.query_cells.proofs.Quiet.{quiet_inside, quiet_then}
use Rattle.query_cells.proofs.changes.store_counted.Goals as goal

pub returns-in-Ok-Some-clause-says : goal.returns-in-Ok-Some-clause-says
returns-in-Ok-Some-clause-says c =
    let m : PlainMap = plain_of (view c.args.pass.now).part c.args.cell in let t = c.in-Ok-Some.ensures.put m c.requires.settled in
    counted_old m c.args.key c.args.value c.in-Ok-Some.old c.len.result _ (sym c.in-Ok-Some.field-0-is ∙ t.0) (c.len.ensures.counted _ t.2)

pub returns-in-Ok-None-clause-says : goal.returns-in-Ok-None-clause-says
returns-in-Ok-None-clause-says c =
    let m : PlainMap = plain_of (view c.args.pass.now).part c.args.cell in let t = c.in-Ok-None.ensures.put m c.requires.settled in
    counted_new m c.args.key c.args.value (cargo_of c.args.hall.now).rows c.len-in-Ok-None.result (sym c.in-Ok-None.field-0-is ∙ t.0) (t.1 c.in-Ok-None.field-0-is) (c.len-in-Ok-None.ensures.counted _ t.2)

pub returns-in-Err-clause-leaves : goal.returns-in-Err-clause-leaves
returns-in-Err-clause-leaves c =
    let m : PlainMap = plain_of (view c.args.pass.now).part c.args.cell in let t = c.in-Err.ensures.put m c.requires.settled in
    subst (λ (p : Part). Means (words_of p c.args.cell) m) (sym t.3) c.requires.settled

pub returns-in-Ok-Some-clause-quiet : goal.returns-in-Ok-Some-clause-quiet
returns-in-Ok-Some-clause-quiet c =
    let v = view c.args.pass.now in let u = view c.put.new.pass in let w = view c.len.new.pass in let m = cargo_of c.args.hall.now in
    quiet_then v u w (quiet_inside m c.args.cell v u c.in-Ok-Some.ensures.inside) (quiet_inside m c.args.cell u w c.len.ensures.inside)

pub returns-in-Ok-None-clause-quiet : goal.returns-in-Ok-None-clause-quiet
returns-in-Ok-None-clause-quiet c =
    let v = view c.args.pass.now in let u = view c.put.new.pass in let w = view c.len-in-Ok-None.new.pass in let m = cargo_of c.args.hall.now in
    quiet_then v u w (quiet_inside m c.args.cell v u c.in-Ok-None.ensures.inside) (quiet_inside m c.args.cell u w c.len-in-Ok-None.ensures.inside)
