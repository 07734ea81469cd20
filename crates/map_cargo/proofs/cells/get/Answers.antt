use Rattle.std.proofs.Common.{arith, ◌<◌, ◌+◌, ◌*◌, ℕ, List, sym, ap, ◌∙◌, Some}
use Rattle.hall.specs.Passes.{view, cargo_of}
use Rattle.map_cargo.specs.declared.size.MapCargo.{MapCargo}
use Rattle.map_cargo.specs.declared.entry.Part.{Part}
use Rattle.map_cargo.specs.History.{words_of}
use Rattle.map_cargo.specs.Rows.{value_in}
use Rattle.map_cargo.proofs.Stores.{table_of}
use Rattle.map_cargo.proofs.Tables.{absent, found, nowhere}
use Rattle.map_cargo.proofs.Traces.{with_load, inside_then, load_inside}
use Rattle.map_cargo.proofs.cells.get.Goals as goal

pub returns-in-Here-clause-got : goal.returns-in-Here-clause-got
returns-in-Here-clause-got c m h =
    let n : ℕ = (cargo_of c.args.hall.now).rows in let W : List ℕ = words_of (view c.args.pass.now).part c.args.cell in let row : ℕ = c.in-Here.row in
    ap Some (c.word.ensures.word ∙ ap (λ (p : Part). value_in (words_of p c.args.cell) row) c.find.ensures.part)
    ∙ sym (found n W m c.args.key row (table_of n W m c.find.ensures.length h).holds c.in-Here.ensures.ends.0 c.in-Here.ensures.ends.1)

pub returns-in-Here-clause-loads : goal.returns-in-Here-clause-loads
returns-in-Here-clause-loads c = with_load (cargo_of c.args.hall.now) (view c.args.pass.now) c.args.cell c.args.key c.in-Here.row (view c.find.new.pass) (view c.word.new.pass) c.word.result c.find.ensures.pass.1 c.in-Here.ensures.loads c.word.ensures.step

pub returns-in-Free-clause-got : goal.returns-in-Free-clause-got
returns-in-Free-clause-got c m h =
    let n : ℕ = (cargo_of c.args.hall.now).rows in let W : List ℕ = words_of (view c.args.pass.now).part c.args.cell in
    sym (absent n W m c.args.key c.in-Free.field-0 (table_of n W m c.find.ensures.length h) c.in-Free.ensures.ends.1 c.in-Free.ensures.ends.0)

pub returns-in-Nowhere-clause-got : goal.returns-in-Nowhere-clause-got
returns-in-Nowhere-clause-got c m h =
    let n : ℕ = (cargo_of c.args.hall.now).rows in let W : List ℕ = words_of (view c.args.pass.now).part c.args.cell in
    sym (nowhere n W m c.args.key (table_of n W m c.find.ensures.length h).holds c.in-Nowhere.ensures.ends).0

pub returns-in-Here-clause-inside : goal.returns-in-Here-clause-inside
returns-in-Here-clause-inside c =
    let K : MapCargo = cargo_of c.args.hall.now in let row : ℕ = c.in-Here.row in let low : row < K.rows = c.in-Here.ensures.ends.0.below in
    inside_then K c.args.cell _ _ _ c.find.ensures.pass.1 c.find.ensures.inside (load_inside K c.args.cell _ _ (3 * row + 3) _ (omega arith) c.word.ensures.step)
