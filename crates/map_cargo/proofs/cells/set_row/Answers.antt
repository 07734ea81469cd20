use Rattle.std.proofs.Common.{arith, ◌<◌, ◌+◌, ◌*◌, ℕ}
use Rattle.hall.specs.Passes.{cargo_of}
use Rattle.map_cargo.specs.declared.size.MapCargo.{MapCargo}
use Rattle.map_cargo.specs.StepLaws.{alike_then}
use Rattle.map_cargo.proofs.Traces.{within_then, store_inside}
use Rattle.map_cargo.proofs.cells.set_row.Goals as goal

pub returns-clause-pass : goal.returns-clause-pass
returns-clause-pass c = (c.set_word-3.ensures.pass.0, alike_then _ _ _ (alike_then _ _ _ c.set_word.ensures.pass.1 c.set_word-2.ensures.pass.1) c.set_word-3.ensures.pass.1)

pub returns-clause-inside : goal.returns-clause-inside
returns-clause-inside c =
    let K : MapCargo = cargo_of c.args.hall.now in let cell : ℕ = c.args.cell in let row : ℕ = c.args.row in let low : row < K.rows = c.requires.row in
    (within_then K cell _ _ _
    (within_then K cell _ _ _ (c.set_word.ensures.pass.1, store_inside K cell _ _ (3 * row + 1) _ (omega arith) c.set_word.ensures.step) (c.set_word-2.ensures.pass.1, store_inside K cell _ _ (3 * row + 2) _ (omega arith) c.set_word-2.ensures.step))
    (c.set_word-3.ensures.pass.1, store_inside K cell _ _ (3 * row + 3) _ (omega arith) c.set_word-3.ensures.step)).1
