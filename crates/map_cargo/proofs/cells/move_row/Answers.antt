use Rattle.std.proofs.Common.{arith, ◌<◌, ◌+◌, ◌*◌, ℕ}
use Rattle.hall.specs.Passes.{cargo_of}
use Rattle.map_cargo.specs.declared.size.MapCargo.{MapCargo}
use Rattle.map_cargo.specs.StepLaws.{alike_then}
use Rattle.map_cargo.proofs.Traces.{within_then, load_inside, store_inside}
use Rattle.map_cargo.proofs.cells.move_row.Goals as goal

pub returns-clause-pass : goal.returns-clause-pass
returns-clause-pass c = (c.set_row.ensures.pass.0, alike_then _ _ _ (alike_then _ _ _ (alike_then _ _ _ c.word-key.ensures.pass.1 c.word-value.ensures.pass.1) c.set_word.ensures.pass.1) c.set_row.ensures.pass.1)

pub returns-clause-inside : goal.returns-clause-inside
returns-clause-inside c =
    let K : MapCargo = cargo_of c.args.hall.now in let cell : ℕ = c.args.cell in let from : ℕ = c.args.from in let low : from < K.rows = c.requires.from in
    (within_then K cell _ _ _
    (within_then K cell _ _ _
    (within_then K cell _ _ _ (c.word-key.ensures.pass.1, load_inside K cell _ _ (3 * from + 2) _ (omega arith) c.word-key.ensures.step) (c.word-value.ensures.pass.1, load_inside K cell _ _ (3 * from + 3) _ (omega arith) c.word-value.ensures.step))
    (c.set_word.ensures.pass.1, store_inside K cell _ _ (3 * from + 1) _ (omega arith) c.set_word.ensures.step))
    (c.set_row.ensures.pass.1, c.set_row.ensures.inside)).1
