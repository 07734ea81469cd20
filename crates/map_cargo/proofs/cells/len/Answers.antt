use Rattle.std.proofs.Common.{arith}
use Rattle.hall.specs.Passes.{cargo_of}
use Rattle.map_cargo.proofs.Traces.{load_inside}
use Rattle.map_cargo.proofs.cells.len.Goals as goal

pub returns-clause-inside : goal.returns-clause-inside
returns-clause-inside c = load_inside (cargo_of c.args.hall.now) c.args.cell _ _ 0 _ (omega arith) c.word.ensures.step
