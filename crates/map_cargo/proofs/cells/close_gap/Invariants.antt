use Rattle.hall.specs.Passes.{view, IsPassOf, cargo_of}
use Rattle.query_rules.specs.Maps.{PlainMap, without}
use Rattle.map_cargo.specs.History.{words_of}
use Rattle.map_cargo.specs.Probes.{StaysInCell}
use Rattle.map_cargo.specs.Rows.{key_at, Table, Closing, spread}
use Rattle.map_cargo.specs.Steps.{Alike, Reworded}
use Rattle.map_cargo.proofs.Walks.{Moves}
use Rattle.map_cargo.proofs.cells.close_gap.Given as goal

abbrev pub invariant-loop-from : goal.invariant-loop-from
invariant-loop-from l = record {
  pass : IsPassOf l.fn.hall l.pass;
  alike : Alike (view l.fn.pass) (view l.pass);
  inside : StaysInCell (cargo_of l.fn.hall) l.fn.cell (view l.fn.pass) (view l.pass);
  part : Reworded l.fn.cell (view l.fn.pass).part (view l.pass).part;
  closing : (m : PlainMap) → Table (cargo_of l.fn.hall).rows (words_of (view l.fn.pass).part l.fn.cell) m → Closing (cargo_of l.fn.hall).rows (words_of (view l.pass).part l.fn.cell) (without m (key_at (words_of (view l.fn.pass).part l.fn.cell) l.fn.row)) l.gap;
  moves : Moves (cargo_of l.fn.hall).rows (words_of (view l.initial.pass).part l.fn.cell) l.fn.row (words_of (view l.pass).part l.fn.cell) l.gap;
}

-- the ways of all used rows together: a move makes them shorter
abbrev pub decreases-loop-from : goal.decreases-loop-from
decreases-loop-from l = spread (cargo_of l.fn.hall).rows (words_of (view l.pass).part l.fn.cell)
