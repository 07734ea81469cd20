use Rattle.std.proofs.Common.{◌-◌, ◌≡◌, ◌<◌, ◌≤◌, ◌⊎◌, length}
use Rattle.hall.specs.Passes.{view, IsPassOf, cargo_of}
use Rattle.map_cargo.specs.Cells.{width}
use Rattle.map_cargo.specs.History.{words_of}
use Rattle.map_cargo.specs.Probes.{StaysInCell}
use Rattle.map_cargo.specs.Rows.{home, way, LookedAt}
use Rattle.map_cargo.specs.Steps.{Alike}
use Rattle.map_cargo.proofs.Traces.{Goes}
use Rattle.map_cargo.proofs.cells.find.Given as goal

abbrev pub invariant-loop-walked : goal.invariant-loop-walked
invariant-loop-walked l = record {
  pass : IsPassOf l.fn.hall l.pass;
  alike : Alike (view l.fn.pass) (view l.pass);
  inside : StaysInCell (cargo_of l.fn.hall) l.fn.cell (view l.fn.pass) (view l.pass);
  part : (view l.pass).part ≡ (view l.fn.pass).part;
  all : l.rows ≡ (cargo_of l.fn.hall).rows;
  below : l.row < l.rows;
  few : l.walked ≤ l.rows;
  place : (way l.rows (home l.rows l.fn.key) l.row ≡ l.walked) ⊎ (l.walked ≡ l.rows);
  looked : LookedAt l.rows (words_of (view l.fn.pass).part l.fn.cell) l.fn.key l.walked;
  wide : 0 < l.walked → length (words_of (view l.fn.pass).part l.fn.cell) ≡ width (cargo_of l.fn.hall);
  goes : Goes (cargo_of l.fn.hall) (view l.fn.pass) l.fn.cell l.fn.key l.row (l.rows - l.walked) (view l.pass);
}

-- proposed from the loop's first test
abbrev pub decreases-loop-walked : goal.decreases-loop-walked
decreases-loop-walked l = l.rows - l.walked
