use Rattle.std.proofs.Common.{◌-◌, ◌≡◌, ◌<◌, ◌≤◌, ◌⊎◌}
use Rattle.hall.specs.Passes.{view, IsPassOf, cargo_of}
use Rattle.map_cargo.specs.History.{words_of}
use Rattle.map_cargo.specs.Probes.{StaysInCell}
use Rattle.map_cargo.specs.Rows.{way, Kept}
use Rattle.map_cargo.specs.Steps.{Alike}
use Rattle.map_cargo.proofs.cells.row_for.Given as goal

abbrev pub invariant-loop-distance : goal.invariant-loop-distance
invariant-loop-distance l = record {
  pass : IsPassOf l.fn.hall l.pass;
  alike : Alike (view l.fn.pass) (view l.pass);
  inside : StaysInCell (cargo_of l.fn.hall) l.fn.cell (view l.fn.pass) (view l.pass);
  part : (view l.pass).part ≡ (view l.fn.pass).part;
  all : l.rows ≡ (cargo_of l.fn.hall).rows;
  below : l.row < l.rows;
  some : 1 ≤ l.distance;
  few : l.distance ≤ l.rows;
  place : (way l.rows l.fn.gap l.row ≡ l.distance) ⊎ (l.distance ≡ l.rows);
  kept : Kept l.rows (words_of (view l.fn.pass).part l.fn.cell) l.fn.gap l.distance;
}

-- proposed from the loop's first test
abbrev pub decreases-loop-distance : goal.decreases-loop-distance
decreases-loop-distance l = l.rows - l.distance
