use Rattle.std.proofs.Common.{◌≡◌, ◌++◌}
use Rattle.hall.specs.Passes.{view, IsPassOf, cargo_of}
use Rattle.map_cargo.specs.Steps.{Alike, logged, row_stores}
use Rattle.map_cargo.proofs.history.log_row.Given as goal

abbrev pub invariant-loop-index : goal.invariant-loop-index
invariant-loop-index l = record {
  pass : IsPassOf l.fn.hall l.pass;
  alike : Alike (view l.fn.pass) (view l.pass);
  part : (view l.pass).part ≡ logged (view l.fn.pass).part l.index;
  steps : (view l.pass).steps ≡ row_stores (view l.fn.pass) (cargo_of l.fn.hall) l.fn.number l.fn.entry l.index ++ (view l.fn.pass).steps;
}
