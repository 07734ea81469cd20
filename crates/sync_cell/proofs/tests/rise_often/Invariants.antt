use Rattle.hall.specs.Passes.{view, IsPassOf}
use Rattle.map_cargo.specs.Steps.{IsIdle}
use Rattle.sync_cell.proofs.tests.rise_often.Given as goal

abbrev pub invariant-loop : goal.invariant-loop
invariant-loop g l = IsPassOf l.hall l.pass × IsIdle (view l.pass)
