use Rattle.std.proofs.Common.{◌≤◌, ◌+◌}
use Rattle.hall.specs.Passes.{view, IsPassOf}
use Rattle.map_cargo.specs.Steps.{IsIdle}
use Rattle.map_cargo.proofs.tests.fill.Given as goal

abbrev pub invariant-loop-key : goal.invariant-loop-key
invariant-loop-key g l = IsPassOf l.fn.hall l.pass × IsIdle (view l.pass) × ((view l.fn.pass).quota ≤ (view l.pass).quota + l.key)
