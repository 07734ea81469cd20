use Rattle.std.proofs.Common.{◌≤◌, ◌+◌}
use Rattle.hall.specs.Passes.{view, IsPassOf}
use Rattle.map_cargo.specs.Steps.{IsIdle}
use Rattle.map_cargo.proofs.tests.ask_many.Given as goal

abbrev pub invariant-loop-value : goal.invariant-loop-value
invariant-loop-value g l = IsPassOf l.fn.hall l.pass × IsIdle (view l.pass) × ((view l.fn.pass).quota ≤ (view l.pass).quota + l.value)
