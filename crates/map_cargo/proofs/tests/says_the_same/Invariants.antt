use Rattle.std.proofs.Common.{◌≡◌}
use Rattle.hall.specs.Passes.{view, IsPassOf}
use Rattle.map_cargo.specs.Steps.{IsIdle}
use Rattle.map_cargo.proofs.tests.says_the_same.Given as goal

abbrev pub invariant-loop-slot : goal.invariant-loop-slot
invariant-loop-slot g l = IsPassOf l.fn.hall l.pass × IsIdle (view l.pass) × ((view l.pass).quota ≡ (view l.fn.pass).quota)
