use Rattle.hall.specs.Passes.{view, IsPassOf}
use Rattle.apply_deferred.specs.Sweeping.{SweepsFirst}
use Rattle.apply_deferred.proofs.scan.Given as goal

abbrev pub invariant-loop-slot : goal.invariant-loop-slot
invariant-loop-slot g l = IsPassOf l.hall l.pass × SweepsFirst g.C.CargoRule l.lock l.slot l.hand (view l.initial.pass) (view l.pass)
