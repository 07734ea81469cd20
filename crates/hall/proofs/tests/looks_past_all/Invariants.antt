use Rattle.std.proofs.Common.{◌≡◌, false}
use Rattle.hall.specs.Passes.{view, IsPassOf}
use Rattle.hall.specs.Views.{standing}
use Rattle.hall.specs.declared.view.Standing.TheVariants.{Announcing}
use Rattle.hall.proofs.tests.looks_past_all.Given as goal

abbrev pub invariant-loop-slot : goal.invariant-loop-slot
invariant-loop-slot g l = IsPassOf l.hall l.pass × (standing (view l.pass) 0 ≡ Announcing l.slot l.hand false)
