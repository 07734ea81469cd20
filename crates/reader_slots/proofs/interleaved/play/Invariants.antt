use Rattle.std.proofs.Common.{◌≡◌}
use Rattle.hall.specs.Passes.{view, IsPassOf}
use Rattle.hall.specs.Views.{standing}
use Rattle.reader_slots.proofs.interleaved.play.Given as goal

abbrev pub invariant-loop-place : goal.invariant-loop-place
invariant-loop-place g l = (IsPassOf l.hall l.one × (standing (view l.one) 0 ≡ l.first.standing)) × (IsPassOf l.hall l.two × (standing (view l.two) 0 ≡ l.second.standing)) × (IsPassOf l.hall l.writer × (standing (view l.writer) 0 ≡ l.third.standing))
