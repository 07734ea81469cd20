use Rattle.std.proofs.Common.{◌≡◌}
use Rattle.hall.specs.Passes.{view, IsPassOf, shape_of}
use Rattle.hall.specs.Views.{standing}
use Rattle.hall.specs.declared.view.Standing.TheVariants.{Away}
use Rattle.reader_slots.proofs.interleaved.every_interleaving.Given as goal

abbrev pub invariant-loop-way : goal.invariant-loop-way
invariant-loop-way g l = ((shape_of l.hall).locks ≡ 1) × (IsPassOf l.hall l.one × (standing (view l.one) 0 ≡ Away)) × (IsPassOf l.hall l.two × (standing (view l.two) 0 ≡ Away)) × (IsPassOf l.hall l.writer × (standing (view l.writer) 0 ≡ Away))
