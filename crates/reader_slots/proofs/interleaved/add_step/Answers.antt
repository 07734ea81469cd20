use Rattle.std.proofs.Common.{arith, true, ap, sym, ◌∙◌}
use Rattle.hall.specs.declared.view.StepKind.TheVariants as kinds
use Rattle.hall.specs.Passes.{view}
use Rattle.hall.specs.SlotLaws.{stands_after}
use Rattle.hall.specs.Slotting.{handless}
use Rattle.hall.specs.Views.{standing, place_of}
use Rattle.reader_slots.proofs.interleaved.add_step.Goals as goal

pub returns-clause-stands : goal.returns-clause-stands
returns-clause-stands c =
    let wide = c.requires.pass.0.2 in let one = c.requires.lock in let v = view c.args.pass.now in
    stands_after v (view c.add_hand.new.pass) 0 (place_of v 0) c.add_hand.result kinds.AddHand true (handless (standing v 0)) _ c.add_hand.ensures.step.0 (omega arith) ∙ ap handless c.requires.pass.1 ∙ sym c.announcing-empty.ensures
