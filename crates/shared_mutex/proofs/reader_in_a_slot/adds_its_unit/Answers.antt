use Rattle.std.proofs.Common.{arith, true, ap, ◌∙◌}
use Rattle.hall.specs.declared.view.StepKind.TheVariants as kinds
use Rattle.hall.specs.Passes.{view}
use Rattle.hall.specs.SlotLaws.{stands_after}
use Rattle.hall.specs.Slotting.{handless}
use Rattle.hall.specs.Views.{standing, place_of}
use Rattle.shared_mutex.proofs.reader_in_a_slot.adds_its_unit.Goals as goal

pub returns-clause-announced : goal.returns-clause-announced
returns-clause-announced g c =
    let wide = c.requires.pass.0.2 in let some_lock = c.requires.pass.1 in let v = view c.args.pass.now in
    stands_after v (view c.add_hand-found.new.pass) 0 (place_of v 0) c.add_hand-found.result kinds.AddHand true (handless (standing v 0)) _ c.add_hand-found.ensures.step.0 (omega arith) ∙ ap handless c.requires.announced
