use Rattle.std.proofs.Common.{arith, false}
use Rattle.hall.specs.declared.view.StepKind.TheVariants as kinds
use Rattle.hall.specs.declared.view.Standing.TheVariants.{Inline}
use Rattle.hall.specs.Passes.{view}
use Rattle.hall.specs.SlotLaws.{stands_after}
use Rattle.reader_slots.proofs.interleaved.leave_step.Goals as goal

pub returns-else-leave_slot-clause-stands : goal.returns-else-leave_slot-clause-stands
returns-else-leave_slot-clause-stands g c =
    let gone = c.leave_slot.ensures.gone c.if-leave_slot.false in let wide = c.requires.pass.0.2 in let one = c.requires.lock in
    stands_after (view c.args.pass.now) (view c.leave_slot.new.pass) 0 c.args.slot gone.0 kinds.LeaveSlot false Inline _ gone.2.0 (omega arith)
