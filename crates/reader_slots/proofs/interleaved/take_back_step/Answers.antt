use Rattle.std.proofs.Common.{arith, false}
use Rattle.hall.specs.declared.view.StepKind.TheVariants as kinds
use Rattle.hall.specs.declared.view.Standing.TheVariants.{Owing}
use Rattle.hall.specs.Passes.{view}
use Rattle.hall.specs.SlotLaws.{stands_after}
use Rattle.reader_slots.proofs.interleaved.take_back_step.Goals as goal

pub returns-else-withdraw_slot-clause-stands : goal.returns-else-withdraw_slot-clause-stands
returns-else-withdraw_slot-clause-stands g c =
    let gone = c.withdraw_slot.ensures.gone c.if-withdraw_slot.false in let wide = c.requires.pass.0.2 in let one = c.requires.lock in
    stands_after (view c.args.pass.now) (view c.withdraw_slot.new.pass) 0 c.args.slot gone.0 kinds.WithdrawSlot false Owing _ gone.2.0 (omega arith)
