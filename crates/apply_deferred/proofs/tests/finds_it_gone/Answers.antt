use Rattle.std.proofs.Common.{arith, false}
use Rattle.hall.specs.declared.view.StepKind.TheVariants as kinds
use Rattle.hall.specs.declared.view.Standing.TheVariants.{Owing}
use Rattle.hall.specs.Passes.{view}
use Rattle.hall.specs.SlotLaws.{stands_after}
use Rattle.apply_deferred.proofs.tests.finds_it_gone.Goals as goal

pub returns-clause-owing : goal.returns-clause-owing
returns-clause-owing g c =
    let gone = c.withdraw_slot.ensures.gone c.if-withdraw_slot.false in let wide = c.requires.pass.0.2 in let some_lock = c.requires.pass.1 in
    stands_after (view c.args.pass.now) (view c.withdraw_slot.new.pass) 0 c.args.slot gone.0 kinds.WithdrawSlot false Owing _ gone.2.0 (omega arith)
