use Rattle.std.proofs.Common.{arith, false, sym, ◌∙◌}
use Rattle.hall.specs.Passes.{view}
use Rattle.hall.specs.SlotLaws.{picked_one, picked_none}
use Rattle.reader_slots.proofs.interleaved.pick_step.Goals as goal

pub returns-then-pick-clause-stands : goal.returns-then-pick-clause-stands
returns-then-pick-clause-stands g c =
    let wide = c.requires.pass.0.2 in let one = c.requires.lock in
    picked_one (view c.args.pass.now) (view c.pick.new.pass) 0 c.args.slot c.args.hand false (omega arith) c.requires.pass.1 (c.pick.ensures.picked c.if-pick.true).0 ∙ sym c.announcing-has_more.ensures

pub returns-else-pick-clause-stands : goal.returns-else-pick-clause-stands
returns-else-pick-clause-stands g c =
    let wide = c.requires.pass.0.2 in let one = c.requires.lock in let gone = c.pick.ensures.gone c.if-pick.false in
    picked_none (view c.args.pass.now) (view c.pick.new.pass) 0 c.args.slot c.args.hand false (omega arith) c.requires.pass.1 gone.0 gone.2.0 ∙ sym c.announcing-goes_on.ensures
